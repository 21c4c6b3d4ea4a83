-- Masks that are real, and to which all routes have handed on, say what each route leads on to. Assumes nothing.
use mathlib.Core.Path.{◌≡◌, refl, sym, ap, ◌∙◌, subst}
use mathlib.Core.Logic.{⊎_elim}
use mathlib.Core.Bool.{true, false, ◌||◌, true≢false}
use Prim.Native.Nat.{ℕ, ◌+◌, ◌<◌, ◌≤◌}
use native.Mathlib.Omega.{arith}
use mathlib.Core.List.{List, [], ◌∷◌}
use lib.ListN.{length, get_or, set, replicate, length-set}
use lib.Seq.{get_or-set_same, get_or-set_other}
use lib.Dec.{eqb}
use borrow.Author.Count.{below_more}
use borrow.Author.Tests.{eqb-true, eq-eqb}
use Rattle.zeros.proofs.Gathering.{zero_at}
use Rattle.masks.specs.Bit.{bit}
use Rattle.masks.proofs.Bits.{bit_zero}
use Rattle.chains.specs.Chain.{Walk, LeadsOn}
use Rattle.chains.specs.Tells.{Tells}
use Rattle.chains.proofs.Bools.{or_cases, or_left, or_right, test_tells}
use Rattle.reach.specs.Led.{Led, OnwardFilled}
use Rattle.reach.specs.Handing.{Real, Settled}
use Rattle.reach.proofs.Handed.{as_walk}

-- empty masks have no bit
pub bit_empty : (n x k : ℕ) → bit (get_or (replicate n 0) x 0) k ≡ false
bit_empty n x k = ap (λ (m : ℕ). bit m k) (zero_at n x) ∙ bit_zero k

module _ (starts ends : List ℕ) where
  pub real_start : (n : ℕ) → Real starts ends (replicate n 0)
  unfolding Real
  real_start n x y h = absurd (true≢false (sym h ∙ bit_empty n x y))

  module _ (m : List ℕ) (is : Settled starts ends m) where
    -- where a walk goes from the end of route i is among what the route hands on
    told : (i : ℕ) (c : List ℕ) (x : ℕ) → Walk starts ends (get_or ends i 0) c x → bit (get_or m (get_or ends i 0) 0) x || eqb x (get_or ends i 0) ≡ true
    told i [] x w = or_right (bit (get_or m (get_or ends i 0) 0) x) (eqb x (get_or ends i 0)) (eq-eqb _ _ (sym w))
    told i (j ∷ c) x (l, f, w) =
        or_left (bit (get_or m (get_or ends i 0) 0) x) (eqb x (get_or ends i 0))
        (subst (λ (p : ℕ). bit (get_or m p 0) x ≡ true) f (is.handed j l x (told j c x w)))

    leads : (i x : ℕ) → bit (get_or m (get_or ends i 0) 0) x || eqb x (get_or ends i 0) ≡ true → LeadsOn starts ends i x
    unfolding Real
    leads i x h =
        ⊎_elim (λ b. let r = is.real (get_or ends i 0) x b in (r.0, as_walk starts ends (get_or ends i 0) r.0 x r.1)) (λ b. ([], sym (eqb-true _ _ b)))
        (or_cases (bit (get_or m (get_or ends i 0) 0) x) (eqb x (get_or ends i 0)) h)

    pub tells_one : (i e w : ℕ) → e ≡ get_or ends i 0 → ((k : ℕ) → bit w k ≡ bit (get_or m e 0) k || eqb k e) → (x : ℕ) → Tells (LeadsOn starts ends i x) (bit w x)
    tells_one i e w end bits x =
        let same : bit w x ≡ (bit (get_or m (get_or ends i 0) 0) x || eqb x (get_or ends i 0)) = bits x ∙ ap (λ (y : ℕ). bit (get_or m y 0) x || eqb x y) end in
        test_tells (bit w x) (λ h. leads i x (sym same ∙ h)) (λ l. same ∙ told i l.0 x l.1)

-- the masks of the first i routes say it
pub record Leading (starts ends onward₀ onward : List ℕ) (i : ℕ) : Type 0 where
  pub within : i ≤ length starts
  pub long : length onward ≡ length onward₀
  pub rest : (j : ℕ) → length starts ≤ j → get_or onward j 0 ≡ get_or onward₀ j 0
  pub done : (j : ℕ) → j < i → (x : ℕ) → Tells (LeadsOn starts ends j x) (bit (get_or onward j 0) x)

pub leading_start : (starts ends onward : List ℕ) → Leading starts ends onward onward 0
leading_start starts ends onward = record { within = omega arith; long = refl; rest = λ j l. refl; done = λ j l. absurd (omega arith) }

pub leading_more : (starts ends onward₀ onward : List ℕ) (i : ℕ) → Leading starts ends onward₀ onward i → i < length starts → i < length onward
    → (w : ℕ) → ((x : ℕ) → Tells (LeadsOn starts ends i x) (bit w x)) → Leading starts ends onward₀ (set onward i w) (i + 1)
leading_more starts ends onward₀ onward i inv l il w tells = record {
  within = omega arith;
  long = length-set onward i w ∙ inv.long;
  rest = λ j b. get_or-set_other onward i j w 0 (λ z. absurd (omega arith)) ∙ inv.rest j b;
  done = below_more (λ (j : ℕ). (x : ℕ) → Tells (LeadsOn starts ends j x) (bit (get_or (set onward i w) j 0) x)) i
      (λ j b x. rw (get_or-set_other onward i j w 0 (λ z. absurd (omega arith))) (inv.done j b x))
      (λ x. rw (get_or-set_same onward i w 0 il) (tells x));
}

pub leading_end : (starts ends onward₀ onward : List ℕ) (i : ℕ) → Leading starts ends onward₀ onward i → length starts ≤ i → OnwardFilled starts ends onward₀ onward
unfolding Led
leading_end starts ends onward₀ onward i inv h = record { led = λ j x l. inv.done j (omega arith) x; long = inv.long; rest = inv.rest }
