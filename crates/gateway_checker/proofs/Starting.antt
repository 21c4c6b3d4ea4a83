-- The search for where the routes of a mask start. Assumes nothing.
use mathlib.Core.Path.{◌≡◌, sym, ap, ◌∙◌, subst}
use mathlib.Core.Logic.{◌⊎◌, inl, inr, ⊎_elim}
use mathlib.Core.Bool.{true, ◌||◌, true≢false}
use Prim.Native.Nat.{ℕ, ◌+◌, ◌<◌, ◌≤◌}
use native.Mathlib.Omega.{arith}
use native.Mathlib.Nat.{eq-or-lt_of_le}
use mathlib.Core.List.{List}
use lib.ListN.{length, get_or}
use lib.Dec.{eqb}
use borrow.Author.Tests.{eqb-true, eq-eqb}
use Rattle.masks.specs.Bit.{width, bit}
use Rattle.masks.proofs.Bits.{bit_zero}
use Rattle.chains.specs.Tells.{Tells}
use Rattle.chains.proofs.Bools.{or_cases, or_left, or_right, test_tells}
use Rattle.gateway_checker.specs.Searches.{StartsAt}

module _ (starts : List ℕ) (routes : ℕ) where
  -- the mask has where those of the first i routes start
  pub record Starting (i at : ℕ) : Type 0 where
    pub within : i ≤ length starts
    pub start_is : (x : ℕ) → bit at x ≡ true → StartsAt starts routes i x
    pub is_start : (x : ℕ) → StartsAt starts routes i x → bit at x ≡ true

  pub starting_start : Starting 0 0
  starting_start = record { within = omega arith; start_is = λ x h. absurd (true≢false (sym h ∙ bit_zero x)); is_start = λ x s. let z = s.1 in absurd (omega (arith, z)) }

  pub starting_end : (i at : ℕ) → Starting i at → length starts ≤ i → (x : ℕ) → Tells (StartsAt starts routes (length starts) x) (bit at x)
  starting_end i at inv h x =
      let e : i ≡ length starts = omega (arith, inv.within) in
      test_tells (bit at x) (λ b. subst (λ (m : ℕ). StartsAt starts routes m x) e (inv.start_is x b))
      (λ s. inv.is_start x (subst (λ (m : ℕ). StartsAt starts routes m x) (sym e) s))

  module _ (i at : ℕ) (inv : Starting i at) (l : i < length starts) where
    before : (x : ℕ) → StartsAt starts routes i x → StartsAt starts routes (i + 1) x
    before x (a, b, h, e, k) = (a, omega arith, h, e, k)

    either : (x : ℕ) → StartsAt starts routes (i + 1) x → StartsAt starts routes i x ⊎ ((bit routes i ≡ true) × (get_or starts i 0 ≡ x) × (x < width))
    either x (a, b, h, e, k) =
        ⊎_elim (λ q. inr (ap (λ (y : ℕ). bit routes y) (sym q) ∙ h, ap (λ (y : ℕ). get_or starts y 0) (sym q) ∙ e, k)) (λ c. inl (a, c, h, e, k)) (eq-or-lt_of_le (omega arith))

    pub starting_set : (s v : ℕ) → s ≡ get_or starts i 0 → bit routes i ≡ true → s < width → ((x : ℕ) → bit v x ≡ bit at x || eqb x s) → Starting (i + 1) v
    starting_set s v is has low bits = record {
      within = omega arith;
      start_is = λ x h.
          ⊎_elim (λ b. before x (inv.start_is x b)) (λ b. let q = eqb-true x s b in (i, omega arith, has, sym is ∙ sym q, omega arith))
          (or_cases (bit at x) (eqb x s) (sym (bits x) ∙ h));
      is_start = λ x h. bits x ∙ ⊎_elim (λ b. or_left (bit at x) (eqb x s) (inv.is_start x b))
          (λ b. or_right (bit at x) (eqb x s) (eq-eqb x s (sym (is ∙ b.1)))) (either x h);
    }

    pub starting_keep : (s : ℕ) → s ≡ get_or starts i 0 → ((bit routes i ≡ true) → s < width → ⊥) → Starting (i + 1) at
    starting_keep s is none = record {
      within = omega arith;
      start_is = λ x h. before x (inv.start_is x h);
      is_start = λ x h. ⊎_elim (λ b. inv.is_start x b) (λ b. absurd (none b.0 (let q = b.1 in let k = b.2 in omega (arith, is, q, k)))) (either x h);
    }
