-- From the masks of `reach` to chains. Assumes nothing.
use mathlib.Core.Path.{◌≡◌, refl, sym, ap, ◌∙◌, subst}
use mathlib.Core.Logic.{⊎_elim}
use mathlib.Core.Bool.{Bool, true, false, not, ◌||◌, ◌&&◌, true≢false, and-eq-true_iff}
use Prim.Native.Nat.{ℕ, ◌-◌, ◌<◌, ◌≤◌}
use native.Mathlib.Omega.{arith}
use native.Mathlib.Decide.{dec_le}
use mathlib.Core.List.{List}
use lib.ListN.{length, get_or}
use lib.Dec.{eqb}
use borrow.Author.Tests.{eqb-true, eqb-false, eq-eqb, ne_eqb, not-true}
use Rattle.masks.specs.Bit.{width, bit, meeting}
use Rattle.masks.proofs.Bits.{bit_zero, meeting_some}
use Rattle.masks.proofs.Told.{more_bits}
use Rattle.chains.specs.Chain.{LeadsOn}
use Rattle.chains.specs.Tells.{Tells}
use Rattle.chains.specs.Tests.{any, FirstPassing}
use Rattle.chains.proofs.Bools.{or_cases, or_left, or_right, same_test, told_yes, told_of, told_same}
use Rattle.chains.proofs.Reach.{reach, reach_leads, leads_reach, reach_tells}
use Rattle.chains.proofs.Walks.{walk_last}
use Rattle.chains.proofs.Loops.{comes_back_spec}
use Rattle.chains.proofs.Tests.{any_some, some_any, comes_to, meet_again, fork, begins}
use Rattle.reach.specs.Led.{Numbers, Led}
use Rattle.gateway_checker.specs.Searches.{leads_back, ForksEarlier, StartsAt, begins_by}
use Rattle.gateway_checker.proofs.Meeting.{meets_at, meets_back}

pub first_same : (P Q : ℕ → Bool) (n r : ℕ) → ((i : ℕ) → i < n → P i ≡ Q i) → FirstPassing P n r → FirstPassing Q n r
first_same P Q n r e f = record { within = f.within; before = λ k l. sym (e k (omega (arith, f.within))) ∙ f.before k l; found = λ l. sym (e r l) ∙ f.found l }

module _ (ss es onward : List ℕ) (led : Led ss es onward) where
  leads : (i x : ℕ) → i < length ss → bit (get_or onward i 0) x ≡ true → LeadsOn ss es i x
  unfolding Led
  leads i x l e = told_yes (bit (get_or onward i 0) x) (led i x l) e

  has : (i x : ℕ) → i < length ss → LeadsOn ss es i x → bit (get_or onward i 0) x ≡ true
  unfolding Led
  has i x l w = told_of (bit (get_or onward i 0) x) (led i x l) w

  pub back_same : (i : ℕ) → i < length ss → leads_back ss onward i ≡ comes_back_spec ss es i
  unfolding Led
  back_same i l = told_same (LeadsOn ss es i (get_or ss i 0)) (leads_back ss onward i) (comes_back_spec ss es i) (led i (get_or ss i 0) l) (reach_tells ss es i (get_or ss i 0))

  abbrev both : ℕ → ℕ → ℕ → Bool
  both a b v = reach ss es (length ss) a (get_or es v 0) && reach ss es (length ss) b (get_or es v 0)

  meets_same : (a b : ℕ) → a < length ss → b < length ss → meeting (get_or onward a 0) (get_or onward b 0) ≡ true → meet_again ss es a b ≡ true
  unfolding meet_again
  meets_same a b la lb e =
      let r = meeting_some (get_or onward a 0) (get_or onward b 0) e in
      let w = leads a r.0 la r.1 in
      let v = walk_last ss es (get_or ss a 0) a w.0 r.0 (la, refl, w.1) in
      some_any (length ss) (both a b) v.0 v.1
      ((and-eq-true_iff _ _).1 (
        leads_reach ss es a (get_or es v.0 0) (subst (λ (x : ℕ). LeadsOn ss es a x) (sym v.2) w),
        leads_reach ss es b (get_or es v.0 0) (subst (λ (x : ℕ). LeadsOn ss es b x) (sym v.2) (leads b r.0 lb r.2)),
      ))

  same_meets : (a b : ℕ) → a < length ss → b < length ss → meet_again ss es a b ≡ true → meeting (get_or onward a 0) (get_or onward b 0) ≡ true
  unfolding meet_again
  same_meets a b la lb e =
      let r = any_some (length ss) (both a b) e in
      let g = (and-eq-true_iff (reach ss es (length ss) a (get_or es r.0 0)) (reach ss es (length ss) b (get_or es r.0 0))).0 r.2 in
      meets_at (get_or onward a 0) (get_or onward b 0) (get_or es r.0 0) (has a _ la (reach_leads ss es a _ g.0)) (has b _ lb (reach_leads ss es b _ g.1))

  -- of two routes that fork the higher does so with one of an earlier turn upwards
  module _ (up : ℕ) (told-up : (a : ℕ) → Tells (ForksEarlier ss onward false (length ss) a) (bit up a)) where
    none_forks : up ≡ 0 → (a b : ℕ) → a < length ss → b < length ss → fork ss es a b ≡ true → ⊥
    unfolding fork
    none_forks z a b la lb h =
        let g = (and-eq-true_iff (not (eqb a b) && eqb (get_or ss a 0) (get_or ss b 0)) (meet_again ss es a b)).0 h in
        let k = (and-eq-true_iff (not (eqb a b)) (eqb (get_or ss a 0) (get_or ss b 0))).0 g.0 in
        let e = eqb-true _ _ k.1 in
        let m = same_meets a b la lb g.1 in
        go (dec_le a b) (eqb-false a b (not-true (eqb a b) k.0)) e m
      where
        no_bit : (x : ℕ) → ForksEarlier ss onward false (length ss) x → ⊥
        no_bit x f = true≢false (sym (told_of (bit up x) (told-up x) f) ∙ ap (λ (y : ℕ). bit y x) z ∙ bit_zero x)

        go : Dec (a ≤ b) → (a ≡ b → ⊥) → get_or ss a 0 ≡ get_or ss b 0 → meeting (get_or onward a 0) (get_or onward b 0) ≡ true → ⊥
        go (yes l) n e m = no_bit b (b, a, lb, omega arith, refl, e, m)
        go (no g) n e m = no_bit a (a, b, la, omega arith, refl, sym e, meets_back (get_or onward a 0) (get_or onward b 0) m)

    pub none_begins : up ≡ 0 → FirstPassing (begins ss es) (length ss) (length ss)
    unfolding begins
    none_begins z = record { within = omega arith; before = λ i l. never i (begins ss es i) refl; found = λ l. absurd (omega arith) }
      where
        never : (i : ℕ) (b : Bool) → begins ss es i ≡ b → begins ss es i ≡ false
        never i false e = e
        never i true e =
            let r = any_some (length ss) (λ a. comes_to ss es i a && any (length ss) (λ b. fork ss es a b)) e in
            let s = any_some (length ss) (λ b. fork ss es r.0 b) ((and-eq-true_iff (comes_to ss es i r.0) (any (length ss) (λ b. fork ss es r.0 b))).0 r.2).1 in
            absurd (none_forks z r.0 s.0 r.1 s.1 s.2)

  -- the routes that fork with one of an earlier turn, upwards and downwards, are those that fork
  module _ (up below forks : ℕ) (told-up : (a : ℕ) → Tells (ForksEarlier ss onward false (length ss) a) (bit up a))
      (told-down : (a : ℕ) → Tells (ForksEarlier ss onward true (length ss) a) (bit below a)) (either : (a : ℕ) → bit forks a ≡ bit up a || bit below a) where
    forked : (a b : ℕ) → a < length ss → b < length ss → (a ≡ b → ⊥) → get_or ss b 0 ≡ get_or ss a 0 → meeting (get_or onward b 0) (get_or onward a 0) ≡ true
        → any (length ss) (λ b. fork ss es a b) ≡ true
    unfolding fork
    forked a b la lb n e m =
        some_any (length ss) (λ b. fork ss es a b) b lb
        ((and-eq-true_iff _ _).1 ((and-eq-true_iff _ _).1 (ap not (ne_eqb a b n), eq-eqb _ _ (sym e)), meets_same a b la lb (meets_back (get_or onward b 0) (get_or onward a 0) m)))

    earlier_forked : (down : Bool) (a : ℕ) → ForksEarlier ss onward down (length ss) a → (a < length ss) × (any (length ss) (λ b. fork ss es a b) ≡ true)
    earlier_forked false a (t, u, lt, lu, q, e, m) = let l : a < length ss = omega arith in (l, forked a u l (omega arith) (λ z. absurd (omega arith)) e m)
    earlier_forked true a (t, u, lt, lu, q, e, m) =
        let l : a < length ss = omega arith in (l, forked a (length ss - 1 - u) l (omega arith) (λ z. absurd (omega arith)) e m)

    pub forks_is : (a : ℕ) → bit forks a ≡ true → (a < length ss) × (any (length ss) (λ b. fork ss es a b) ≡ true)
    forks_is a h =
        ⊎_elim (λ b. earlier_forked false a (told_yes (bit up a) (told-up a) b)) (λ b. earlier_forked true a (told_yes (bit below a) (told-down a) b))
        (or_cases (bit up a) (bit below a) (sym (either a) ∙ h))

    pub is_forks : (a : ℕ) → a < length ss → any (length ss) (λ b. fork ss es a b) ≡ true → bit forks a ≡ true
    unfolding fork
    is_forks a la h =
        let r = any_some (length ss) (λ b. fork ss es a b) h in
        let b = r.0 in
        let g = (and-eq-true_iff (not (eqb a b) && eqb (get_or ss a 0) (get_or ss b 0)) (meet_again ss es a b)).0 r.2 in
        let k = (and-eq-true_iff (not (eqb a b)) (eqb (get_or ss a 0) (get_or ss b 0))).0 g.0 in
        let n = eqb-false a b (not-true (eqb a b) k.0) in
        let e = sym (eqb-true _ _ k.1) in
        let m = meets_back (get_or onward a 0) (get_or onward b 0) (same_meets a b la r.1 g.1) in
        either a ∙ at b (dec_le a b) r.1 n e m
      where
        at : (b : ℕ) → Dec (a ≤ b) → b < length ss → (a ≡ b → ⊥) → get_or ss b 0 ≡ get_or ss a 0 → meeting (get_or onward b 0) (get_or onward a 0) ≡ true
            → bit up a || bit below a ≡ true
        at b (yes l) lb n e m =
            let back : length ss - 1 - (length ss - 1 - b) ≡ b = omega arith in
            or_right (bit up a) (bit below a)
            (told_of (bit below a) (told-down a) (
              length ss - 1 - a,
              length ss - 1 - b,
              omega arith,
              omega arith,
              omega arith,
              ap (λ (x : ℕ). get_or ss x 0) back ∙ e,
              ap (λ (x : ℕ). meeting (get_or onward x 0) (get_or onward a 0)) back ∙ m,
            ))
        at b (no g) lb n e m = or_left (bit up a) (bit below a) (told_of (bit up a) (told-up a) (a, b, la, omega arith, refl, e, m))

    -- and with where those start, the routes that begin a doubling
    module _ (low : Numbers ss es) (places : ℕ) (told-places : (x : ℕ) → Tells (StartsAt ss forks (length ss) x) (bit places x)) where
      abbrev begun : ℕ → ℕ → Bool
      begun i a = comes_to ss es i a && any (length ss) (λ b. fork ss es a b)

      pub begins_same : (i : ℕ) → i < length ss → begins_by onward forks places i ≡ begins ss es i
      unfolding begins comes_to
      begins_same i l =
          same_test (begins_by onward forks places i) (any (length ss) (begun i))
          (λ e. ⊎_elim own onwards (or_cases (bit forks i) (meeting (get_or onward i 0) places) e)) back
        where
          own : bit forks i ≡ true → any (length ss) (begun i) ≡ true
          own x = some_any (length ss) (begun i) i l ((and-eq-true_iff _ _).1 (or_right (reach ss es (length ss) i (get_or ss i 0)) (eqb i i) (eq-eqb i i refl), (forks_is i x).1))

          onwards : meeting (get_or onward i 0) places ≡ true → any (length ss) (begun i) ≡ true
          onwards e =
              let r = meeting_some (get_or onward i 0) places e in
              let s = told_yes (bit places r.0) (told-places r.0) r.2 in
              some_any (length ss) (begun i) s.0 s.1
              ((and-eq-true_iff _ _).1 (
                or_left (reach ss es (length ss) i (get_or ss s.0 0)) (eqb s.0 i)
                    (leads_reach ss es i (get_or ss s.0 0) (subst (λ (x : ℕ). LeadsOn ss es i x) (sym s.3) (leads i r.0 l r.1))),
                (forks_is s.0 s.2).1,
              ))

          back : any (length ss) (begun i) ≡ true → begins_by onward forks places i ≡ true
          back e =
              let r = any_some (length ss) (begun i) e in
              let a = r.0 in
              let g = (and-eq-true_iff (reach ss es (length ss) i (get_or ss a 0) || eqb a i) (any (length ss) (λ b. fork ss es a b))).0 r.2 in
              let f = is_forks a r.1 g.1 in
              ⊎_elim
              (λ z. let w = reach_leads ss es i (get_or ss a 0) z in
              let v = walk_last ss es (get_or ss i 0) i w.0 (get_or ss a 0) (l, refl, w.1) in
              let small : get_or ss a 0 < width = omega (arith, v.2, low.to.low v.0 (omega (arith, v.1, low.same))) in
              or_right (bit forks i) (meeting (get_or onward i 0) places)
              (meets_at (get_or onward i 0) places (get_or ss a 0) (has i (get_or ss a 0) l w)
              (told_of (bit places (get_or ss a 0)) (told-places (get_or ss a 0)) (a, r.1, f, refl, small))))
              (λ z. or_left (bit forks i) (meeting (get_or onward i 0) places) (subst (λ (k : ℕ). bit forks k ≡ true) (eqb-true a i z) f))
              (or_cases (reach ss es (length ss) i (get_or ss a 0)) (eqb a i) g.0)

      -- there is one where some route forks
      pub some_begins : (r : ℕ) → (up ≡ 0 → ⊥) → FirstPassing (begins_by onward forks places) (length ss) r → r < length ss
      some_begins r nz f = go (dec_le (length ss) r)
        where
          no_bit : length ss ≤ r → (a : ℕ) → bit up a ≡ true → bit 0 a ≡ true
          no_bit l a h =
              let x : bit forks a ≡ true = either a ∙ or_left (bit up a) (bit below a) h in
              absurd (true≢false (sym (or_left (bit forks a) (meeting (get_or onward a 0) places) x) ∙ f.before a (omega (arith, (forks_is a x).0))))

          go : Dec (length ss ≤ r) → r < length ss
          go (yes l) = absurd (nz (omega (arith, more_bits up 0 (no_bit l))))
          go (no n) = omega arith
