-- Where each relay is open or closed, one number tells their pictures apart. Assumes nothing.
use mathlib.Core.Path.{◌≡◌, refl, sym}
use mathlib.Core.Bool.{Bool, true, false, ◌&&◌, ◌||◌}
use Prim.Native.Nat.{ℕ, ◌+◌, ◌*◌, ◌≤◌}
use native.Mathlib.Omega.{arith}
use borrow.Author.Tests.{eqb-true, eqb-false, eq-eqb, ne_eqb}
use lib.Dec.{eqb}
use Rattle.catalogue.specs.declared.Raw.{Raw}
use Rattle.power.specs.declared.Observation.{Observation}
use Rattle.power.specs.Observed.{shows}
use Rattle.power.specs.PictureNumbers.{relays_number}
use Rattle.power.specs.Refusals.{open_or_closed, relays_fit_spec}
use Rattle.power.proofs.Ands.{left, right}

one_or_two : (relay : Raw) → open_or_closed relay ≡ true → (1 ≤ relay.0) × (relay.0 ≤ 2)
one_or_two relay = go (eqb relay.0 1) (eqb relay.0 2) refl refl
  where
    go : (a b : Bool) → eqb relay.0 1 ≡ a → eqb relay.0 2 ≡ b → a || b ≡ true → (1 ≤ relay.0) × (relay.0 ≤ 2)
    go true b e f h = (omega (arith, eqb-true relay.0 1 e), omega (arith, eqb-true relay.0 1 e))
    go false true e f h = (omega (arith, eqb-true relay.0 2 f), omega (arith, eqb-true relay.0 2 f))
    go false false e f h = let z : ◌≡◌ {A = ℕ} 0 1 = cc in absurd (omega arith)

module _ (seen : Observation) (fit : relays_fit_spec seen ≡ true) where
  abbrev negative : Bool
  negative = open_or_closed seen.main_negative

  abbrev precharged : Bool
  precharged = open_or_closed seen.precharge

  abbrev positive : Bool
  positive = open_or_closed seen.main_positive

  pub first_fits : (1 ≤ seen.main_negative.0) × (seen.main_negative.0 ≤ 2)
  first_fits = one_or_two seen.main_negative (left negative precharged (left (negative && precharged) positive fit))

  pub second_fits : (1 ≤ seen.precharge.0) × (seen.precharge.0 ≤ 2)
  second_fits = one_or_two seen.precharge (right negative precharged (left (negative && precharged) positive fit))

  pub third_fits : (1 ≤ seen.main_positive.0) × (seen.main_positive.0 ≤ 2)
  third_fits = one_or_two seen.main_positive (right (negative && precharged) positive fit)

  by_number : (n p m : ℕ) → (1 ≤ n) × (n ≤ 2) → (1 ≤ p) × (p ≤ 2) → (1 ≤ m) × (m ≤ 2) → shows n p m seen ≡ eqb (relays_number seen) (4 * n + 2 * p + m)
  by_number n p m a b c = go (eqb seen.main_negative.0 n) (eqb seen.precharge.0 p) (eqb seen.main_positive.0 m) refl refl refl
    where
      go : (f s t : Bool) → eqb seen.main_negative.0 n ≡ f → eqb seen.precharge.0 p ≡ s → eqb seen.main_positive.0 m ≡ t → f && s && t ≡ eqb (relays_number seen) (4 * n + 2 * p + m)
      go true true true f s t = sym (eq-eqb (relays_number seen) (4 * n + 2 * p + m) (omega (arith, eqb-true seen.main_negative.0 n f, eqb-true seen.precharge.0 p s, eqb-true seen.main_positive.0 m t)))
      go true true false f s t = sym (ne_eqb (relays_number seen) (4 * n + 2 * p + m) (λ e. eqb-false seen.main_positive.0 m t (omega (arith, e, eqb-true seen.main_negative.0 n f, eqb-true seen.precharge.0 p s))))
      go true false w f s t = sym (ne_eqb (relays_number seen) (4 * n + 2 * p + m) (λ e. eqb-false seen.precharge.0 p s (omega (arith, e, eqb-true seen.main_negative.0 n f, third_fits, c))))
      go false v w f s t = sym (ne_eqb (relays_number seen) (4 * n + 2 * p + m) (λ e. eqb-false seen.main_negative.0 n f (omega (arith, e, second_fits, third_fits, b, c))))

  is_open : (1 ≤ 1) × (1 ≤ 2)
  is_open = (omega arith, omega arith)

  is_closed : (1 ≤ 2) × (2 ≤ 2)
  is_closed = (omega arith, omega arith)

  pub ooo : shows 1 1 1 seen ≡ eqb (relays_number seen) 7
  ooo = by_number 1 1 1 is_open is_open is_open

  pub coo : shows 2 1 1 seen ≡ eqb (relays_number seen) 11
  coo = by_number 2 1 1 is_closed is_open is_open

  pub coc : shows 2 1 2 seen ≡ eqb (relays_number seen) 12
  coc = by_number 2 1 2 is_closed is_open is_closed

  pub cco : shows 2 2 1 seen ≡ eqb (relays_number seen) 13
  cco = by_number 2 2 1 is_closed is_closed is_open

  pub ccc : shows 2 2 2 seen ≡ eqb (relays_number seen) 14
  ccc = by_number 2 2 2 is_closed is_closed is_closed
