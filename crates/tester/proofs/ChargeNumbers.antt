-- From the monitor's own refusal to what the call returns and leaves; and the number that the header gives a new monitor. Assumes nothing.
use Rattle.std.specs.Prelude.{◌≡◌, ℕ, List, refl, Option, Some, None, Ok, Err}
use Rattle.std.specs.Option.{ok_or}
use Rattle.std.proofs.Common.{sym, ap, ◌∙◌, arith}
use Rattle.charging.specs.declared.ChargeObservation.{ChargeObservation}
use Rattle.charging.specs.declared.ChargeState.{ChargeState}
use Rattle.charging.specs.declared.CountTooWide.{CountTooWide}
use Rattle.charging.specs.declared.NotAChargeState.{NotAChargeState}
use Rattle.charging.specs.States.{charge_numbered, charge_state_or_not}
use Rattle.charging.specs.Refusals.{ChargeStepped, ChargeAnswer, charge_refusal, charge_for, charge_if_taken, charge_step_of}
use Rattle.tester.specs.Following.{first_charge, charge_seen_in, charge_from, charge_followed}
use Rattle.tester.proofs.Followed.{kept_in_numbers}

-- PCT_CHARGE_START is 0
pub starts_at_0 : first_charge ≡ 0
starts_at_0 = refl

-- the state that a number was converted to is the one that it stands for
stands_for : (o : Option ChargeState) (e : NotAChargeState) {from : ChargeState} → Ok from ≡ ok_or o e → o ≡ Some from
stands_for (Some s) e h = cc
stands_for None e h = cc

refused_number : (s : ChargeStepped) {why : CountTooWide} → Err why ≡ charge_if_taken s → charge_refusal s.answer ≡ 81
refused_number s {why} h = go s.answer h
  where
    go : (a : ChargeAnswer) → Err why ≡ charge_for s.state a → charge_refusal a ≡ 81
    go (Ok _) h = cc
    go (Err _) h = refl

pair_is : (p : ℕ × ℕ) {a b : ℕ} → p.0 ≡ a → p.1 ≡ b → (a, b) ≡ p
pair_is p e f = rw (← e, ← f) refl

-- a refused observation: 81, and the number that stood there
pub as_refused : (state : ℕ) (seen : List ℕ) {from : ChargeState} {observed : ChargeObservation} {why : CountTooWide} {number : ℕ}
    → Ok from ≡ charge_state_or_not state → observed ≡ charge_seen_in seen → Err why ≡ charge_if_taken (charge_step_of from observed) → number ≡ 81
    → (number, state) ≡ charge_followed state seen
as_refused state seen {from} {observed} {why} e o h n = rw n (pair_is (charge_followed state seen) first (kept_in_numbers state seen (λ z. omega (arith, z, first))))
  where
    first : (charge_followed state seen).0 ≡ 81
    first =
        ap (λ (c : Option ChargeState). (charge_from c state seen).0) (stands_for (charge_numbered state) _ e)
        ∙ ap (λ (s : ChargeObservation). charge_refusal (charge_step_of from s).answer) (sym o)
        ∙ refused_number (charge_step_of from observed) h
