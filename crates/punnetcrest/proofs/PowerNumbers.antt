-- From the monitor's own refusal to what the call returns and leaves; and the number that the header gives a new monitor. Assumes nothing.
use Rattle.std.specs.Prelude.{◌≡◌, ℕ, List, Bool, false, cond, eqb, refl, Option, Some, None, Ok, Err}
use Rattle.std.specs.Option.{ok_or}
use Rattle.std.proofs.Common.{sym, ap, ◌∙◌}
use Rattle.power.specs.declared.NotAState.{NotAState}
use Rattle.power.specs.declared.Observation.{Observation}
use Rattle.power.specs.declared.PowerRefusal.{PowerRefusal}
use Rattle.power.specs.declared.PowerRefusal.TheVariants.{NeitherOpenNorClosed, CommandTooHigh, ReadingTooHigh, ShareOutOfRange}
use Rattle.power.specs.declared.State.{State}
use Rattle.power.specs.Shares.{Share}
use Rattle.power.specs.States.{state_number, state_numbered, state_or_not}
use Rattle.power.specs.Rules.{next_state_spec}
use Rattle.power.specs.Refusals.{PowerAnswer, Stepped, power_refusal, state_for, state_if_taken, step_of}
use Rattle.power.proofs.Numbers.{number_named}
use Rattle.power.proofs.Answers.{kept_or_next}
use Rattle.punnetcrest.specs.Powering.{power_start, seen_in, stepped_from, stepped}

-- PC_POWER_START is PC_POWER_OFF, which is 0
pub starts_at_0 : power_start ≡ 0
starts_at_0 = refl

-- the state that a number was converted to is the one that it stands for
stands_for : (o : Option State) (e : NotAState) {from : State} → Ok from ≡ ok_or o e → o ≡ Some from
stands_for (Some s) e h = cc
stands_for None e h = cc

refusal_is : (s : Stepped) {why : PowerRefusal} → Err why ≡ state_if_taken s → s.answer ≡ Err why
refusal_is s {why} h = go s.answer h
  where
    go : (a : PowerAnswer) → Err why ≡ state_for s.state a → a ≡ Err why
    go (Ok _) h = cc
    go (Err _) h = cc

not_0 : (why : PowerRefusal) → eqb (power_refusal (Err why)) 0 ≡ false
not_0 NeitherOpenNorClosed = refl
not_0 CommandTooHigh = refl
not_0 ReadingTooHigh = refl
not_0 ShareOutOfRange = refl

pair_is : (p : ℕ × ℕ) {a b : ℕ} → p.0 ≡ a → p.1 ≡ b → (a, b) ≡ p
pair_is p e f = rw (← e, ← f) refl

-- a refused observation: the refusal's number, and the number that stood there
module _ (state : ℕ) (seen : List ℕ) (share : Share) where
  pub as_refused : {from : State} {observed : Observation} {why : PowerRefusal} {number : ℕ}
      → Ok from ≡ state_or_not state → observed ≡ seen_in seen share → Err why ≡ state_if_taken (step_of from observed) → number ≡ power_refusal (Err why)
      → (number, state) ≡ stepped state seen share
  as_refused {from} {observed} {why} {number} e o h n = pair_is (stepped state seen share) first second
    where
      named : state_numbered state ≡ Some from
      named = stands_for (state_numbered state) _ e

      refusal : (step_of from observed).answer ≡ Err why
      refusal = refusal_is (step_of from observed) h

      kept : (step_of from observed).state ≡ from
      kept =
          kept_or_next from observed
          ∙ ap (λ (a : PowerAnswer). cond (eqb (power_refusal a) 0) (next_state_spec from observed) from) refusal
          ∙ ap (λ (b : Bool). cond b (next_state_spec from observed) from) (not_0 why)

      first : (stepped state seen share).0 ≡ number
      first =
          ap (λ (c : Option State). (stepped_from c state seen share).0) named
          ∙ ap (λ (s : Observation). power_refusal (step_of from s).answer) (sym o)
          ∙ ap power_refusal refusal
          ∙ sym n

      second : (stepped state seen share).1 ≡ state
      second =
          ap (λ (c : Option State). (stepped_from c state seen share).1) named
          ∙ ap (λ (s : Observation). state_number (step_of from s).state) (sym o)
          ∙ ap state_number kept
          ∙ number_named state named
