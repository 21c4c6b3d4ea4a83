-- Each public function's contract allows one outcome and no other. Assumes nothing.
use Rattle.std.specs.Prelude.{refl, Err}
use Rattle.only.specs.Outcomes.{OneResult, OneOutcome, result_is, outcome_is}
use Rattle.sleep.specs.Watching.{watch_and_answer, awake_at, sleep_refusal, after_call}
use Rattle.sleep.specs.contracts.Updated as Updated
use Rattle.sleep.specs.contracts.Watch.new as new
use Rattle.sleep.specs.contracts.Watch.updated as updated
use Rattle.sleep.specs.contracts.U32FromClockWentBack.from as from
use Rattle.sleep.specs.contracts.update as update

module _ (M : Type 1) where
  pub one_new : OneResult M new.ended (λ _. new.clauses)
  one_new = result_is (λ c. awake_at c.arguments.0) refl

  pub one_updated : OneResult M updated.ended (λ _. updated.clauses)
  one_updated = result_is (λ c. after_call c.arguments.0 c.arguments.1.0 c.arguments.1.1.0) refl

  pub one_sleep_refusal : OneResult M from.ended (λ _. from.clauses)
  one_sleep_refusal = result_is (λ c. sleep_refusal (Err c.arguments.0)) refl

  -- the watch that stands there at exit, and the answer, together
  pub one_update : OneOutcome M update.ended (λ _. update.clauses)
  one_update =
      outcome_is (Updated.the_row).coded (λ c o. watch_and_answer o.1.0 o.0) (λ c x. (x.answer, (x.watch, (tt, (tt, tt))))) (λ c o. refl) (λ c x. refl)
      (λ c. after_call c.arguments.0.now c.arguments.1.0 c.arguments.1.1.0) refl
