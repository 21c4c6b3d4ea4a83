-- Each contract allows one outcome and no other: a result, with what stands in what was lent at exit. Assumes nothing.
use mathlib.Core.Path.{refl}
use mathlib.Core.Option.{some}
use base.Stored.{coded_ℕ, coded_ℤ, coded_unit, coded×, coded_list}
use Rattle.std.specs.Coded.{coded_result}
use Rattle.only.specs.Outcomes.{OneResult, OneOutcome, result_is, outcome_is}
use Rattle.bits.specs.Word.{bytes_of}
use Rattle.framing.specs.Reading.{read_by_message}
use Rattle.framing.proofs.CodedSlices.{coded_slices}
use Rattle.framing.specs.contracts.ReadRefusal as the-read-refusal
use Rattle.framing.specs.contracts.PackRefusal as the-pack-refusal
use Rattle.messages.specs.Signals.{numbers_of_class, check_holds, message_from}
use Rattle.messages.specs.Put.{pack_into}
use Rattle.messages.specs.contracts.classes.class_numbers as class-numbers
use Rattle.messages.specs.contracts.checksum.checked as checked
use Rattle.messages.specs.contracts.reading.read_message as read-message
use Rattle.messages.specs.contracts.packing.pack_message as pack-message

module _ (M : Type 1) where
  pub one_class_numbers : OneOutcome M class-numbers.ended (λ _. class-numbers.clauses)
  one_class_numbers =
      outcome_is (coded× coded_ℤ coded_ℕ) (λ c o. (o.0, o.1.1.1.0)) (λ c x. (x.0, (tt, (tt, (x.1, tt))))) (λ c o. refl) (λ c x. refl)
      (λ c. numbers_of_class c.arguments.0 c.arguments.1.0) refl

  pub one_checked : OneResult M checked.ended (λ _. checked.clauses)
  one_checked = result_is (λ c. check_holds c.arguments.0 c.arguments.1.0 c.arguments.1.1.0.now) refl

  pub one_read_message : OneOutcome M read-message.ended (λ _. read-message.clauses)
  one_read_message =
      outcome_is (coded× (coded_result coded_ℕ (the-read-refusal.the_row).coded) coded_slices)
      (λ c o. let left = o.1.1.1.1.1 in (o.0, record { raws = left.0; classes = left.1.0; thousandths = left.1.1.0 }))
      (λ c x. (x.0, (tt, (tt, (tt, (tt, (x.1.raws, (x.1.classes, (x.1.thousandths, tt))))))))) (λ c o. refl) (λ c x. refl)
      (λ c. let message = message_from c.arguments.0 c.arguments.1.1.0.now c.arguments.1.1.1.0.now in
      let lent = c.arguments.1.1.1.1 in
      read_by_message (some message) (bytes_of c.arguments.1.0) (record { raws = lent.0.now; classes = lent.1.0.now; thousandths = lent.1.1.0.now })) refl

  pub one_pack_message : OneOutcome M pack-message.ended (λ _. pack-message.clauses)
  one_pack_message =
      outcome_is (coded× (coded_result coded_unit (the-pack-refusal.the_row).coded) (coded_list coded_ℕ)) (λ c o. (o.0, o.1.1.1.1.1.0)) (λ c x. (x.0, (tt, (tt, (tt, (tt, (x.1, tt)))))))
      (λ c o. refl) (λ c x. refl)
      (λ c. pack_into (message_from c.arguments.0 c.arguments.1.0.now c.arguments.1.1.0.now) c.arguments.1.1.1.0.now c.arguments.1.1.1.1.0.now) refl
