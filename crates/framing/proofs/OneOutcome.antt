-- The contract of a refusal's number, of reading and of packing, allows one result and no other. Assumes nothing.
use Rattle.std.specs.Prelude.{refl}
use Rattle.only.specs.Outcomes.{OneResult, result_is}
use Rattle.framing.specs.Reading.{read_refusal_number}
use Rattle.framing.specs.Packing.{pack_refusal_number}
use Rattle.framing.specs.contracts.U32FromReadRefusal.from as read-number
use Rattle.framing.specs.contracts.U32FromPackRefusal.from as pack-number

module _ (M : Type 1) where
  pub one_read_number : OneResult M read-number.ended (λ _. read-number.clauses)
  one_read_number = result_is (λ c. read_refusal_number c.arguments.0) refl

  pub one_pack_number : OneResult M pack-number.ended (λ _. pack-number.clauses)
  one_pack_number = result_is (λ c. pack_refusal_number c.arguments.0) refl
