-- `signal_lines::put_class` meets its contract: each class has its word. Assumes nothing.
use mathlib.Core.Path.{subst}
use borrow.Author.Rules.{rules}
use Rattle.std.specs.Prelude.{Ok}
use Rattle.catalogue.specs.declared.Class.{Class}
use Rattle.doubles.specs.Doubles.{SmallIfValue}
use Rattle.signal_lines.proofs.put_class.Goals as goal

pub put_value-requires : goal.put_value-requires
put_value-requires c = (search rules, subst (λ (k : Class). SmallIfValue (Ok k)) c.in-Value.is c.requires.1)

pub returns-in-Value : goal.returns-in-Value
returns-in-Value c = rw c.in-Value.is c.put_value.ensures

pub returns-in-Invalid : goal.returns-in-Invalid
returns-in-Invalid c = rw c.in-Invalid.is c.put_count.ensures

pub returns-in-Absent : goal.returns-in-Absent
returns-in-Absent c = rw c.in-Absent.is c.put_count-in-Absent.ensures

pub returns-in-Error : goal.returns-in-Error
returns-in-Error c = rw c.in-Error.is c.put_count-in-Error.ensures

pub returns-in-Reserved : goal.returns-in-Reserved
returns-in-Reserved c = rw c.in-Reserved.is c.put_count-in-Reserved.ensures

pub returns-in-Outside : goal.returns-in-Outside
returns-in-Outside c = rw c.in-Outside.is c.put_count-in-Outside.ensures
