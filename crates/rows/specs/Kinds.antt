-- The kinds of marks by number, as the columns of the constant table have them. Assumes nothing: these are definitions.
use Rattle.std.specs.Prelude.{ℕ, zero, suc}
use Rattle.rows.specs.declared.MarkKind.{MarkKind}
use Rattle.rows.specs.declared.MarkKind.TheVariants.{Unmarked, Invalid, Absent, Error, Reserved}

abbrev pub kind_number : MarkKind → ℕ
kind_number Unmarked = 0
kind_number Invalid = 1
kind_number Absent = 2
kind_number Error = 3
kind_number Reserved = 4

-- the kind that a number stands for: from 4 on the last
abbrev pub kind_numbered : ℕ → MarkKind
kind_numbered zero = Unmarked
kind_numbered (suc zero) = Invalid
kind_numbered (suc (suc zero)) = Absent
kind_numbered (suc (suc (suc zero))) = Error
kind_numbered (suc (suc (suc (suc more)))) = Reserved
