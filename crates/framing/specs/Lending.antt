-- What a call makes of what it is lent to write: its answer, with what stands there at exit, by what stood there at entry. Contracts say
-- it in these words. Assumes nothing: these are definitions.
use Rattle.std.specs.Prelude.{◌≡◌, List, ℕ, ℤ, Result}
use Rattle.std.specs.Borrow.{MutBor}
use denote.Triple.Both.{Both}
use Rattle.framing.specs.declared.ReadRefusal.{ReadRefusal}
use Rattle.framing.specs.declared.PackRefusal.{PackRefusal}
use Rattle.framing.specs.Reading.{Slices}

-- a slice that is lent to write, at entry and at exit
abbrev pub Lent : Type 0 → Type 0
Lent X = Both (MutBor (List X)) (MutBor (List X))

-- the three slices of a reading, as they were lent, and as they are left
abbrev pub slices_lent : Lent ℕ → Lent ℕ → Lent ℤ → Slices
slices_lent raws classes thousandths = record { raws = raws.entry.now; classes = classes.entry.now; thousandths = thousandths.entry.now }

abbrev pub slices_left : Lent ℕ → Lent ℕ → Lent ℤ → Slices
slices_left raws classes thousandths = record { raws = raws.exit.now; classes = classes.exit.now; thousandths = thousandths.exit.now }

-- the answer, with the slices left, is what a reading makes of the slices lent
abbrev pub ReadsInto : (Slices → Result ℕ ReadRefusal × Slices) → Result ℕ ReadRefusal → Lent ℕ → Lent ℕ → Lent ℤ → Type 0
ReadsInto by answer raws classes thousandths = ◌≡◌ {A = Result ℕ ReadRefusal × Slices} (answer, slices_left raws classes thousandths) (by (slices_lent raws classes thousandths))

-- the answer, with the frame left, is what a packing makes of the frame lent
abbrev pub PacksInto : (List ℕ → Result (Unit {0}) PackRefusal × List ℕ) → Result (Unit {0}) PackRefusal → Lent ℕ → Type 0
PacksInto by answer frame = ◌≡◌ {A = Result (Unit {0}) PackRefusal × List ℕ} (answer, frame.exit.now) (by frame.entry.now)
