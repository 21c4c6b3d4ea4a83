-- The three lent slices as an outcome whose parts can be told apart: what the laws of one outcome ask for. Assumes nothing.
use mathlib.Core.Path.{◌≡◌}
use mathlib.Core.List.{List}
use Prim.Native.Nat.{ℕ}
use lib.IntN.{ℤ}
use base.Stored.{Coded, coded_ℕ, coded_ℤ, coded×, coded_list, coded_via}
use Rattle.framing.specs.Reading.{Slices}

parts : Slices → List ℕ × (List ℕ × List ℤ)
parts s = (s.raws, (s.classes, s.thousandths))

same_parts : (s t : Slices) → parts s ≡ parts t → s ≡ t
unfolding parts
same_parts s t e = λ i. record { raws = (e i).0; classes = (e i).1.0; thousandths = (e i).1.1 }

pub coded_slices : Coded Slices
coded_slices = coded_via (coded× (coded_list coded_ℕ) (coded× (coded_list coded_ℕ) (coded_list coded_ℤ))) parts same_parts
