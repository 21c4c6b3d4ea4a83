-- The last start at a signal's place: from there on a frame has as many bits as the signal, and has some. Assumes nothing.
use mathlib.Core.Path.{◌≡◌, refl, sym, ap, ◌∙◌, subst}
use mathlib.Core.List.{List, [], ◌∷◌}
use Prim.Native.Nat.{ℕ, zero, suc, ◌-◌, ◌<◌}
use native.Mathlib.Omega.{arith}
use lib.ListN.{length, get_or, length-map}
use Rattle.rows.specs.declared.Row.{Row}
use Rattle.rows.specs.Rows.{rows}
use Rattle.rows.specs.Widths.{widths_of, last_starts_of}
use Rattle.catalogue.specs.Find.{bits_of_spec}
use Rattle.catalogue.specs.Places.{place_of, no_place_spec}
use Rattle.catalogue.proofs.Found.{few_bits}
use Rattle.catalogue.proofs.Placed.{long, bits_there, has_some}

last_at : (rs : List Row) (p : ℕ) → p < length rs → get_or (last_starts_of rs) p 0 ≡ 64 - get_or (widths_of rs) p 0
last_at [] p h = absurd (omega arith)
last_at (r ∷ rs) zero h = refl
last_at (r ∷ rs) (suc p) h = last_at rs p (omega (arith, h))

module _ (lasts : List ℕ) (n p : ℕ) (column : lasts ≡ last_starts_of rows) (place : (p ≡ place_of n) × (p < no_place_spec)) where
  pub in_lasts : p < length lasts
  in_lasts = rw column (subst (λ (k : ℕ). p < k) (sym (length-map rows (λ (r : Row). 64 - r.bits) ∙ long)) place.1)

  width_there : get_or (widths_of rows) p 0 ≡ bits_of_spec n
  width_there = ap (λ (q : ℕ). get_or (widths_of rows) q 0) place.0 ∙ bits_there n

  last_there : get_or lasts p 0 ≡ 64 - bits_of_spec n
  last_there = rw column (last_at rows p (subst (λ (k : ℕ). p < k) (sym long) place.1) ∙ ap (λ (b : ℕ). 64 - b) width_there)

  some_bits : 0 < bits_of_spec n
  some_bits = has_some (widths_of rows) n p refl place (bits_of_spec n) (sym width_there)

  pub its_last : (last : ℕ) → last ≡ get_or lasts p 0 → (last < 64) × (64 - last ≡ bits_of_spec n)
  its_last last e = (omega (arith, e, last_there, some_bits), omega (arith, e, last_there, few_bits n))
