-- The rows of table 19 fall into six runs of one width each. Assumes nothing.
use mathlib.Core.Path.{◌≡◌, refl}
use mathlib.Core.Bool.{◌&&◌}
use mathlib.Core.List.{List, ◌++◌}
use Prim.Native.Nat.{ℕ, ◌^◌}
use Rattle.catalogue.specs.Find.{bits_of_spec, row_of}
use Rattle.rows.specs.Rows.{rows as catalogue}
use Rattle.faults.specs.Rows.{first_row, last_row, counted, rows_between, fault_rows}
use Rattle.faults.specs.Counts.{raw_below, all_of}
use Rattle.faults.specs.Sum.{all_fit}
use Rattle.faults.proofs.Parts.{all_parts}

runs : fault_rows ≡ rows_between first_row 1914 ++ rows_between 1915 1922 ++ rows_between 1923 1923 ++ rows_between 1924 1924 ++ rows_between 1925 1925 ++ rows_between 1926 last_row
unfolding counted
runs = refl

module _ (counts : List ℕ) where
  -- each count of a run is below 2 to the run's width
  abbrev Below : ℕ → ℕ → ℕ → Type 0
  Below limit from to = all_of (λ row. raw_below counts (2 ^ bits_of_spec row) row) (rows_between from to) ≡ all_of (raw_below counts limit) (rows_between from to)

  widths : Below 4 first_row 1914 × (Below 2 1915 1922 × (Below 32 1923 1923 × (Below 2 1924 1924 × (Below 4 1925 1925 × Below 2 1926 last_row))))
  unfolding all_of counted bits_of_spec row_of catalogue
  widths = (refl, (refl, (refl, (refl, (refl, refl)))))

  pub all_fit_law : all_fit counts
      ≡ all_of (raw_below counts 4) (rows_between first_row 1914) && all_of (raw_below counts 2) (rows_between 1915 1922) && all_of (raw_below counts 32) (rows_between 1923 1923) && all_of (raw_below counts 2) (rows_between 1924 1924) && all_of (raw_below counts 4) (rows_between 1925 1925) && all_of (raw_below counts 2) (rows_between 1926 last_row)
  unfolding all_fit
  all_fit_law =
      rw runs (simp (all_parts, widths.0, widths.1.0, widths.1.1.0, widths.1.1.1.0, widths.1.1.1.1.0, widths.1.1.1.1.1))
