-- Route tables are those of a taken book or not, whatever the words. Assumes nothing.
use mathlib.Core.Path.{◌≡◌}
use Prim.Native.Nat.{ℕ}
use native.Mathlib.Decide.{ℕ_discrete}
use mathlib.Core.List.{List, List-discrete}
use lib.ListN.{length}
use Rattle.record.specs.Columns.{route_count_of, route_columns_of}
use Rattle.chains.specs.Chain.{IsSound}
use Rattle.verdict.specs.Verdicts.{Judged}
use Rattle.verdict.specs.declared.Verdict.{Verdict}
use Rattle.verdict.specs.declared.Verdict.TheVariants as verdict
use Rattle.verdict.proofs.Once.{judged, loop_unsound, doubling_unsound}
use Rattle.books.specs.Words.{froms, tos, route_columns, routes_of}
use Rattle.route_tables.specs.Tables.{RoutesTaken}

sound_or_not : (fs ts : List ℕ) → Dec (IsSound fs ts)
sound_or_not fs ts = go (judged fs ts)
  where
    at : (v : Verdict) → Judged fs ts v → Dec (IsSound fs ts)
    at (verdict.Loop i) j = no (loop_unsound fs ts i j)
    at (verdict.Doubling i) j = no (doubling_unsound fs ts i j)
    at verdict.Sound j = yes j

    go : (v : Verdict) × Judged fs ts v → Dec (IsSound fs ts)
    go (v, j) = at v j

pub taken_or_not : (w : List ℕ) → Dec (RoutesTaken w)
taken_or_not w =
    go (ℕ_discrete (route_count_of w) (length (routes_of w))) (List-discrete ℕ_discrete (route_columns_of w) (route_columns (routes_of w)))
    (sound_or_not (froms (routes_of w)) (tos (routes_of w)))
  where
    go : Dec (route_count_of w ≡ length (routes_of w)) → Dec (route_columns_of w ≡ route_columns (routes_of w)) → Dec (IsSound (froms (routes_of w)) (tos (routes_of w)))
        → Dec (RoutesTaken w)
    go (yes a) (yes b) (yes c) = yes (record { stand = record { count = a; columns = b }; sound = c })
    go (no n) b c = no (λ r. n r.stand.count)
    go (yes a) (no n) c = no (λ r. n r.stand.columns)
    go (yes a) (yes b) (no n) = no (λ r. n r.sound)
