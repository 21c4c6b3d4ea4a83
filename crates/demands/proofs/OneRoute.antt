-- "a repeated R line therefore doubles. A route from a place to itself is a closed chain." Assumes nothing.
use mathlib.Core.Path.{◌≡◌, refl, ap}
use Prim.Native.Nat.{ℕ, ◌<◌}
use mathlib.Core.List.{List, [], ◌∷◌}
use lib.ListN.{length}
use Rattle.demands.specs.RLines.{RLine, r_line_at}
use Rattle.demands.specs.Loops.{Returns, Doubles}

module _ (ls : List RLine) where
  -- each of two equal lines alone is a chain that joins their places
  pub repeated_doubles : (k m : ℕ) → (k ≡ m → ⊥) → k < length ls → m < length ls → r_line_at ls m ≡ r_line_at ls k → Doubles ls
  repeated_doubles k m apart h l e =
      record {
        bus = (r_line_at ls k).bus;
        identifier = (r_line_at ls k).identifier;
        to_bus = (r_line_at ls k).to_bus;
        to_identifier = (r_line_at ls k).to_identifier;
        chain = k ∷ [];
        another = m ∷ [];
        joining = record {
          one = (h, refl, refl, (refl, refl));
          other = (l, ap (λ (x : RLine). x.bus) e, ap (λ (x : RLine). x.identifier) e, (ap (λ (x : RLine). x.to_bus) e, ap (λ (x : RLine). x.to_identifier) e));
          different = λ f. apart (let z : k ≡ m = cc in z);
        };
      }

  pub self_returns : (k : ℕ) → k < length ls → (r_line_at ls k).to_bus ≡ (r_line_at ls k).bus → (r_line_at ls k).to_identifier ≡ (r_line_at ls k).identifier → Returns ls
  self_returns k h e f = record { bus = (r_line_at ls k).bus; identifier = (r_line_at ls k).identifier; chain = k ∷ []; returning = record { closed = (h, refl, refl, (e, f)) } }
