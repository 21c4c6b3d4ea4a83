-- Loops and doublings of a text's routes, between the numbers of places, are those of its R lines, between buses and identifiers. Assumes
-- nothing.
use mathlib.Core.Path.{subst}
use Prim.Native.Nat.{ℕ}
use mathlib.Core.List.{List, ◌∷◌}
use Rattle.record.specs.Place.{place_key}
use Rattle.chains.specs.Chain.{Chain, Closed, OnClosed, JoinedTwice, BeginsDoubling, LoopFree, Single}
use Rattle.reading.specs.Taken.{froms, tos}
use Rattle.demands.specs.Text.{text_routes}
use Rattle.demands.specs.RLines.{text_r_lines, LineChain, Returning, Joining, OnLoop, BeginsPair, AllInLimits}
use Rattle.demands.specs.Loops.{Returns, Doubles}
use Rattle.demands.proofs.Keys.{keyed, unkeyed, ends}

module _ (text : List ℕ) where
  abbrev fs : List ℕ
  fs = froms (text_routes text)

  abbrev ts : List ℕ
  ts = tos (text_routes text)

  -- R lines that return, or double, do so as routes
  closed_keyed : (a i : ℕ) (c : List ℕ) → Returning (text_r_lines text) a i c → Closed fs ts (place_key a i) c
  closed_keyed a i c r = keyed text a i c a i r.closed

  doubling_keyed : (a i b j : ℕ) (c d : List ℕ) → Joining (text_r_lines text) a i b j c d → JoinedTwice fs ts (place_key a i) (place_key b j) c d
  doubling_keyed a i b j c d h = record { one = keyed text a i c b j h.one; other = keyed text a i d b j h.other; different = h.different }

  pub none_returns : LoopFree fs ts → Returns (text_r_lines text) → ⊥
  none_returns free r = free _ r.chain (closed_keyed r.bus r.identifier r.chain r.returning)

  pub none_doubles : Single fs ts → Doubles (text_r_lines text) → ⊥
  none_doubles single d = single _ _ d.chain d.another (doubling_keyed d.bus d.identifier d.to_bus d.to_identifier d.chain d.another d.joining)

  pub loop_keyed : (k : ℕ) → OnLoop (text_r_lines text) k → OnClosed fs ts k
  loop_keyed k o = (place_key o.bus o.identifier, o.chain, closed_keyed o.bus o.identifier o.chain o.returning, o.on)

  pub pair_keyed : (k : ℕ) → BeginsPair (text_r_lines text) k → BeginsDoubling fs ts k
  pair_keyed k h = (_, _, h.rest, h.another, doubling_keyed h.bus h.identifier h.to_bus h.to_identifier (k ∷ h.rest) h.another h.joining)

  -- and back, where the lines are within the limits
  module _ (limits : AllInLimits (text_r_lines text)) where
    closed_unkeyed : (p : ℕ) (c : List ℕ) → Closed fs ts p c → (a i : ℕ) × Returning (text_r_lines text) a i c
    closed_unkeyed p c w =
        let e = ends text limits p c p w in
        (e.bus, e.identifier, record { closed = unkeyed text limits e.bus e.identifier c e.bus e.identifier e.identified e.identified (subst (λ (x : ℕ). Chain fs ts x c x) e.from w) })

    doubling_unkeyed : (p q : ℕ) (c d : List ℕ) → JoinedTwice fs ts p q c d → (a i b j : ℕ) × Joining (text_r_lines text) a i b j c d
    doubling_unkeyed p q c d h =
        let e = ends text limits p c q h.one in
        let same : (x : List ℕ) → Chain fs ts p x q → LineChain (text_r_lines text) e.bus e.identifier x e.to_bus e.to_identifier =
        λ x w. unkeyed text limits e.bus e.identifier x e.to_bus e.to_identifier e.identified e.to_identified
        (subst (λ (y : ℕ). Chain fs ts (place_key e.bus e.identifier) x y) e.to (subst (λ (y : ℕ). Chain fs ts y x q) e.from w))
        in
        (e.bus, e.identifier, e.to_bus, e.to_identifier, record { one = same c h.one; other = same d h.other; different = h.different })

    pub loop_unkeyed : (k : ℕ) → OnClosed fs ts k → OnLoop (text_r_lines text) k
    loop_unkeyed k (p, c, w, m) = let r = closed_unkeyed p c w in record { bus = r.0; identifier = r.1; chain = c; returning = r.2; on = m }

    pub pair_unkeyed : (k : ℕ) → BeginsDoubling fs ts k → BeginsPair (text_r_lines text) k
    pair_unkeyed k (p, q, c, d, h) =
        let r = doubling_unkeyed p q (k ∷ c) d h in
        record { bus = r.0; identifier = r.1; to_bus = r.2; to_identifier = r.3; rest = c; another = d; joining = r.4 }

    pub returns : (k : ℕ) → OnClosed fs ts k → Returns (text_r_lines text)
    returns k h = let o = loop_unkeyed k h in record { bus = o.bus; identifier = o.identifier; chain = o.chain; returning = o.returning }

    pub doubles : (k : ℕ) → BeginsDoubling fs ts k → Doubles (text_r_lines text)
    doubles k h =
        let o = pair_unkeyed k h in
        record { bus = o.bus; identifier = o.identifier; to_bus = o.to_bus; to_identifier = o.to_identifier; chain = k ∷ o.rest; another = o.another; joining = o.joining }
