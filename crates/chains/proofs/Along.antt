-- Counting through the table's routes gives what the routes of a place give. Assumes nothing.
use mathlib.Core.Path.{◌≡◌, refl, sym, ap, ◌∙◌}
use mathlib.Core.Bool.{Bool, true, false, cond}
use Prim.Native.Nat.{ℕ, zero, suc}
use mathlib.Core.List.{List, [], ◌∷◌, ◌++◌, map}
use lib.ListN.{length, get_or, drop}
use lib.Dec.{eqb}
use Rattle.chains.specs.Spread.{routes_from, sends, spread_up_to, spread_of}
use Rattle.chains.specs.Along.{sends_along, spread_within}

-- the ends of all routes but the first
later_end : (ts : List ℕ) (i : ℕ) → get_or (drop 1 ts) i 0 ≡ get_or ts (suc i) 0
later_end [] i = refl
later_end (t ∷ ts) i = refl

sends_later : (ts : List ℕ) (g : ℕ → List ℕ) (routes : List ℕ) → sends ts g (map suc routes) ≡ sends (drop 1 ts) g routes
sends_later ts g [] = refl
sends_later ts g (i ∷ routes) = rw (later_end ts i, sends_later ts g routes)

along_later : (f : ℕ) (fs ts : List ℕ) (g : ℕ → List ℕ) (p i m : ℕ) → sends_along (f ∷ fs) ts g p (suc i) m ≡ sends_along fs (drop 1 ts) g p i m
along_later f fs ts g p i zero = refl
along_later f fs ts g p i (suc m) = rw (later_end ts i, along_later f fs ts g p (suc i) m)

pub sends_along_law : (fs ts : List ℕ) (g : ℕ → List ℕ) (p : ℕ) → sends ts g (routes_from fs p) ≡ sends_along fs ts g p 0 (length fs)
sends_along_law [] ts g p = refl
sends_along_law (f ∷ fs) ts g p =
    go (eqb f p) (sends_later ts g (routes_from fs p) ∙ sends_along_law fs (drop 1 ts) g p ∙ sym (along_later f fs ts g p 0 (length fs)))
  where
    go : (b : Bool) → sends ts g (map suc (routes_from fs p)) ≡ sends_along (f ∷ fs) ts g p 1 (length fs)
        → sends ts g (cond b (0 ∷ map suc (routes_from fs p)) (map suc (routes_from fs p)))
        ≡ cond b (get_or ts 0 0 ∷ (g (get_or ts 0 0) ++ sends_along (f ∷ fs) ts g p 1 (length fs))) (sends_along (f ∷ fs) ts g p 1 (length fs))
    go true e = rw e
    go false e = e

module _ (fs ts : List ℕ) where
  up_to_within : (d p : ℕ) → spread_up_to fs ts d p ≡ spread_within fs ts d p
  up_to_within zero p = refl
  up_to_within (suc d) p = sends_along_law fs ts (spread_up_to fs ts d) p ∙ ap (λ (g : ℕ → List ℕ). sends_along fs ts g p 0 (length fs)) (λ i q. up_to_within d q i)

  pub spread_within_law : (p : ℕ) → spread_of fs ts p ≡ spread_within fs ts (length fs) p
  unfolding spread_of
  spread_within_law p = up_to_within (length fs) p
