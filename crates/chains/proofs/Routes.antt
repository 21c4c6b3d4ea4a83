-- The routes of a place are those of the table that start there, each once. Assumes nothing.
use mathlib.Core.Path.{◌≡◌, refl, subst}
use mathlib.Core.Logic.{⊎_elim}
use mathlib.Core.Bool.{Bool, true, false, cond}
use Prim.Native.Nat.{ℕ, zero, suc, ◌<◌}
use native.Mathlib.Nat.{le_of_suc-le-suc}
use native.Mathlib.Omega.{arith}
use mathlib.Core.List.Memᴰ
use mathlib.Core.List.{List, [], ◌∷◌, map, Memᴰ}
use lib.ListN.{length, get_or}
use lib.Dec.{eqb}
use borrow.Author.Tests.{eqb-true, eq-eqb}
use Rattle.lists.specs.Lists.{Distinct}
use Rattle.lists.proofs.Lists.{no_entries, distinct_map}
use Rattle.chains.specs.Spread.{routes_from}

pub starts_route : (fs : List ℕ) (p i : ℕ) → i < length fs → get_or fs i 0 ≡ p → Memᴰ i (routes_from fs p)
starts_route [] p i l e = absurd (omega arith)
starts_route (f ∷ fs) p zero l e = rw (eq-eqb f p e) (Memᴰ.head refl)
starts_route (f ∷ fs) p (suc i) l e = go (eqb f p) (Memᴰ.map suc (starts_route fs p i (le_of_suc-le-suc l) e))
  where
    go : (b : Bool) → Memᴰ (suc i) (map suc (routes_from fs p)) → Memᴰ (suc i) (cond b (0 ∷ map suc (routes_from fs p)) (map suc (routes_from fs p)))
    go true m = Memᴰ.tail m
    go false m = m

pub route_starts : (fs : List ℕ) (p i : ℕ) → Memᴰ i (routes_from fs p) → (i < length fs) × (get_or fs i 0 ≡ p)
route_starts [] p i m = absurd (Memᴰ.not-nil m)
route_starts (f ∷ fs) p i m = go (eqb f p) refl m (λ t. let r = Memᴰ.of_map suc (routes_from fs p) t in later r.0 r.2 (route_starts fs p r.0 r.1))
  where
    later : (j : ℕ) → suc j ≡ i → (j < length fs) × (get_or fs j 0 ≡ p) → (i < suc (length fs)) × (get_or (f ∷ fs) i 0 ≡ p)
    later j e (l, h) = subst (λ (x : ℕ). (x < suc (length fs)) × (get_or (f ∷ fs) x 0 ≡ p)) e (omega arith, h)

    go : (b : Bool) → eqb f p ≡ b → Memᴰ i (cond b (0 ∷ map suc (routes_from fs p)) (map suc (routes_from fs p)))
        → (Memᴰ i (map suc (routes_from fs p)) → (i < suc (length fs)) × (get_or (f ∷ fs) i 0 ≡ p)) → (i < suc (length fs)) × (get_or (f ∷ fs) i 0 ≡ p)
    go true e t ih = ⊎_elim (λ (z : i ≡ 0). rw z (omega arith, eqb-true f p e)) ih (Memᴰ.cases_cons t)
    go false e t ih = ih t

pub routes_once : (fs : List ℕ) (p : ℕ) → Distinct (routes_from fs p)
routes_once [] p = tt
routes_once (f ∷ fs) p = go (eqb f p) (distinct_map suc (routes_from fs p) (λ x y m n e. omega arith) (routes_once fs p))
  where
    go : (b : Bool) → Distinct (map suc (routes_from fs p)) → Distinct (cond b (0 ∷ map suc (routes_from fs p)) (map suc (routes_from fs p)))
    go true d = (λ m. let r = Memᴰ.of_map suc (routes_from fs p) m in absurd (omega (arith, r.2)), d)
    go false d = d

pub routes_none : (fs : List ℕ) (p : ℕ) → ((j : ℕ) → j < length fs → get_or fs j 0 ≡ p → ⊥) → routes_from fs p ≡ []
routes_none fs p none = no_entries (routes_from fs p) (λ j m. let h = route_starts fs p j m in none j h.0 h.1)
