-- TAKING ROUTES OUT of a table leaves, from each place, exactly the chains all of whose routes stay, in the same order, each route under
-- its new number. Assumes nothing.
use mathlib.Core.Path.{◌≡◌, refl, sym, ap, ◌∙◌}
use mathlib.Core.Bool.{Bool, true, false, cond}
use Prim.Native.Nat.{ℕ, zero, suc, ◌≤◌, ◌<◌, ◌+◌, ◌-◌}
use native.Mathlib.Omega.{arith}
use mathlib.Core.List.{List, [], ◌∷◌, ◌++◌, map, map-map, map-append, Memᴰ}
use lib.ListN.{length, get_or, length-map}
use lib.Dec.{eqb}
use Rattle.lists.specs.Lists.{those, numbers_below, entries_at}
use Rattle.lists.proofs.Lists.{map_at, those_append, those_map, those_none, those_swap, those_few, those_mem, length_below, below_mem}
use Rattle.chains.specs.Chain.{LoopFree}
use Rattle.chains.specs.Spread.{routes_from}
use Rattle.chains.specs.ChainLists.{chains_beginning, chains_up_to, chains_from}
use Rattle.chains.proofs.Routes.{route_starts}
use Rattle.chains.proofs.ChainLists.{chains_enough}
use Rattle.fewer_routes.specs.Fewer.{old_numbers, kept_of, every}
use Rattle.fewer_routes.proofs.Picked.{Picks, within, free_picked}

-- ---- the routes of a place
-- they are those of all numbers whose route starts there
routes_those : (fs : List ℕ) (p : ℕ) → routes_from fs p ≡ those (λ i. eqb (get_or fs i 0) p) (numbers_below (length fs))
routes_those [] p = refl
routes_those (f ∷ fs) p = go (eqb f p) (ap (map suc) (routes_those fs p) ∙ sym (those_map suc (λ i. eqb (get_or (f ∷ fs) i 0) p) (λ i. eqb (get_or fs i 0) p) (numbers_below (length fs)) (λ i. refl)))
  where
    go : (b : Bool) → map suc (routes_from fs p) ≡ those (λ i. eqb (get_or (f ∷ fs) i 0) p) (map suc (numbers_below (length fs)))
        → cond b (0 ∷ map suc (routes_from fs p)) (map suc (routes_from fs p))
        ≡ cond b (0 ∷ those (λ i. eqb (get_or (f ∷ fs) i 0) p) (map suc (numbers_below (length fs)))) (those (λ i. eqb (get_or (f ∷ fs) i 0) p) (map suc (numbers_below (length fs))))
    go b e = rw e

-- where routes are picked, they are those of the picked that start there
routes_picked : (fs numbers : List ℕ) (p : ℕ) → entries_at numbers (routes_from (entries_at fs numbers) p) ≡ those (λ i. eqb (get_or fs i 0) p) numbers
routes_picked fs [] p = refl
routes_picked fs (o ∷ numbers) p =
    go (eqb (get_or fs o 0) p) (map-map (λ (k : ℕ). get_or (o ∷ numbers) k 0) suc (routes_from (entries_at fs numbers) p) ∙ routes_picked fs numbers p)
  where
    go : (b : Bool) → entries_at (o ∷ numbers) (map suc (routes_from (entries_at fs numbers) p)) ≡ those (λ i. eqb (get_or fs i 0) p) numbers
        → entries_at (o ∷ numbers) (cond b (0 ∷ map suc (routes_from (entries_at fs numbers) p)) (map suc (routes_from (entries_at fs numbers) p)))
        ≡ cond b (o ∷ those (λ i. eqb (get_or fs i 0) p) numbers) (those (λ i. eqb (get_or fs i 0) p) numbers)
    go true e = rw e
    go false e = e

-- ---- the chains that begin with some routes
beginning_picked : (ts numbers : List ℕ) (g h : ℕ → List (List ℕ)) → ((x : ℕ) → map (entries_at numbers) (g x) ≡ h x)
    → (routes : List ℕ) → ((k : ℕ) → Memᴰ k routes → k < length numbers)
    → map (entries_at numbers) (chains_beginning (entries_at ts numbers) g routes) ≡ chains_beginning ts h (entries_at numbers routes)
beginning_picked ts numbers g h e [] low = refl
beginning_picked ts numbers g h e (k ∷ routes) low =
    let to : get_or (entries_at ts numbers) k 0 ≡ get_or ts (get_or numbers k 0) 0 = map_at (λ (i : ℕ). get_or ts i 0) numbers 0 0 k (low k (Memᴰ.head refl)) in
    rw to (ap (λ (l : List (List ℕ)). (get_or numbers k 0 ∷ []) ∷ l)
    (map-append (entries_at numbers) (map (λ (c : List ℕ). k ∷ c) (g (get_or ts (get_or numbers k 0) 0))) (chains_beginning (entries_at ts numbers) g routes)
    ∙ ap (λ (l : List (List ℕ)). l ++ map (entries_at numbers) (chains_beginning (entries_at ts numbers) g routes)) (behind (g (get_or ts (get_or numbers k 0) 0)) ∙ ap (map (λ (c : List ℕ). get_or numbers k 0 ∷ c)) (e (get_or ts (get_or numbers k 0) 0)))
    ∙ ap (λ (l : List (List ℕ)). map (λ (c : List ℕ). get_or numbers k 0 ∷ c) (h (get_or ts (get_or numbers k 0) 0)) ++ l) (beginning_picked ts numbers g h e routes (λ j m. low j (Memᴰ.tail m)))))
  where
    behind : (l : List (List ℕ)) → map (entries_at numbers) (map (λ (c : List ℕ). k ∷ c) l) ≡ map (λ (c : List ℕ). get_or numbers k 0 ∷ c) (map (entries_at numbers) l)
    behind l = map-map (entries_at numbers) (λ (c : List ℕ). k ∷ c) l ∙ sym (map-map (λ (c : List ℕ). get_or numbers k 0 ∷ c) (entries_at numbers) l)

module _ (keep : ℕ → Bool) where
  stay_behind : (i : ℕ) (l : List (List ℕ)) → keep i ≡ true → those (every keep) (map (λ (c : List ℕ). i ∷ c) l) ≡ map (λ (c : List ℕ). i ∷ c) (those (every keep) l)
  stay_behind i l e = those_map (λ (c : List ℕ). i ∷ c) (every keep) (every keep) l (λ c. rw e)

  none_behind : (i : ℕ) (l : List (List ℕ)) → keep i ≡ false → those (every keep) (map (λ (c : List ℕ). i ∷ c) l) ≡ []
  none_behind i l e =
      those_map (λ (c : List ℕ). i ∷ c) (every keep) (λ c. false) l (λ c. rw e) ∙ ap (map (λ (c : List ℕ). i ∷ c)) (those_none (λ c. false) l (λ c. refl))

  stay_beginning : (ts : List ℕ) (g : ℕ → List (List ℕ)) (routes : List ℕ) → those (every keep) (chains_beginning ts g routes) ≡ chains_beginning ts (λ x. those (every keep) (g x)) (those keep routes)
  stay_beginning ts g [] = refl
  stay_beginning ts g (i ∷ routes) = go (keep i) refl (stay_beginning ts g routes)
    where
      parted : those (every keep) (map (λ (c : List ℕ). i ∷ c) (g (get_or ts i 0)) ++ chains_beginning ts g routes) ≡ those (every keep) (map (λ (c : List ℕ). i ∷ c) (g (get_or ts i 0))) ++ those (every keep) (chains_beginning ts g routes)
      parted = those_append (every keep) (map (λ (c : List ℕ). i ∷ c) (g (get_or ts i 0))) (chains_beginning ts g routes)

      go : (b : Bool) → keep i ≡ b → those (every keep) (chains_beginning ts g routes) ≡ chains_beginning ts (λ x. those (every keep) (g x)) (those keep routes)
          → those (every keep) (chains_beginning ts g (i ∷ routes)) ≡ chains_beginning ts (λ x. those (every keep) (g x)) (cond b (i ∷ those keep routes) (those keep routes))
      go true e ih = rw e (ap (λ (l : List (List ℕ)). (i ∷ []) ∷ l) (parted ∙ rw (stay_behind i (g (get_or ts i 0)) e, ih)))
      go false e ih = rw e (parted ∙ rw (none_behind i (g (get_or ts i 0)) e) ih)

  -- ---- a table with routes taken out
  kept_picks : (n : ℕ) → Picks n (old_numbers keep n)
  kept_picks n x m = below_mem n x (those_mem keep (numbers_below n) x m).0

  module _ (fs ts : List ℕ) where
    -- the old numbers of the routes that stay, and where these routes lead
    abbrev old : List ℕ
    old = old_numbers keep (length fs)

    abbrev ends : List ℕ
    ends = entries_at ts old

    -- the routes of a place that stay, by their old numbers
    routes_kept : (p : ℕ) → entries_at old (routes_from (kept_of keep fs) p) ≡ those keep (routes_from fs p)
    routes_kept p = routes_picked fs old p ∙ those_swap (λ i. eqb (get_or fs i 0) p) keep (numbers_below (length fs)) ∙ ap (those keep) (sym (routes_those fs p))

    up_to_kept : (d p : ℕ) → map (entries_at old) (chains_up_to (kept_of keep fs) ends d p) ≡ those (every keep) (chains_up_to fs ts d p)
    up_to_kept zero p = refl
    up_to_kept (suc d) p =
        beginning_picked ts old (chains_up_to (kept_of keep fs) ends d) (λ x. those (every keep) (chains_up_to fs ts d x)) (up_to_kept d) (routes_from (kept_of keep fs) p)
        (λ k m. within fs ts old (kept_picks (length fs)) k (route_starts (kept_of keep fs) p k m).0)
        ∙ ap (chains_beginning ts (λ x. those (every keep) (chains_up_to fs ts d x))) (routes_kept p)
        ∙ sym (stay_beginning ts (chains_up_to fs ts d) (routes_from fs p))

    -- no more routes than before
    few : length (kept_of keep fs) ≤ length fs
    few = omega (arith, length-map old (λ (i : ℕ). get_or fs i 0), those_few keep (numbers_below (length fs)), length_below (length fs))

    chains_left : LoopFree fs ts → (p : ℕ) → map (entries_at old) (chains_from (kept_of keep fs) ends p) ≡ those (every keep) (chains_from fs ts p)
    unfolding chains_from
    chains_left free p =
        let more = length fs - length (kept_of keep fs) in
        let e : length (kept_of keep fs) + more ≡ length fs = omega (arith, few) in
        ap (map (entries_at old))
        (sym (chains_enough (kept_of keep fs) ends (free_picked fs ts old (kept_picks (length fs)) free) more p) ∙ ap (λ (n : ℕ). chains_up_to (kept_of keep fs) ends n p) e)
        ∙ up_to_kept (length fs) p

    module _ (pairs : length fs ≡ length ts) where
      ends_kept : ends ≡ kept_of keep ts
      ends_kept = ap (λ (n : ℕ). entries_at ts (old_numbers keep n)) pairs

      -- THE CHAINS that are left, each route by its old number: those all of whose routes stay, in the same order
      pub chains_kept : LoopFree fs ts → (p : ℕ) → map (entries_at (old_numbers keep (length fs))) (chains_from (kept_of keep fs) (kept_of keep ts) p) ≡ those (every keep) (chains_from fs ts p)
      chains_kept free p = rw ends_kept at (chains_left free p)
