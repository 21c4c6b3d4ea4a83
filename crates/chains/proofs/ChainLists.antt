-- The list of the chains from a place: each is a chain from there, none comes twice, and without closed chains it has every one. Assumes
-- nothing.
use mathlib.Core.Path.{◌≡◌, refl, sym, ap, ◌∙◌, subst}
use mathlib.Core.Logic.{◌⊎◌, inl, inr, ⊎_elim}
use Prim.Native.Nat.{ℕ, zero, suc, ◌≤◌, ◌<◌, ◌+◌}
use native.Mathlib.Nat.{add-suc, add-zero}
use native.Mathlib.Omega.{arith}
use mathlib.Core.List.Memᴰ
use mathlib.Core.List.{List, [], ◌∷◌, map, Memᴰ, head-eq_of_cons-eq, tail-eq_of_cons-eq}
use lib.ListN.{length, get_or}
use Rattle.lists.specs.Lists.{Distinct}
use Rattle.lists.proofs.Lists.{distinct_append, distinct_map}
use Rattle.chains.specs.Chain.{Walk, Chain, LoopFree}
use Rattle.chains.specs.Spread.{routes_from}
use Rattle.chains.specs.ChainLists.{place_after, chains_beginning, chains_up_to, chains_from}
use Rattle.chains.proofs.Walks.{chain_walk}
use Rattle.chains.proofs.Loops.{short}
use Rattle.chains.proofs.Routes.{route_starts, starts_route, routes_once, routes_none}

module _ (fs ts : List ℕ) where
  -- a walk, and so a chain, ends at the place after its routes
  walk_after : (p : ℕ) (c : List ℕ) (q : ℕ) → Walk fs ts p c q → place_after ts p c ≡ q
  walk_after p [] q w = w
  walk_after p (i ∷ c) q (l, f, w) = walk_after (get_or ts i 0) c q w

  pub chain_after : (p : ℕ) (c : List ℕ) (q : ℕ) → Chain fs ts p c q → place_after ts p c ≡ q
  chain_after p c q w = let r = chain_walk fs ts p c q w in ap (place_after ts p) r.2 ∙ walk_after p (r.0 ∷ r.1) q r.3

  -- how a chain of the list begins: with one of the routes, then nothing or a chain that g gives
  record Begun (g : ℕ → List (List ℕ)) (routes c : List ℕ) : Type 0 where
    route : ℕ
    rest : List ℕ
    of : Memᴰ route routes
    is : c ≡ route ∷ rest
    on : (rest ≡ []) ⊎ Memᴰ rest (g (get_or ts route 0))

  begun : (g : ℕ → List (List ℕ)) (routes c : List ℕ) → Memᴰ c (chains_beginning ts g routes) → Begun g routes c
  begun g [] c m = absurd (Memᴰ.not-nil m)
  begun g (i ∷ routes) c m =
      ⊎_elim (λ (e : c ≡ i ∷ []). record { route = i; rest = []; of = Memᴰ.head refl; is = e; on = inl refl })
      (λ t. ⊎_elim (λ u. let r = Memᴰ.of_map (λ (d : List ℕ). i ∷ d) (g (get_or ts i 0)) u in record { route = i; rest = r.0; of = Memᴰ.head refl; is = sym r.2; on = inr r.1 })
      (λ u. let b = begun g routes c u in record { route = b.route; rest = b.rest; of = Memᴰ.tail b.of; is = b.is; on = b.on })
      (Memᴰ.append_cases (map (λ (d : List ℕ). i ∷ d) (g (get_or ts i 0))) t))
      (Memᴰ.cases_cons m)

  begin_by : (g : ℕ → List (List ℕ)) (routes : List ℕ) (i : ℕ) (c : List ℕ) → Memᴰ i routes → (c ≡ []) ⊎ Memᴰ c (g (get_or ts i 0)) → Memᴰ (i ∷ c) (chains_beginning ts g routes)
  begin_by g [] i c x'' on = elim x'' [ ]
  begin_by g (j ∷ routes) i c (Memᴰ.head e) (inl z) = rw (e, z) (Memᴰ.head refl)
  begin_by g (j ∷ routes) i c (Memᴰ.head e) (inr m) =
      subst (λ (x : ℕ). Memᴰ (x ∷ c) (chains_beginning ts g (j ∷ routes))) (sym e)
      (Memᴰ.tail (Memᴰ.append_left _ (Memᴰ.map (λ (d : List ℕ). j ∷ d) (subst (λ (x : ℕ). Memᴰ c (g (get_or ts x 0))) e m))))
  begin_by g (j ∷ routes) i c (Memᴰ.tail t) on = Memᴰ.tail (Memᴰ.append_right (map (λ (d : List ℕ). j ∷ d) (g (get_or ts j 0))) (begin_by g routes i c t on))

  -- ---- each is a chain
  walked : (p : ℕ) (c : List ℕ) (q : ℕ) → Chain fs ts p c q → Walk fs ts p c q
  walked p c q w = let r = chain_walk fs ts p c q w in rw r.2 r.3

  up_to_chain : (d p : ℕ) (c : List ℕ) → Memᴰ c (chains_up_to fs ts d p) → Chain fs ts p c (place_after ts p c)
  up_to_chain zero p c m = absurd (Memᴰ.not-nil m)
  up_to_chain (suc d) p c m =
      let b = begun (chains_up_to fs ts d) (routes_from fs p) c m in
      let s = route_starts fs p b.route b.of in
      let x = get_or ts b.route 0 in
      let on : Walk fs ts x b.rest (place_after ts x b.rest) = ⊎_elim (λ (e : b.rest ≡ []). rw e refl) (λ h. walked x b.rest _ (up_to_chain d x b.rest h)) b.on in
      subst (λ (e : List ℕ). Chain fs ts p e (place_after ts p e)) (sym b.is) (s.0, s.1, on)

  pub listed_chain : (p : ℕ) (c : List ℕ) → Memᴰ c (chains_from fs ts p) → Chain fs ts p c (place_after ts p c)
  unfolding chains_from
  listed_chain p c m = up_to_chain (length fs) p c m

  -- ---- none comes twice
  begun_once : (g : ℕ → List (List ℕ)) → ((x : ℕ) → Memᴰ [] (g x) → ⊥) → ((x : ℕ) → Distinct (g x)) → (routes : List ℕ) → Distinct routes → Distinct (chains_beginning ts g routes)
  begun_once g full once [] d = tt
  begun_once g full once (i ∷ routes) (n, d) = (
    λ m. ⊎_elim (λ u. let r = Memᴰ.of_map (λ (c : List ℕ). i ∷ c) (g (get_or ts i 0)) u in full (get_or ts i 0) (Memᴰ.cast (sym (tail-eq_of_cons-eq r.2)) r.1)) (other []) (Memᴰ.append_cases (map (λ (c : List ℕ). i ∷ c) (g (get_or ts i 0))) m),
    distinct_append (map (λ (c : List ℕ). i ∷ c) (g (get_or ts i 0))) (chains_beginning ts g routes)
        (distinct_map (λ (c : List ℕ). i ∷ c) (g (get_or ts i 0)) (λ x y m k e. tail-eq_of_cons-eq e) (once (get_or ts i 0)))
        (begun_once g full once routes d)
        (λ x m k. let r = Memᴰ.of_map (λ (c : List ℕ). i ∷ c) (g (get_or ts i 0)) m in other r.0 (Memᴰ.cast r.2 k)),
  )
    where
      other : (c : List ℕ) → Memᴰ (i ∷ c) (chains_beginning ts g routes) → ⊥
      other c m = let b = begun g routes (i ∷ c) m in n (Memᴰ.cast (head-eq_of_cons-eq b.is) b.of)

  up_to_once : (d p : ℕ) → Distinct (chains_up_to fs ts d p)
  up_to_once zero p = tt
  up_to_once (suc d) p = begun_once (chains_up_to fs ts d) (λ x m. up_to_chain d x [] m) (up_to_once d) (routes_from fs p) (routes_once fs p)

  pub listed_once : (p : ℕ) → Distinct (chains_from fs ts p)
  unfolding chains_from
  listed_once p = up_to_once (length fs) p

  -- ---- every chain is there
  walk_up_to : (d p j : ℕ) (c : List ℕ) (q : ℕ) → length c < d → Walk fs ts p (j ∷ c) q → Memᴰ (j ∷ c) (chains_up_to fs ts d p)
  walk_up_to zero p j c q h w = absurd (omega arith)
  walk_up_to (suc d) p j [] q h (l, f, w) = begin_by (chains_up_to fs ts d) (routes_from fs p) j [] (starts_route fs p j l f) (inl refl)
  walk_up_to (suc d) p j (x ∷ c) q h (l, f, w) =
      begin_by (chains_up_to fs ts d) (routes_from fs p) j (x ∷ c) (starts_route fs p j l f) (inr (walk_up_to d (get_or ts j 0) x c q (omega arith) w))

  pub chain_listed : LoopFree fs ts → (p : ℕ) (c : List ℕ) (q : ℕ) → Chain fs ts p c q → Memᴰ c (chains_from fs ts p)
  unfolding chains_from
  chain_listed free p c q w =
      let r = chain_walk fs ts p c q w in
      rw r.2 (walk_up_to (length fs) p r.0 r.1 q (short fs ts free p (r.0 ∷ r.1) q r.3) r.3)

  -- ---- more routes than the longest chain has change nothing
  beginning_same : (g h : ℕ → List (List ℕ)) (routes : List ℕ) → ((i : ℕ) → Memᴰ i routes → g (get_or ts i 0) ≡ h (get_or ts i 0)) → chains_beginning ts g routes ≡ chains_beginning ts h routes
  beginning_same g h [] s = refl
  beginning_same g h (i ∷ routes) s = rw (s i (Memᴰ.head refl), beginning_same g h routes (λ j m. s j (Memᴰ.tail m)))

  enough : (d p : ℕ) → ((c : List ℕ) (q : ℕ) → Walk fs ts p c q → length c ≤ d) → chains_up_to fs ts (suc d) p ≡ chains_up_to fs ts d p
  enough zero p k = ap (chains_beginning ts (chains_up_to fs ts 0)) (routes_none fs p (λ j l f. let h = k (j ∷ []) (get_or ts j 0) (l, f, refl) in absurd (omega (arith, h))))
  enough (suc d) p k =
      beginning_same (chains_up_to fs ts (suc d)) (chains_up_to fs ts d) (routes_from fs p)
      (λ j m. enough d (get_or ts j 0) (λ c q w. let s = route_starts fs p j m in let h = k (j ∷ c) q (s.0, s.1, w) in omega (arith, h)))

  module _ (free : LoopFree fs ts) where
    -- the rule that the chains obey
    pub chains_rule : (p : ℕ) → chains_from fs ts p ≡ chains_beginning ts (chains_from fs ts) (routes_from fs p)
    unfolding chains_from
    chains_rule p = sym (enough (length fs) p (short fs ts free p))

    pub chains_enough : (k p : ℕ) → chains_up_to fs ts (length fs + k) p ≡ chains_from fs ts p
    unfolding chains_from
    chains_enough zero p = rw add-zero refl
    chains_enough (suc k) p = rw add-suc (enough (length fs + k) p (λ c q w. let h = short fs ts free p c q w in omega (arith, h)) ∙ chains_enough k p)
