-- What the spread is: the ends of the chains from a place, one by one; so every place that a chain reaches, and nothing else; in a sound
-- table each once, and no more than there are routes; a place without routes has none; and it is the only list for each place that
-- obeys the rule. Assumes nothing.
use mathlib.Core.Path.{◌≡◌, refl, sym, ap, ◌∙◌, subst}
use Prim.Native.Nat.{ℕ, zero, suc, ◌≤◌, ◌<◌}
use native.Mathlib.Omega.{arith}
use native.Mathlib.Decide.{ℕ_discrete}
use mathlib.Core.List.Memᴰ
use mathlib.Core.List.{List, [], ◌∷◌, ◌++◌, map, map-map, map-append, List-discrete, Memᴰ}
use lib.ListN.{length, get_or, length-map}
use Rattle.lists.specs.Lists.{Distinct}
use Rattle.lists.proofs.Lists.{mem_at, map_at, distinct_map}
use Rattle.lists.proofs.Pigeons.{pigeons}
use Rattle.chains.specs.Chain.{Walk, Chain, LoopFree, Single, IsSound}
use Rattle.chains.specs.Spread.{routes_from, sends, SpreadRule, spread_up_to, spread_of}
use Rattle.chains.specs.ChainLists.{place_after, chains_beginning, chains_up_to, chains_from}
use Rattle.chains.proofs.Walks.{walk_end, chain_walk}
use Rattle.chains.proofs.Loops.{short}
use Rattle.chains.proofs.Routes.{route_starts, routes_none}
use Rattle.chains.proofs.ChainLists.{chain_after, listed_chain, listed_once, chain_listed, chains_rule}

module _ (fs ts : List ℕ) where
  ends_beginning : (g : ℕ → List (List ℕ)) (routes : List ℕ) (p : ℕ) → map (place_after ts p) (chains_beginning ts g routes) ≡ sends ts (λ q. map (place_after ts q) (g q)) routes
  ends_beginning g [] p = refl
  ends_beginning g (i ∷ routes) p =
      ap (λ (l : List ℕ). get_or ts i 0 ∷ l)
      (map-append (place_after ts p) (map (λ (c : List ℕ). i ∷ c) (g (get_or ts i 0))) (chains_beginning ts g routes)
      ∙ ap (λ (l : List ℕ). l ++ map (place_after ts p) (chains_beginning ts g routes)) (map-map (place_after ts p) (λ (c : List ℕ). i ∷ c) (g (get_or ts i 0)))
      ∙ ap (λ (l : List ℕ). map (place_after ts (get_or ts i 0)) (g (get_or ts i 0)) ++ l) (ends_beginning g routes p))

  ends_up_to : (d p : ℕ) → map (place_after ts p) (chains_up_to fs ts d p) ≡ spread_up_to fs ts d p
  ends_up_to zero p = refl
  ends_up_to (suc d) p = ends_beginning (chains_up_to fs ts d) (routes_from fs p) p ∙ ap (λ (g : ℕ → List ℕ). sends ts g (routes_from fs p)) (λ i q. ends_up_to d q i)

  -- ONE BY ONE: the entries of the spread are where the chains from p end
  pub chain_ends : (p : ℕ) → map (place_after ts p) (chains_from fs ts p) ≡ spread_of fs ts p
  unfolding spread_of chains_from
  chain_ends p = ends_up_to (length fs) p

  -- NOTHING ELSE: each entry of the spread ends a chain from p
  pub spread_chain : (p q : ℕ) → Memᴰ q (spread_of fs ts p) → (c : List ℕ) × Chain fs ts p c q
  spread_chain p q h =
      let r = Memᴰ.of_map (place_after ts p) (chains_from fs ts p) (rw (← chain_ends p) at h) in
      (r.0, subst (λ (x : ℕ). Chain fs ts p r.0 x) r.2 (listed_chain fs ts p r.0 r.1))

  -- EVERY PLACE: where a chain from p ends is an entry
  pub chain_spread : LoopFree fs ts → (p q : ℕ) (c : List ℕ) → Chain fs ts p c q → Memᴰ q (spread_of fs ts p)
  chain_spread free p q c w =
      rw (← chain_ends p, ← chain_after fs ts p c q w) (Memᴰ.map (place_after ts p) (chain_listed fs ts free p c q w))

  -- two chains from p that end at one place are the same
  pub same_chain : Single fs ts → (p : ℕ) (c d : List ℕ) (q : ℕ) → Chain fs ts p c q → Chain fs ts p d q → c ≡ d
  same_chain single p c d q w v = go (List-discrete ℕ_discrete c d)
    where
      go : Dec (c ≡ d) → c ≡ d
      go (yes e) = e
      go (no n) = absurd (single p q c d (record { one = w; other = v; different = n }))

  module _ (free : LoopFree fs ts) (single : Single fs ts) where
    -- EACH ONCE
    pub spread_once : (p : ℕ) → Distinct (spread_of fs ts p)
    spread_once p =
        rw (← chain_ends p)
        (distinct_map (place_after ts p) (chains_from fs ts p)
        (λ c d m k e. same_chain single p c d (place_after ts p d) (rw (← e) (listed_chain fs ts p c m)) (listed_chain fs ts p d k)) (listed_once fs ts p))

    -- AT MOST AS MANY AS ROUTES
    pub spread_few : length fs ≡ length ts → (p : ℕ) → length (spread_of fs ts p) ≤ length fs
    spread_few e p =
        rw e (pigeons (spread_of fs ts p) ts (spread_once p) (λ x h. let k = spread_chain p x h in let r = chain_walk fs ts p k.0 x k.1 in walk_end fs ts e p r.0 r.1 x r.3))

  -- AT ITS POSITION: in a sound table the chain that reaches an entry is the one that stands where the entry does
  pub entry_chain : IsSound fs ts → (p : ℕ) (c : List ℕ) (k : ℕ) → k < length (spread_of fs ts p) → Chain fs ts p c (get_or (spread_of fs ts p) k 0) → get_or (chains_from fs ts p) k [] ≡ c
  entry_chain sound p c k l w =
      let h : k < length (chains_from fs ts p) = omega (arith, ap length (chain_ends p), length-map (chains_from fs ts p) (place_after ts p)) in
      let d = get_or (chains_from fs ts p) k [] in
      let e : get_or (spread_of fs ts p) k 0 ≡ place_after ts p d = ap (λ (s : List ℕ). get_or s k 0) (sym (chain_ends p)) ∙ map_at (place_after ts p) (chains_from fs ts p) [] 0 k h in
      same_chain sound.single p d c (place_after ts p d) (listed_chain fs ts p d (mem_at (chains_from fs ts p) [] k h)) (subst (λ (x : ℕ). Chain fs ts p c x) e w)

  sends_same : (g h : ℕ → List ℕ) (routes : List ℕ) → ((i : ℕ) → Memᴰ i routes → g (get_or ts i 0) ≡ h (get_or ts i 0)) → sends ts g routes ≡ sends ts h routes
  sends_same g h [] s = refl
  sends_same g h (i ∷ routes) s = rw (s i (Memᴰ.head refl), sends_same g h routes (λ j m. s j (Memᴰ.tail m)))

  -- what obeys the rule is the spread along chains of at most d routes, where no chain from p is longer
  rule_up_to : (g : ℕ → List ℕ) → SpreadRule fs ts g → (d p : ℕ) → ((c : List ℕ) (q : ℕ) → Walk fs ts p c q → length c ≤ d) → g p ≡ spread_up_to fs ts d p
  rule_up_to g rule zero p k = rule p ∙ ap (sends ts g) (routes_none fs p (λ j l f. let h = k (j ∷ []) (get_or ts j 0) (l, f, refl) in absurd (omega (arith, h))))
  rule_up_to g rule (suc d) p k =
      rule p ∙ sends_same g (spread_up_to fs ts d) (routes_from fs p)
      (λ j m. rule_up_to g rule d (get_or ts j 0) (λ c q w. let s = route_starts fs p j m in let h = k (j ∷ c) q (s.0, s.1, w) in omega (arith, h)))

  -- THE RULE: without closed chains the spread obeys it, and nothing else does
  pub spread_rule : LoopFree fs ts → SpreadRule fs ts (spread_of fs ts)
  spread_rule free p =
      sym (chain_ends p) ∙ ap (map (place_after ts p)) (chains_rule fs ts free p) ∙ ends_beginning (chains_from fs ts) (routes_from fs p) p
      ∙ ap (λ (g : ℕ → List ℕ). sends ts g (routes_from fs p)) (λ i q. chain_ends q i)

  pub rule_spread : LoopFree fs ts → (g : ℕ → List ℕ) → SpreadRule fs ts g → (p : ℕ) → g p ≡ spread_of fs ts p
  unfolding spread_of
  rule_spread free g rule p = rule_up_to g rule (length fs) p (short fs ts free p)

  -- A PLACE WITHOUT ROUTES has an empty spread
  pub no_routes : LoopFree fs ts → (p : ℕ) → ((j : ℕ) → j < length fs → get_or fs j 0 ≡ p → ⊥) → spread_of fs ts p ≡ []
  no_routes free p none = spread_rule free p ∙ ap (sends ts (spread_of fs ts)) (routes_none fs p none)
