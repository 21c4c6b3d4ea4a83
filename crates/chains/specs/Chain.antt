-- Chains of routes ("The route book"). A table of routes is two lists of places in step: route i leads from the place
-- `get_or froms i 0` to the place `get_or tos i 0`, and a lower route stands on a lower R line. Assumes nothing: these are
-- definitions.
use Rattle.std.specs.Prelude.{◌≡◌, ℕ, ◌<◌, length, get_or}
use mathlib.Core.List.{List, [], ◌∷◌, Memᴰ}

-- chains differ if their sequences of routes differ
abbrev pub Different : List ℕ → List ℕ → Type 0
Different c d = c ≡ d → ⊥

module _ (froms tos : List ℕ) where
  -- a walk from p to q: routes of the table, each starting at the place where the one before ended; it may be empty
  abbrev pub Walk : ℕ → List ℕ → ℕ → Type 0
  Walk p [] q = p ≡ q
  Walk p (i ∷ c) q = (i < length froms) × (get_or froms i 0 ≡ p) × Walk (get_or tos i 0) c q

  -- a chain from p to q: a walk of one or more routes
  abbrev pub Chain : ℕ → List ℕ → ℕ → Type 0
  Chain p [] q = ⊥
  Chain p (i ∷ c) q = Walk p (i ∷ c) q

  -- route i leads on to the place x: a walk goes there from the place where the route ends
  abbrev pub LeadsOn : ℕ → ℕ → Type 0
  LeadsOn i x = (c : List ℕ) × Walk (get_or tos i 0) c x

  -- a closed chain ends where it began
  abbrev pub Closed : ℕ → List ℕ → Type 0
  Closed p c = Chain p c p

  -- route i lies on a closed chain
  abbrev pub OnClosed : ℕ → Type 0
  OnClosed i = (p : ℕ) × (c : List ℕ) × Closed p c × Memᴰ i c

  -- c and d are two different chains that join the places p and q
  pub record JoinedTwice (p q : ℕ) (c d : List ℕ) : Type 0 where
    pub one : Chain p c q
    pub other : Chain p d q
    pub different : Different c d

  -- route i begins one of such a pair
  abbrev pub BeginsDoubling : ℕ → Type 0
  BeginsDoubling i = (p q : ℕ) × (c d : List ℕ) × JoinedTwice p q (i ∷ c) d

  -- no closed chain
  abbrev pub LoopFree : Type 0
  LoopFree = (p : ℕ) (c : List ℕ) → Closed p c → ⊥

  -- no two different chains that join the same two places
  abbrev pub Single : Type 0
  Single = (p q : ℕ) (c d : List ℕ) → JoinedTwice p q c d → ⊥

-- no closed chain, and no two different chains that join the same two places
pub record IsSound (froms tos : List ℕ) : Type 0 where
  pub loop_free : LoopFree froms tos
  pub single : Single froms tos
