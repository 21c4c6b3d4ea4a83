-- The numbers of the places of a column: the working side of the verdict, which no entry point's contract names. `verdict: Renaming
-- judged_places` ties it to chains: the verdict over numbers is the verdict over places. Assumes nothing: these are definitions.
use Rattle.std.specs.Prelude.{◌≡◌, ℕ, ◌<◌, ◌≤◌, List, length, get_or}

-- the place with index i stands first at r
pub record FirstAt (places : List ℕ) (i r : ℕ) : Type 0 where
  pub within : r ≤ i
  pub same : get_or places r 0 ≡ get_or places i 0
  pub none_before : (k : ℕ) → k < r → get_or places k 0 ≡ get_or places i 0 → ⊥

-- each place has its number
unfoldable pub Numbered : List ℕ → List ℕ → Type 0
Numbered places numbers = (i : ℕ) → i < length places → FirstAt places i (get_or numbers i 0)

-- each place has its number, and the entries past them stay as they were lent
pub record NumbersOf (places lent numbers : List ℕ) : Type 0 where
  pub numbered : Numbered places numbers
  pub long : length numbers ≡ length lent
  pub rest : (i : ℕ) → length places ≤ i → get_or numbers i 0 ≡ get_or lent i 0
