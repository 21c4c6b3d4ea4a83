-- R lines as they are written, and chains of them: "A place is a bus with an identifier. A chain is one or more R lines, each starting at
-- the place where the line before ended. It is closed if it ends where it began. Chains differ if their sequences of line numbers
-- differ." Assumes nothing: these are definitions.
use Rattle.std.specs.Prelude.{◌≡◌, ℕ, ◌<◌, ◌≤◌, length, get_or}
use mathlib.Core.List.{List, [], ◌∷◌, Memᴰ}
use Rattle.record.specs.Place.{place_key}
use Rattle.chains.specs.Chain.{Different}
use Rattle.chains.specs.Spread.{Distinct}
use Rattle.line.specs.declared.Line.{Line}
use Rattle.line.specs.declared.Line.TheVariants as line
use Rattle.reading.specs.Reading.{meanings}
use Rattle.routes.specs.Answers.{IsPlace}

-- "bus, identifier, bus, identifier: from place, to place"
pub record RLine : Type 0 where
  pub bus : ℕ
  pub identifier : ℕ
  pub to_bus : ℕ
  pub to_identifier : ℕ

-- an R line from a place to a place: its buses and identifiers are within their limits
pub record InLimits (l : RLine) : Type 0 where
  pub from : IsPlace l.bus l.identifier
  pub to : IsPlace l.to_bus l.to_identifier

-- all of them are
pub data AllInLimits : List RLine → Type 0 where
  none : AllInLimits []
  more : {l : RLine} {ls : List RLine} → InLimits l → AllInLimits ls → AllInLimits (l ∷ ls)

-- the R lines of a text, in their order
unfoldable pub r_lines_in : List Line → List RLine
r_lines_in [] = []
r_lines_in (line.Message i ∷ ls) = r_lines_in ls
r_lines_in (line.Signal n s ∷ ls) = r_lines_in ls
r_lines_in (line.Route a i b j ∷ ls) = record { bus = a; identifier = i; to_bus = b; to_identifier = j } ∷ r_lines_in ls
r_lines_in (line.IllFormed ∷ ls) = r_lines_in ls

abbrev pub text_r_lines : List ℕ → List RLine
text_r_lines text = r_lines_in (meanings text)

-- what stands where there is no such line
abbrev pub no_line_spec : RLine
no_line_spec = record { bus = 0; identifier = 0; to_bus = 0; to_identifier = 0 }

-- the k-th of them
abbrev pub r_line_at : List RLine → ℕ → RLine
r_line_at ls k = get_or ls k no_line_spec

module _ (ls : List RLine) where
  -- lines, by their index among the R lines, each starting at the bus and identifier where the one before ended; there may be none
  abbrev pub LineWalk : ℕ → ℕ → List ℕ → ℕ → ℕ → Type 0
  LineWalk bus identifier [] to_bus to_identifier = (bus ≡ to_bus) × (identifier ≡ to_identifier)
  LineWalk bus identifier (k ∷ c) to_bus to_identifier =
      (k < length ls) × ((r_line_at ls k).bus ≡ bus) × ((r_line_at ls k).identifier ≡ identifier) × LineWalk (r_line_at ls k).to_bus (r_line_at ls k).to_identifier c to_bus to_identifier

  -- a chain is one or more of them
  abbrev pub LineChain : ℕ → ℕ → List ℕ → ℕ → ℕ → Type 0
  LineChain bus identifier [] to_bus to_identifier = ⊥
  LineChain bus identifier (k ∷ c) to_bus to_identifier = LineWalk bus identifier (k ∷ c) to_bus to_identifier

  -- a chain that returns to the bus and identifier it left
  pub record Returning (bus identifier : ℕ) (chain : List ℕ) : Type 0 where
    pub closed : LineChain bus identifier chain bus identifier

  -- two different chains that join the same two places
  pub record Joining (bus identifier to_bus to_identifier : ℕ) (chain another : List ℕ) : Type 0 where
    pub one : LineChain bus identifier chain to_bus to_identifier
    pub other : LineChain bus identifier another to_bus to_identifier
    pub different : Different chain another

  -- the k-th R line lies on a closed chain
  pub record OnLoop (k : ℕ) : Type 0 where
    pub bus : ℕ
    pub identifier : ℕ
    pub chain : List ℕ
    pub returning : Returning bus identifier chain
    pub on : Memᴰ k chain

  -- it begins one of two different chains that join the same two places
  pub record BeginsPair (k : ℕ) : Type 0 where
    pub bus : ℕ
    pub identifier : ℕ
    pub to_bus : ℕ
    pub to_identifier : ℕ
    pub rest : List ℕ
    pub another : List ℕ
    pub joining : Joining bus identifier to_bus to_identifier (k ∷ rest) another

  -- places, each by its number, list what chains reach from a bus and identifier: every such place, nothing else, each once, and no more
  -- than there are R lines
  pub record ListsPlaces (bus identifier : ℕ) (places : List ℕ) : Type 0 where
    pub every : (to_bus to_identifier : ℕ) (c : List ℕ) → LineChain bus identifier c to_bus to_identifier → Memᴰ (place_key to_bus to_identifier) places
    pub only : (place : ℕ) → Memᴰ place places
        → (to_bus to_identifier : ℕ) × (c : List ℕ) × (place ≡ place_key to_bus to_identifier) × LineChain bus identifier c to_bus to_identifier
    pub once : Distinct places
    pub few : length places ≤ length ls
