-- What a text says, by its lines alone: the messages of its M and S lines, the routes of its R lines. Assumes nothing: these are
-- definitions.
use Rattle.std.specs.Prelude.{◌≡◌, ℕ, ◌+◌, ◌≤◌, List, [], ◌∷◌, map, get_or}
use Rattle.record.specs.Place.{place_key}
use Rattle.line.specs.declared.Line.{Line}
use Rattle.line.specs.declared.Line.TheVariants as line
use Rattle.books.specs.Book.{Placement, Message, Route, placement, route}
use Rattle.reading.specs.Reading.{meanings}
use Rattle.reading.specs.Taken.{r_lines_from}
use Rattle.demands.specs.RLines.{RLine, r_lines_in}

-- the signals of the S lines up to the next M line, in the order of the lines
unfoldable pub s_placements : List Line → List Placement
s_placements [] = []
s_placements (line.Message i ∷ ls) = []
s_placements (line.Signal n s ∷ ls) = placement n s ∷ s_placements ls
s_placements (line.Route a i b j ∷ ls) = s_placements ls
s_placements (line.IllFormed ∷ ls) = s_placements ls

-- the messages that M lines say, in the order of the lines: each with the signals of the S lines between it and the next M line
unfoldable pub m_messages : List Line → List Message
m_messages [] = []
m_messages (line.Message i ∷ ls) = record { identifier = i; placements = s_placements ls } ∷ m_messages ls
m_messages (line.Signal n s ∷ ls) = m_messages ls
m_messages (line.Route a i b j ∷ ls) = m_messages ls
m_messages (line.IllFormed ∷ ls) = m_messages ls

-- the route that an R line says: from the place of its first bus and identifier to that of its second
abbrev pub line_route : RLine → Route
line_route l = route l.bus l.identifier l.to_bus l.to_identifier

-- the routes that R lines say, in the order of the lines
unfoldable pub r_routes : List Line → List Route
r_routes ls = map line_route (r_lines_in ls)

-- the messages and the routes of a text
abbrev pub text_messages : List ℕ → List Message
text_messages text = m_messages (meanings text)

abbrev pub text_routes : List ℕ → List Route
text_routes text = r_routes (meanings text)

-- line number n, of lines counted from first on, is an R line from the place p to the place q
pub record RouteAt (first : ℕ) (ls : List Line) (n p q : ℕ) : Type 0 where
  pub before : ℕ
  pub number : n ≡ before + first
  pub bus : ℕ
  pub identifier : ℕ
  pub to_bus : ℕ
  pub to_identifier : ℕ
  pub says : get_or ls before line.IllFormed ≡ line.Route bus identifier to_bus to_identifier
  pub from : p ≡ place_key bus identifier
  pub to : q ≡ place_key to_bus to_identifier

-- the line number of route i of a text: that of its R line
abbrev pub line_of : List ℕ → ℕ → ℕ
line_of text i = get_or (r_lines_from 1 (meanings text)) i 0

-- n is the lowest line of a route of the text of which P holds
pub record LowestLine (text : List ℕ) (P : ℕ → Type 0) (n : ℕ) : Type 0 where
  pub route : ℕ
  pub holds : P route
  pub line : n ≡ line_of text route
  pub lowest : (k : ℕ) → P k → n ≤ line_of text k
