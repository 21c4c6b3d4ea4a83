-- The lines that two columns side by side make. The working side: these say what the inner functions ask and keep. Assumes nothing: these
-- are definitions.
use Rattle.std.specs.Prelude.{ℕ, List, [], ◌∷◌}
use Rattle.line.specs.declared.Line.{Line}
use Rattle.books.specs.Book.{placement, route_between}
use Rattle.reading.specs.Written.{signal_line, route_line}

-- the line of a signal by its number and its start, and that of a route by its places
abbrev pub signal_line_of : ℕ → ℕ → Line
signal_line_of n s = signal_line (placement n s)

abbrev pub route_line_of : ℕ → ℕ → Line
route_line_of f t = route_line (route_between f t)

-- no such line has more bytes, whatever its numbers
abbrev pub pair_line_limit : ℕ
pair_line_limit = 32

-- the lines that pairs of entries make, of two columns side by side
abbrev pub pair_lines : (ℕ → ℕ → Line) → List ℕ → List ℕ → List Line
pair_lines line [] ys = []
pair_lines line (x ∷ xs) [] = []
pair_lines line (x ∷ xs) (y ∷ ys) = line x y ∷ pair_lines line xs ys
