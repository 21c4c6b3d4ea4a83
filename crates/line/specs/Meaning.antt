-- "The route book": what one line says, by its fields. Only its form is judged here; the limits are not. Assumes nothing.
use Rattle.std.specs.Prelude.{ℕ, cond, List, [], ◌∷◌, eqb, Option, Some, None}
use Rattle.numerals.specs.Numeral.{identifier, decimal}
use Rattle.parts.specs.Parts.{fields, TextLine, ended, unended}
use Rattle.line.specs.declared.Line.{Line}
use Rattle.line.specs.declared.Line.TheVariants.{Message, Signal, Route, IllFormed}

-- the kinds of line: the bytes M, S and R
abbrev pub letter_m : ℕ
letter_m = 77

abbrev pub letter_s : ℕ
letter_s = 83

abbrev pub letter_r : ℕ
letter_r = 82

-- a line of well formed numbers; ill formed where one is not
abbrev pub message_of : Option ℕ → Line
message_of (Some i) = Message i
message_of None = IllFormed

abbrev pub signal_of : Option ℕ → Option ℕ → Line
signal_of (Some n) (Some s) = Signal n s
signal_of (Some n) None = IllFormed
signal_of None s = IllFormed

abbrev pub route_of : Option ℕ → Option ℕ → Option ℕ → Option ℕ → Line
route_of (Some a) (Some i) (Some b) (Some j) = Route a i b j
route_of (Some a) (Some i) (Some b) None = IllFormed
route_of (Some a) (Some i) None j = IllFormed
route_of (Some a) None b j = IllFormed
route_of None i b j = IllFormed

-- `M` identifier
unfoldable pub of_message : List (List ℕ) → Line
of_message [] = IllFormed
of_message (i ∷ []) = message_of (identifier i)
of_message (i ∷ x ∷ fs) = IllFormed

-- `S` signal number, start
unfoldable pub of_signal : List (List ℕ) → Line
of_signal [] = IllFormed
of_signal (n ∷ []) = IllFormed
of_signal (n ∷ s ∷ []) = signal_of (decimal n) (decimal s)
of_signal (n ∷ s ∷ x ∷ fs) = IllFormed

-- `R` bus, identifier, bus, identifier: from place, to place
unfoldable pub of_route : List (List ℕ) → Line
of_route [] = IllFormed
of_route (a ∷ []) = IllFormed
of_route (a ∷ i ∷ []) = IllFormed
of_route (a ∷ i ∷ b ∷ []) = IllFormed
of_route (a ∷ i ∷ b ∷ j ∷ []) = route_of (decimal a) (identifier i) (decimal b) (identifier j)
of_route (a ∷ i ∷ b ∷ j ∷ x ∷ fs) = IllFormed

-- by the kind, what the fields after it say
unfoldable pub of_kind : ℕ → List (List ℕ) → Line
of_kind k fs =
    cond (eqb k letter_m) (of_message fs)
    (cond (eqb k letter_s) (of_signal fs) (cond (eqb k letter_r) (of_route fs) IllFormed))

-- the first field is the kind, one byte
unfoldable pub of_fields : List (List ℕ) → Line
of_fields [] = IllFormed
of_fields ([] ∷ fs) = IllFormed
of_fields ((k ∷ []) ∷ fs) = of_kind k fs
of_fields ((k ∷ b ∷ l) ∷ fs) = IllFormed

-- what the bytes of a line, without its newline, say
unfoldable pub line_meaning : List ℕ → Line
line_meaning l = of_fields (fields l)

-- a line of a text: "last newline missing" is ill formed, whatever else stands there
unfoldable pub meaning_of : TextLine → Line
meaning_of (ended l) = line_meaning l
meaning_of (unended l) = IllFormed
