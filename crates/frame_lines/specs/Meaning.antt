-- "lines of identifier, tab, 0 to 16 hex digits (even, 0-9 A-F, byte 0 first)": what a frame line says. Assumes nothing.
use Rattle.std.specs.Prelude.{Bool, true, cond, ◌&&◌, List, [], ◌∷◌, ℕ, ◌+◌, ◌*◌, ◌%◌, eqb, ltb, leb, length, Option, Some, None}
use Rattle.numerals.specs.Numeral.{digit_value, identifier}
use Rattle.parts.specs.Parts.{fields}
use Rattle.bits.specs.Frame.{frame_bytes}
use Rattle.frame_lines.specs.declared.FrameLine.{FrameLine}
use Rattle.frame_lines.specs.declared.FrameLine.TheVariants.{Frame, NotEightBytes, IllFormed}

-- what a frame line says: an identifier and bytes, byte 0 first
pub data FrameMeaning : Type 0 where
  frame : ℕ → List ℕ → FrameMeaning
  ill_formed_spec : FrameMeaning

-- two digits for each byte of a frame: 16
abbrev pub frame_digits : ℕ
frame_digits = 2 * frame_bytes

-- each byte is a digit 0-9 A-F
unfoldable pub all_digits_spec : List ℕ → Bool
all_digits_spec [] = true
all_digits_spec (b ∷ t) = ltb (digit_value b) 16 && all_digits_spec t

-- 0 to 16 digits, an even number of them
unfoldable pub are_bytes : List ℕ → Bool
are_bytes l = leb (length l) frame_digits && (eqb (length l % 2) 0 && all_digits_spec l)

-- two digits a byte, the higher first
unfoldable pub bytes_in : List ℕ → List ℕ
bytes_in [] = []
bytes_in (a ∷ []) = []
bytes_in (a ∷ b ∷ t) = (16 * digit_value a + digit_value b) ∷ bytes_in t

-- by the identifier, with the digits after it
abbrev pub said_by : Option ℕ → List ℕ → FrameMeaning
said_by (Some i) l = cond (are_bytes l) (frame i (bytes_in l)) ill_formed_spec
said_by None l = ill_formed_spec

-- two fields: the identifier and the bytes
unfoldable pub of_frame_fields : List (List ℕ) → FrameMeaning
of_frame_fields [] = ill_formed_spec
of_frame_fields (i ∷ []) = ill_formed_spec
of_frame_fields (i ∷ l ∷ []) = said_by (identifier i) l
of_frame_fields (i ∷ l ∷ x ∷ fs) = ill_formed_spec

-- what the bytes of a line, without its newline, say
unfoldable pub frame_line_says : List ℕ → FrameMeaning
frame_line_says l = of_frame_fields (fields l)

-- document 01's number of each answer; 0 is no refusal
abbrev pub frame_line_number : FrameLine → ℕ
frame_line_number (Frame identifier word) = 0
frame_line_number (NotEightBytes identifier) = 21
frame_line_number IllFormed = 20
