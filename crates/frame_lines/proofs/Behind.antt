-- What an answer says of its line: the bytes that stand behind it. Assumes nothing.
use mathlib.Core.Path.{◌≡◌, refl, sym, ap, ◌∙◌}
use mathlib.Core.Bool.{Bool, true, false, cond, ◌&&◌}
use mathlib.Core.List.{List, [], ◌∷◌}
use Prim.Native.Nat.{ℕ, ◌%◌, ◌<◌}
use native.Mathlib.Omega.{arith}
use lib.Dec.{eqb, leb}
use lib.ListN.{length, get_or}
use borrow.Author.Tests.{eqb-true, eqb-false}
use Rattle.std.specs.Prelude.{Option, Some, None}
use Rattle.numerals.specs.Numeral.{identifier}
use Rattle.parts.specs.Parts.{fields}
use Rattle.bits.specs.Frame.{frame_bytes}
use Rattle.bits.specs.Word.{word_of}
use Rattle.frame_lines.specs.declared.FrameLine.TheVariants.{Frame, NotEightBytes, IllFormed}
use Rattle.frame_lines.specs.Meaning.{FrameMeaning, frame, ill_formed_spec, all_digits_spec, are_bytes, bytes_in, said_by, of_frame_fields, frame_line_says}
use Rattle.frame_lines.specs.Told.{told}
use Rattle.frame_lines.proofs.Digits.{bytes_small}

-- every byte that a line says is one
abbrev pub SmallBytes : FrameMeaning → Type 0
SmallBytes (frame i bytes) = (k : ℕ) → get_or bytes k 0 < 256
SmallBytes ill_formed_spec = Unit

small_by : (n : Option ℕ) (l : List ℕ) → SmallBytes (said_by n l)
unfolding are_bytes
small_by (Some i) l = go (leb (length l) 16) (eqb (length l % 2) 0) (all_digits_spec l) refl
  where
    go : (a b c : Bool) → all_digits_spec l ≡ c → SmallBytes (cond (a && (b && c)) (frame i (bytes_in l)) ill_formed_spec)
    go false b c h = tt
    go true false c h = tt
    go true true false h = tt
    go true true true h = bytes_small l h
small_by None l = tt

says_small : (l : List ℕ) → SmallBytes (frame_line_says l)
unfolding frame_line_says of_frame_fields
says_small l = by (fields l)
  where
    by : (fs : List (List ℕ)) → SmallBytes (of_frame_fields fs)
    by [] = tt
    by (i ∷ []) = tt
    by (i ∷ d ∷ []) = small_by (identifier i) d
    by (i ∷ d ∷ x ∷ fs) = tt

-- a frame of 8 bytes that a line says, by its word
pub record SaysFrame (l : List ℕ) (i w : ℕ) : Type 0 where
  pub bytes : List ℕ
  pub said : frame_line_says l ≡ frame i bytes
  pub eight : length bytes ≡ frame_bytes
  pub word : w ≡ word_of bytes
  pub small : (k : ℕ) → get_or bytes k 0 < 256

-- a frame of fewer bytes
pub record SaysFewer (l : List ℕ) (i : ℕ) : Type 0 where
  pub bytes : List ℕ
  pub said : frame_line_says l ≡ frame i bytes
  pub other : length bytes ≡ frame_bytes → ⊥

module _ (l : List ℕ) where
  pub says_frame : {i w : ℕ} → Frame i w ≡ told (frame_line_says l) → SaysFrame l i w
  says_frame {i} {w} e = by (frame_line_says l) refl (says_small l) e
    where
      of : (n : ℕ) (bytes : List ℕ) (b : Bool) → eqb (length bytes) frame_bytes ≡ b → frame_line_says l ≡ frame n bytes → ((k : ℕ) → get_or bytes k 0 < 256)
          → Frame i w ≡ cond b (Frame n (word_of bytes)) (NotEightBytes n) → SaysFrame l i w
      of n bytes true q s m e =
          let x : i ≡ n = cc in
          let y : w ≡ word_of bytes = cc in
          record { bytes = bytes; said = s ∙ ap (λ (k : ℕ). frame k bytes) (sym x); eight = eqb-true (length bytes) frame_bytes q; word = y; small = m }
      of n bytes false q s m e = absurd (let z : ◌≡◌ {A = ℕ} 0 1 = cc in omega arith)

      by : (s : FrameMeaning) → frame_line_says l ≡ s → SmallBytes s → Frame i w ≡ told s → SaysFrame l i w
      by (frame n bytes) s m e = of n bytes (eqb (length bytes) frame_bytes) refl s m e
      by ill_formed_spec s m e = absurd (let z : ◌≡◌ {A = ℕ} 0 1 = cc in omega arith)

  pub says_fewer : {i : ℕ} → NotEightBytes i ≡ told (frame_line_says l) → SaysFewer l i
  says_fewer {i} e = by (frame_line_says l) refl e
    where
      of : (n : ℕ) (bytes : List ℕ) (b : Bool) → eqb (length bytes) frame_bytes ≡ b → frame_line_says l ≡ frame n bytes
          → NotEightBytes i ≡ cond b (Frame n (word_of bytes)) (NotEightBytes n) → SaysFewer l i
      of n bytes true q s e = absurd (let z : ◌≡◌ {A = ℕ} 0 1 = cc in omega arith)
      of n bytes false q s e =
          let x : i ≡ n = cc in
          record { bytes = bytes; said = s ∙ ap (λ (k : ℕ). frame k bytes) (sym x); other = eqb-false (length bytes) frame_bytes q }

      by : (s : FrameMeaning) → frame_line_says l ≡ s → NotEightBytes i ≡ told s → SaysFewer l i
      by (frame n bytes) s e = of n bytes (eqb (length bytes) frame_bytes) refl s e
      by ill_formed_spec s e = absurd (let z : ◌≡◌ {A = ℕ} 0 1 = cc in omega arith)

  pub says_ill : IllFormed ≡ told (frame_line_says l) → frame_line_says l ≡ ill_formed_spec
  says_ill e = by (frame_line_says l) e
    where
      of : (n : ℕ) (bytes : List ℕ) (b : Bool) → IllFormed ≡ cond b (Frame n (word_of bytes)) (NotEightBytes n) → frame n bytes ≡ ill_formed_spec
      of n bytes true e = absurd (let z : ◌≡◌ {A = ℕ} 0 1 = cc in omega arith)
      of n bytes false e = absurd (let z : ◌≡◌ {A = ℕ} 0 1 = cc in omega arith)

      by : (s : FrameMeaning) → IllFormed ≡ told s → s ≡ ill_formed_spec
      by (frame n bytes) e = of n bytes (eqb (length bytes) frame_bytes) e
      by ill_formed_spec e = refl
