-- What a frame line says, by the identifier before its first tab and the digits after it. Assumes nothing.
use mathlib.Core.Path.{◌≡◌, refl, sym, ap, ◌∙◌}
use mathlib.Core.Bool.{Bool, true, false, cond, ◌&&◌}
use mathlib.Core.List.{List, [], ◌∷◌}
use Prim.Native.Nat.{ℕ, ◌+◌, ◌-◌, ◌%◌, ◌<◌}
use native.Mathlib.Omega.{arith}
use lib.Dec.{eqb, ltb, leb}
use lib.ListN.{length, take, drop}
use borrow.Author.Tests.{ltb-true, ltb-false}
use Rattle.std.specs.Prelude.{Option, Some, None}
use Rattle.numerals.specs.Numeral.{identifier}
use Rattle.parts.specs.Parts.{fields, index_of}
use Rattle.parts.specs.Joined.{join}
use Rattle.parts.proofs.Joins.{join_split, split_free}
use Rattle.parts.proofs.Splits.{some, cut_more, cut_last}
use Rattle.std.proofs.lemmas.List.{take_rest}
use Rattle.fields.specs.Front.{of_digits, number_before}
use Rattle.fields.proofs.Written.{same_found}
use Rattle.frame_lines.specs.declared.FrameLine.{FrameLine}
use Rattle.frame_lines.specs.declared.FrameLine.TheVariants.{IllFormed}
use Rattle.frame_lines.specs.Meaning.{ill_formed_spec, all_digits_spec, are_bytes, said_by, of_frame_fields, frame_line_says}
use Rattle.frame_lines.specs.Told.{told}
use Rattle.frame_lines.proofs.Digits.{digits_free}

-- with a tab among them they are no bytes
no_bytes : (l p q : List ℕ) (ps : List (List ℕ)) → fields l ≡ p ∷ q ∷ ps → are_bytes l ≡ false
unfolding are_bytes
no_bytes l p q ps e = go (leb (length l) 16) (eqb (length l % 2) 0) (all_digits_spec l) refl
  where
    go : (a b c : Bool) → all_digits_spec l ≡ c → a && (b && c) ≡ false
    go false b c h = refl
    go true false c h = refl
    go true true false h = refl
    go true true true h =
        let s : l ∷ [] ≡ p ∷ q ∷ ps = sym (split_free 9 l (digits_free l h)) ∙ e in
        absurd (let z : ◌≡◌ {A = ℕ} 0 1 = cc in omega arith)

none_said : (n : Option ℕ) (l : List ℕ) → are_bytes l ≡ false → said_by n l ≡ ill_formed_spec
none_said (Some i) l h = rw h
none_said None l h = refl

-- after the first tab
after_tab : (i l : List ℕ) → of_frame_fields (i ∷ fields l) ≡ said_by (identifier i) l
unfolding of_frame_fields join
after_tab i l = by (some 9 l).first (some 9 l).others (some 9 l).same
  where
    by : (p : List ℕ) (ps : List (List ℕ)) → fields l ≡ p ∷ ps → of_frame_fields (i ∷ fields l) ≡ said_by (identifier i) l
    by p [] e = let w : p ≡ l = ap (join 9) (sym e) ∙ join_split 9 l in rw (e, w)
    by p (q ∷ ps) e = rw e (sym (none_said (identifier i) l (no_bytes l p q ps e)))

module _ (l : List ℕ) where
  -- by where its first tab stands
  says : (k : ℕ) → k ≡ index_of 9 l → k < length l → frame_line_says l ≡ said_by (identifier (take k l)) (drop (k + 1) l)
  unfolding frame_line_says
  says k e h = ap of_frame_fields (cut_more 9 k l e h) ∙ after_tab (take k l) (drop (k + 1) l)

  -- ill formed, unless an identifier stands before the first tab
  pub no_identifier : None ≡ number_before identifier 9 l → IllFormed ≡ told (frame_line_says l)
  unfolding frame_line_says of_frame_fields number_before
  no_identifier n = go (ltb (index_of 9 l) (length l)) refl n
    where
      by : (i : Option ℕ) → None ≡ of_digits i (index_of 9 l) → IllFormed ≡ told (said_by i (drop (index_of 9 l + 1) l))
      by (Some i) e = absurd (let z : ◌≡◌ {A = ℕ} 0 1 = cc in omega arith)
      by None e = refl

      go : (q : Bool) → ltb (index_of 9 l) (length l) ≡ q
          → None ≡ cond q (of_digits (identifier (take (index_of 9 l) l)) (index_of 9 l)) None → IllFormed ≡ told (frame_line_says l)
      go true q e = rw (says (index_of 9 l) refl (ltb-true _ _ q)) (by (identifier (take (index_of 9 l) l)) e)
      go false q e = rw (cut_last 9 (index_of 9 l) l refl (ltb-false _ _ q))

  -- and by the digits after them
  pub one_tab : {i k : ℕ} {r : FrameLine} → Some (i, k) ≡ number_before identifier 9 l
      → r ≡ told (said_by (Some i) (take (length l - (k + 1)) (drop (k + 1) l))) → r ≡ told (frame_line_says l)
  unfolding number_before
  one_tab {i} {k} {r} e h = go (ltb (index_of 9 l) (length l)) refl e
    where
      by : (n : Option ℕ) → identifier (take (index_of 9 l) l) ≡ n → index_of 9 l < length l → Some (i, k) ≡ of_digits n (index_of 9 l)
          → r ≡ told (frame_line_says l)
      by (Some n) q s e =
          let x = same_found e in
          rw (says (index_of 9 l) refl s, q, ← x.0, ← x.1) (rw take_rest at h)
      by None q s e = absurd (let z : ◌≡◌ {A = ℕ} 0 1 = cc in omega arith)

      go : (q : Bool) → ltb (index_of 9 l) (length l) ≡ q
          → Some (i, k) ≡ cond q (of_digits (identifier (take (index_of 9 l) l)) (index_of 9 l)) None → r ≡ told (frame_line_says l)
      go true q e = by (identifier (take (index_of 9 l) l)) refl (ltb-true _ _ q) e
      go false q e = absurd (let z : ◌≡◌ {A = ℕ} 0 1 = cc in omega arith)
