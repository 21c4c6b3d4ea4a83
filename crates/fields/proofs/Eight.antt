-- An identifier up to a byte: 8 digits, and the byte stands right after them. Assumes nothing.
use mathlib.Core.Path.{◌≡◌, refl, sym, ap, ◌∙◌}
use mathlib.Core.Bool.{Bool, true, false, cond}
use mathlib.Core.List.{List}
use Prim.Native.Nat.{ℕ, ◌≤◌, ◌<◌}
use native.Mathlib.Omega.{arith}
use lib.Dec.{eqb, ltb}
use lib.ListN.{length, take, get_or}
use lib.Seq.{length-take-le, get_or-take}
use borrow.Author.Tests.{ne_eqb, eqb-true, eqb-false, lt-ltb, ltb-true}
use Rattle.std.specs.Prelude.{Option, Some, None}
use Rattle.numerals.specs.Numeral.{identifier_digits, identifier, zero_byte}
use Rattle.numerals.proofs.Identifiers.{identifier_written}
use Rattle.parts.specs.Parts.{index_of}
use Rattle.parts.specs.Joined.{Lacks}
use Rattle.parts.proofs.Seek.{index_at, index_le}
use Rattle.parts.proofs.Joins.{free_at}
use Rattle.fields.specs.Front.{of_digits, number_before}
use Rattle.fields.proofs.Tabless.{identifier_free}

-- not 8 bytes
other_size : (l : List ℕ) → (length l ≡ 8 → ⊥) → identifier l ≡ None
unfolding identifier
other_size l h = rw (ne_eqb _ _ h)

module _ (text : List ℕ) (stop : ℕ) where
  -- the byte stands elsewhere, or nowhere
  elsewhere : (index_of stop text < length text → index_of stop text ≡ 8 → ⊥) → None ≡ number_before identifier stop text
  unfolding number_before
  elsewhere n = by (ltb (index_of stop text) (length text)) refl
    where
      by : (q : Bool) → ltb (index_of stop text) (length text) ≡ q
          → None ≡ cond q (of_digits (identifier (take (index_of stop text) text)) (index_of stop text)) None
      by true q =
          let h : index_of stop text < length text = ltb-true _ _ q in
          let s : length (take (index_of stop text) text) ≡ index_of stop text = length-take-le _ _ (omega arith) in
          rw (other_size (take (index_of stop text) text) (λ e. n h (sym s ∙ e)))
      by false q = refl

  pub not_there : (identifier_digits < length text → get_or text 8 0 ≡ stop → ⊥) → None ≡ number_before identifier stop text
  not_there n = elsewhere (λ i e. n (omega arith) (rw e at (index_at stop text i)))

  module _ (low : stop < zero_byte) (long : identifier_digits < length text) (here : get_or text 8 0 ≡ stop) {part : List ℕ} (e : part ≡ take 8 text) where
    -- a number has no such byte in it
    inside : index_of stop text < 8 → index_of stop text < length text → (n : Option ℕ) → identifier part ≡ n → n ≡ None
    inside h i (Some n) q =
        let f : Lacks stop part = rw (identifier_written part n q).text (identifier_free stop n low) in
        let s : length part ≡ 8 = ap length e ∙ length-take-le 8 text (omega arith) in
        let z : index_of stop text < length part = omega arith in
        let g : get_or part (index_of stop text) 0 ≡ stop = rw e (get_or-take 8 text (index_of stop text) 0 h ∙ index_at stop text i) in
        absurd (free_at f (index_of stop text) z g)
    inside h i None q = refl

    pub eight : (n : Option ℕ) → n ≡ identifier part → of_digits n 8 ≡ number_before identifier stop text
    unfolding number_before
    eight n q =
        let i : index_of stop text ≤ 8 = index_le stop text 8 (omega arith) here in
        let h : index_of stop text < length text = omega arith in
        by (eqb (index_of stop text) 8) refl i h
      where
        by : (b : Bool) → eqb (index_of stop text) 8 ≡ b → index_of stop text ≤ 8 → index_of stop text < length text
            → of_digits n 8 ≡ cond (ltb (index_of stop text) (length text)) (of_digits (identifier (take (index_of stop text) text)) (index_of stop text)) None
        by true b i h = rw (lt-ltb _ _ h, eqb-true (index_of stop text) 8 b, ← e, ← q)
        by false b i h =
            let d : index_of stop text ≡ 8 → ⊥ = eqb-false _ _ b in
            let l : index_of stop text < 8 = omega arith in
            let s : length (take (index_of stop text) text) ≡ index_of stop text = length-take-le _ _ (omega arith) in
            ap (λ (x : Option ℕ). of_digits x 8) (q ∙ inside l h (identifier part) refl)
            ∙ rw (lt-ltb _ _ h, other_size (take (index_of stop text) text) (λ z. d (sym s ∙ z)))
