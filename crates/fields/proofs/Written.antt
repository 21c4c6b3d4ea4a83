-- A number that is found before a byte is written there, and one that is written there is found. Assumes nothing.
use mathlib.Core.Path.{◌≡◌, refl, sym, ap, ◌∙◌}
use mathlib.Core.Bool.{Bool, true, false, cond}
use mathlib.Core.List.{List, [], ◌∷◌, ◌++◌}
use Prim.Native.Nat.{ℕ, suc, ◌+◌, ◌<◌}
use native.Mathlib.Numerals.{add-one}
use native.Mathlib.Omega.{arith}
use lib.Dec.{ltb}
use lib.ListN.{length, take, drop, length-append}
use lib.Seq.{length-take-le, split_at, take-append_seam}
use borrow.Author.Tests.{lt-ltb, ltb-true}
use Rattle.std.specs.Prelude.{Option, Some, None}
use Rattle.parts.specs.Parts.{index_of}
use Rattle.parts.specs.Joined.{Lacks}
use Rattle.parts.proofs.Seek.{index_at}
use Rattle.parts.proofs.Joins.{index_after}
use Rattle.fields.specs.Front.{of_digits, number_before}

-- what is found is one number, of one size
pub same_found : {n k m l : ℕ} → ◌≡◌ {A = Option (ℕ × ℕ)} (Some (n, k)) (Some (m, l)) → (n ≡ m) × (k ≡ l)
same_found {n} {k} {m} {l} e =
    let p : ◌≡◌ {A = ℕ × ℕ} (n, k) (m, l) = cc in
    (ap (λ (x : ℕ × ℕ). x.0) p, ap (λ (x : ℕ × ℕ). x.1) p)

-- n in k bytes, the byte `stop`, and what is after it
pub record Field (form : List ℕ → Option ℕ) (stop : ℕ) (text : List ℕ) (n k : ℕ) : Type 0 where
  pub inside : k < length text
  pub number : form (take k text) ≡ Some n
  pub size : length (take k text) ≡ k
  pub parts : text ≡ take k text ++ stop ∷ drop (k + 1) text

module _ (form : List ℕ → Option ℕ) (stop : ℕ) where
  pub found_field : (text : List ℕ) (n k : ℕ) → Some (n, k) ≡ number_before form stop text → Field form stop text n k
  unfolding number_before
  found_field text n k e = by (ltb (index_of stop text) (length text)) refl (form (take (index_of stop text) text)) refl e
    where
      never : {B : Type 0} → ◌≡◌ {A = Option (ℕ × ℕ)} (Some (n, k)) None → B
      never e = absurd (let z : ◌≡◌ {A = ℕ} 0 1 = cc in omega arith)

      at : index_of stop text < length text → form (take (index_of stop text) text) ≡ Some n → k ≡ index_of stop text → Field form stop text n k
      at h f q =
          record {
            inside = rw q h;
            number = rw q f;
            size = rw q (length-take-le (index_of stop text) text (omega arith));
            parts = rw (q, add-one) (split_at text (index_of stop text) 0 h ∙ rw (index_at stop text h));
          }

      by : (q : Bool) → ltb (index_of stop text) (length text) ≡ q → (f : Option ℕ) → form (take (index_of stop text) text) ≡ f
          → Some (n, k) ≡ cond q (of_digits f (index_of stop text)) None → Field form stop text n k
      by true q (Some v) f e =
          let x = same_found e in
          at (ltb-true _ _ q) (f ∙ ap Some (sym x.0)) x.1
      by true q None f e = never e
      by false q v f e = never e

  pub inside : (text : List ℕ) {n k : ℕ} → Some (n, k) ≡ number_before form stop text → k < length text
  inside text {n} {k} e = (found_field text n k e).inside

  module _ (p rest : List ℕ) (n : ℕ) (free : Lacks stop p) (reads : form p ≡ Some n) where
    pub field_found : Some (n, length p) ≡ number_before form stop (p ++ stop ∷ rest)
    unfolding number_before
    field_found =
        let h : length p < length (p ++ stop ∷ rest) = simp length-append (omega arith) in
        rw (index_after stop p rest free, lt-ltb _ _ h, take-append_seam p (stop ∷ rest), reads)

    -- so nothing is not what is found
    pub not_nothing : {A : Type 0} {text : List ℕ} → text ≡ p ++ stop ∷ rest → None ≡ number_before form stop text → A
    not_nothing e q =
        let x : ◌≡◌ {A = Option (ℕ × ℕ)} (Some (n, length p)) None = field_found ∙ ap (number_before form stop) (sym e) ∙ sym q in
        absurd (let z : ◌≡◌ {A = ℕ} 0 1 = cc in omega arith)

    drop_past : drop (length p + 1) (p ++ stop ∷ rest) ≡ rest
    drop_past = rw add-one (past p)
      where
        past : (l : List ℕ) → drop (suc (length l)) (l ++ stop ∷ rest) ≡ rest
        past [] = refl
        past (b ∷ l) = past l

    -- and what is after the field that is found is what was written after it
    pub after_field : {text : List ℕ} (m k : ℕ) → text ≡ p ++ stop ∷ rest → Some (m, k) ≡ number_before form stop text → drop (k + 1) text ≡ rest
    after_field m k e q =
        let x : ◌≡◌ {A = Option (ℕ × ℕ)} (Some (m, k)) (Some (n, length p)) = q ∙ ap (number_before form stop) e ∙ sym field_found in
        let y : k ≡ length p = (same_found x).1 in
        rw (y, e) drop_past
