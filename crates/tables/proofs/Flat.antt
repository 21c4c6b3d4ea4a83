-- The words of a book as three counts and six columns, and one word of a column stored. Assumes nothing.
use mathlib.Core.Path.{◌≡◌, refl, sym, ap, ◌∙◌}
use mathlib.Core.List.{List, [], ◌∷◌, ◌++◌, append_assoc}
use Prim.Native.Nat.{ℕ, suc, ◌+◌, ◌-◌, ◌<◌}
use native.Mathlib.Nat.{zero-add, suc-add}
use native.Mathlib.Omega.{arith}
use lib.ListN.{length, set, replicate, length-append}
use lib.Seq.{set-append_left, set-append_seam, append_snoc}
use Rattle.record.specs.Columns.{message_count_at, signal_count_at, route_count_at, ids_at, ends_at, numbers_at, starts_at, froms_at, tos_at}
use Rattle.books.specs.Book.{Book, all_placements}
use Rattle.books.specs.Lines.{message_limit, signal_limit, route_limit}
use Rattle.books.specs.Words.{column, id_column, end_column, number_column, start_column, message_columns, from_column, to_column, route_columns, words_of}

-- ---- a column with one entry more

module _ (k : ℕ) (l : List ℕ) where
  pub column_more : (x : ℕ) → length l < k → set (column k l) (length l) x ≡ column k (l ++ (x ∷ []))
  unfolding column
  column_more x h =
      let e : k - length l ≡ suc (k - length (l ++ (x ∷ []))) = omega (arith, length-append l (x ∷ [])) in
      rw e (set-append_seam l 0 (replicate (k - length (l ++ (x ∷ []))) 0) x ∙ sym (append_snoc l x (replicate (k - length (l ++ (x ∷ []))) 0)))

  -- or with another last one
  pub column_last : (x y : ℕ) → set (column k (l ++ (x ∷ []))) (length l) y ≡ column k (l ++ (y ∷ []))
  unfolding column
  column_last x y =
      let e : length (l ++ (x ∷ [])) ≡ length (l ++ (y ∷ [])) = length-append l (x ∷ []) ∙ sym (length-append l (y ∷ [])) in
      rw (e, append_snoc l x, append_snoc l y) (set-append_seam l x (replicate (k - length (l ++ (y ∷ []))) 0) y)

-- ---- a word of one part of a list

set_past : (p l : List ℕ) (i v : ℕ) → set (p ++ l) (length p + i) v ≡ p ++ set l i v
set_past [] l i v = rw zero-add
set_past (x ∷ p) l i v = rw suc-add (ap (◌∷◌ x) (set_past p l i v))

set_past_at : (p l : List ℕ) (n i v : ℕ) → length p ≡ n → set (p ++ l) (n + i) v ≡ p ++ set l i v
set_past_at p l n i v e = rw (sym e) (set_past p l i v)

set_part : (p c r : List ℕ) (n i v : ℕ) → length p ≡ n → i < length c → set (p ++ (c ++ r)) (n + i) v ≡ p ++ (set c i v ++ r)
set_part p c r n i v e h = set_past_at p (c ++ r) n i v e ∙ ap (λ (l : List ℕ). p ++ l) (set-append_left c r i v h)

-- three counts and six columns, one after the other
pub flat : ℕ → ℕ → ℕ → List ℕ → List ℕ → List ℕ → List ℕ → List ℕ → List ℕ → List ℕ
flat m s r a b c d e f = m ∷ s ∷ r ∷ (a ++ (b ++ (c ++ (d ++ (e ++ f)))))

pub words_flat : (b : Book) → words_of b ≡ flat (length b.messages) (length (all_placements b.messages)) (length b.routes)
    (id_column b.messages) (end_column b.messages) (number_column b.messages) (start_column b.messages) (from_column b.routes) (to_column b.routes)
unfolding words_of message_columns route_columns flat
words_flat b = simp append_assoc

module _ (m s r : ℕ) (a b c d e f : List ℕ) where
  pub set_messages : (v : ℕ) → set (flat m s r a b c d e f) message_count_at v ≡ flat v s r a b c d e f
  unfolding flat
  set_messages v = refl

  pub set_signals : (v : ℕ) → set (flat m s r a b c d e f) signal_count_at v ≡ flat m v r a b c d e f
  unfolding flat
  set_signals v = refl

  pub set_routes : (v : ℕ) → set (flat m s r a b c d e f) route_count_at v ≡ flat m s v a b c d e f
  unfolding flat
  set_routes v = refl

  module _ (i v : ℕ) where
    pub set_ids : i < length a → set (flat m s r a b c d e f) (ids_at + i) v ≡ flat m s r (set a i v) b c d e f
    unfolding flat
    set_ids h = set_part (m ∷ s ∷ r ∷ []) a (b ++ (c ++ (d ++ (e ++ f)))) ids_at i v refl h

    module _ (la : length a ≡ message_limit) where
      pub set_ends : i < length b → set (flat m s r a b c d e f) (ends_at + i) v ≡ flat m s r a (set b i v) c d e f
      unfolding flat
      set_ends h = set_part (m ∷ s ∷ r ∷ a) b (c ++ (d ++ (e ++ f))) ends_at i v (ap (λ (n : ℕ). suc (suc (suc n))) la) h

      module _ (lb : length b ≡ message_limit) where
        pub set_numbers : i < length c → set (flat m s r a b c d e f) (numbers_at + i) v ≡ flat m s r a b (set c i v) d e f
        unfolding flat
        set_numbers h =
            simp append_assoc at
            (set_part (m ∷ s ∷ r ∷ (a ++ b)) c (d ++ (e ++ f)) numbers_at i v
            (ap (λ (n : ℕ). suc (suc (suc n))) (length-append a b ∙ (cc))) h)

        module _ (lc : length c ≡ signal_limit) where
          pub set_starts : i < length d → set (flat m s r a b c d e f) (starts_at + i) v ≡ flat m s r a b c (set d i v) e f
          unfolding flat
          set_starts h =
              simp append_assoc at
              (set_part (m ∷ s ∷ r ∷ (a ++ (b ++ c))) d (e ++ f) starts_at i v (omega (arith, length-append a (b ++ c), length-append b c)) h)

          module _ (ld : length d ≡ signal_limit) where
            pub set_froms : i < length e → set (flat m s r a b c d e f) (froms_at + i) v ≡ flat m s r a b c d (set e i v) f
            unfolding flat
            set_froms h =
                simp append_assoc at
                (set_part (m ∷ s ∷ r ∷ (a ++ (b ++ (c ++ d)))) e f froms_at i v
                (omega (arith, length-append a (b ++ (c ++ d)), length-append b (c ++ d), length-append c d)) h)

            pub set_tos : length e ≡ route_limit → set (flat m s r a b c d e f) (tos_at + i) v ≡ flat m s r a b c d e (set f i v)
            unfolding flat
            set_tos le =
                simp append_assoc at
                (set_past_at (m ∷ s ∷ r ∷ (a ++ (b ++ (c ++ (d ++ e))))) f tos_at i v
                (omega (arith, length-append a (b ++ (c ++ (d ++ e))), length-append b (c ++ (d ++ e)), length-append c (d ++ e), length-append d e)))
