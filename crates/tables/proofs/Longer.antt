-- The columns of a book with one line more. Assumes nothing.
use mathlib.Core.Path.{◌≡◌, sym, ap, ◌∙◌}
use mathlib.Core.List.{List, [], ◌∷◌, ◌++◌, append_assoc, append-nil}
use Prim.Native.Nat.{ℕ, ◌+◌}
use native.Mathlib.Nat.{zero-add}
use native.Mathlib.Omega.{arith}
use lib.ListN.{length, length-append}
use Rattle.books.specs.Book.{Placement, Message, identifiers, all_placements, fresh, with_placement}
use Rattle.books.specs.Words.{ends_after}
use Rattle.books.proofs.Ends.{map-append, all_append, all_one}

-- the placements of messages that end with m
all_last : (ms : List Message) (m : Message) → all_placements (ms ++ (m ∷ [])) ≡ all_placements ms ++ m.placements
all_last ms m = all_append ms (m ∷ []) ∙ ap (λ (l : List Placement). all_placements ms ++ l) (all_one m)

pub ends_last : (n : ℕ) (ms : List Message) (m : Message) → ends_after n (ms ++ (m ∷ [])) ≡ ends_after n ms ++ ((n + length (all_placements (ms ++ (m ∷ [])))) ∷ [])
unfolding ends_after all_placements
ends_last n [] m = rw append-nil
ends_last n (x ∷ ms) m =
    ap (◌∷◌ (n + length x.placements))
    (ends_last (n + length x.placements) ms m ∙
    ap (λ (k : ℕ). ends_after (n + length x.placements) ms ++ (k ∷ [])) (omega (arith, length-append x.placements (all_placements (ms ++ (m ∷ []))))))

-- ---- a message more

module _ (ms : List Message) (i : ℕ) where
  pub placements_stay : all_placements (ms ++ (fresh i ∷ [])) ≡ all_placements ms
  placements_stay = all_last ms (fresh i) ∙ append-nil (all_placements ms)

  pub ends_more : ends_after 0 (ms ++ (fresh i ∷ [])) ≡ ends_after 0 ms ++ (length (all_placements ms) ∷ [])
  ends_more = ends_last 0 ms (fresh i) ∙ rw (placements_stay, zero-add)

-- ---- a signal more, in the last message

module _ (before : List Message) (m : Message) (p : Placement) where
  pub identifiers_stay : identifiers (before ++ (with_placement m p ∷ [])) ≡ identifiers (before ++ (m ∷ []))
  identifiers_stay =
      map-append (λ (n : Message). n.identifier) before (with_placement m p ∷ []) ∙ sym (map-append (λ (n : Message). n.identifier) before (m ∷ []))

  pub placements_more : all_placements (before ++ (with_placement m p ∷ [])) ≡ all_placements (before ++ (m ∷ [])) ++ (p ∷ [])
  placements_more =
      all_last before (with_placement m p) ∙ sym (append_assoc (all_placements before) m.placements (p ∷ [])) ∙
      ap (λ (l : List Placement). l ++ (p ∷ [])) (sym (all_last before m))
