-- A message's part of the columns: from the end of the message before it to its own end stand its signals. Assumes nothing.
use mathlib.Core.Path.{◌≡◌, refl, sym, ap, ◌∙◌}
use Prim.Native.Nat.{ℕ, zero, suc, ◌+◌, ◌-◌, ◌≤◌, ◌<◌}
use native.Mathlib.Nat.{not-suc-le-zero, le_of_suc-le-suc}
use native.Mathlib.Omega.{arith}
use mathlib.Core.List.{List, [], ◌∷◌, ◌++◌, map}
use lib.ListN.{length, get_or, take, drop, replicate, length-append, length-take, length-drop, length-map, get_or-append}
use lib.Seq.{take_at, drop-append-add, take-append-le, drop-append-le}
use Rattle.books.specs.Book.{Placement, Message, all_placements, last_placements, fresh}
use Rattle.books.specs.Lines.{message_limit, signal_limit}
use Rattle.books.specs.Words.{column, ends_after, end_column}
use Rattle.books.proofs.Ends.{all_one}
use Rattle.books.proofs.Columns.{length_ends}

-- where the signals of message i begin and end, n signals before all; and which they are
abbrev pub begin_of : ℕ → List Message → ℕ → ℕ
begin_of n ms i = get_or (n ∷ ends_after n ms) i 0

abbrev pub end_of : ℕ → List Message → ℕ → ℕ
end_of n ms i = get_or (ends_after n ms) i 0

abbrev pub placements_at : List Message → ℕ → List Placement
placements_at ms i = (get_or ms i (fresh 0)).placements

begins_after : (n : ℕ) (ms : List Message) (i : ℕ) → i < length ms → n ≤ begin_of n ms i
unfolding ends_after
begins_after n [] i h = absurd (not-suc-le-zero h)
begins_after n (m ∷ ms) zero h = omega arith
begins_after n (m ∷ ms) (suc i) h = let k = begins_after (n + length m.placements) ms i (le_of_suc-le-suc h) in omega arith

part_is : (n : ℕ) (ms : List Message) (i : ℕ) → i < length ms → take (end_of n ms i - begin_of n ms i) (drop (begin_of n ms i - n) (all_placements ms)) ≡ placements_at ms i
unfolding ends_after all_placements
part_is n [] i h = absurd (not-suc-le-zero h)
part_is n (m ∷ ms) zero h =
    let a : n + length m.placements - n ≡ length m.placements = omega arith in
    let b : n - n ≡ 0 = omega arith in
    rw (a, b) (take_at m.placements (all_placements ms) (length m.placements) refl)
part_is n (m ∷ ms) (suc i) h =
    let n' = n + length m.placements in
    let k = begins_after n' ms i (le_of_suc-le-suc h) in
    let e : begin_of n' ms i - n ≡ length m.placements + (begin_of n' ms i - n') = omega arith in
    ap (λ (j : ℕ). take (end_of n' ms i - begin_of n' ms i) (drop j (m.placements ++ all_placements ms))) e
    ∙ ap (take (end_of n' ms i - begin_of n' ms i)) (drop-append-add m.placements (all_placements ms) (begin_of n' ms i - n'))
    ∙ part_is n' ms i (le_of_suc-le-suc h)

-- ends rise, and none is past all signals
ends_rise : (n : ℕ) (ms : List Message) (i : ℕ) → i < length ms → begin_of n ms i ≤ end_of n ms i
unfolding ends_after
ends_rise n [] i h = absurd (not-suc-le-zero h)
ends_rise n (m ∷ ms) zero h = omega arith
ends_rise n (m ∷ ms) (suc i) h = ends_rise (n + length m.placements) ms i (le_of_suc-le-suc h)

ends_within : (n : ℕ) (ms : List Message) (i : ℕ) → i < length ms → end_of n ms i ≤ n + length (all_placements ms)
unfolding ends_after all_placements
ends_within n [] i h = absurd (not-suc-le-zero h)
ends_within n (m ∷ ms) zero h = omega (arith, length-append m.placements (all_placements ms))
ends_within n (m ∷ ms) (suc i) h =
    let k = ends_within (n + length m.placements) ms i (le_of_suc-le-suc h) in
    omega (arith, length-append m.placements (all_placements ms))

-- ---- in the columns

map_take : {A : Type 0} (f : A → ℕ) (k : ℕ) (l : List A) → take k (map f l) ≡ map f (take k l)
map_take f zero l = refl
map_take f (suc k) [] = refl
map_take f (suc k) (x ∷ l) = ap (λ (r : List ℕ). f x ∷ r) (map_take f k l)

map_drop : {A : Type 0} (f : A → ℕ) (k : ℕ) (l : List A) → drop k (map f l) ≡ map f (drop k l)
map_drop f zero l = refl
map_drop f (suc k) [] = refl
map_drop f (suc k) (x ∷ l) = map_drop f k l

-- a part of a column that ends before the zeros
column_part : {A : Type 0} (f : A → ℕ) (n b e : ℕ) (l : List A) → b ≤ e → e ≤ length l → take (e - b) (drop b (column n (map f l))) ≡ map f (take (e - b) (drop b l))
unfolding column
column_part f n b e l h k =
    let zs = replicate {A = ℕ} (n - length (map f l)) 0 in
    let many = length-map l f in
    ap (take (e - b)) (drop-append-le b (map f l) zs (omega arith))
    ∙ take-append-le (e - b) (drop b (map f l)) zs (omega (arith, length-drop b (map f l)))
    ∙ ap (take (e - b)) (map_drop f b l)
    ∙ map_take f (e - b) (drop b l)

column_at : (n i : ℕ) (l : List ℕ) → i < length l → get_or (column n l) i 0 ≡ get_or l i 0
unfolding column
column_at n i l h = get_or-append l (replicate (n - length l) 0) 0 i h

column_before : (n i : ℕ) (l : List ℕ) → i ≤ length l → get_or (0 ∷ column n l) i 0 ≡ get_or (0 ∷ l) i 0
column_before n zero l h = refl
column_before n (suc i) l h = column_at n i l h

-- message i of all
module _ (ms : List Message) (i : ℕ) (there : i < length ms) where
  pub order : begin_of 0 ms i ≤ end_of 0 ms i
  order = ends_rise 0 ms i there

  pub inside : end_of 0 ms i ≤ length (all_placements ms)
  inside = let h = ends_within 0 ms i there in omega arith

  part_at : take (end_of 0 ms i - begin_of 0 ms i) (drop (begin_of 0 ms i) (all_placements ms)) ≡ placements_at ms i
  part_at =
      let e : begin_of 0 ms i - 0 ≡ begin_of 0 ms i = omega arith in
      ap (λ (k : ℕ). take (end_of 0 ms i - begin_of 0 ms i) (drop k (all_placements ms))) (sym e) ∙ part_is 0 ms i there

  pub part_long : length (placements_at ms i) ≡ end_of 0 ms i - begin_of 0 ms i
  part_long =
      omega (arith, ap length part_at, length-take (end_of 0 ms i - begin_of 0 ms i) (drop (begin_of 0 ms i) (all_placements ms)), length-drop (begin_of 0 ms i) (all_placements ms), order, inside)

  -- its part of a column of the signals, which has f of each
  pub part_stands : (f : Placement → ℕ) → take (end_of 0 ms i - begin_of 0 ms i) (drop (begin_of 0 ms i) (column signal_limit (map f (all_placements ms)))) ≡ map f (placements_at ms i)
  part_stands f = column_part f signal_limit (begin_of 0 ms i) (end_of 0 ms i) (all_placements ms) order inside ∙ ap (map f) part_at

  -- and the column of the ends says which part
  pub begin_stands : get_or (0 ∷ end_column ms) i 0 ≡ begin_of 0 ms i
  begin_stands = column_before message_limit i (ends_after 0 ms) (omega (arith, length_ends 0 ms))

  pub end_stands : get_or (end_column ms) i 0 ≡ end_of 0 ms i
  end_stands = column_at message_limit i (ends_after 0 ms) (omega (arith, length_ends 0 ms))

-- the last message ends where all signals end
pub last_end : (n : ℕ) (m : Message) (ms : List Message) → end_of n (m ∷ ms) (length ms) ≡ n + length (all_placements (m ∷ ms))
unfolding ends_after all_placements
last_end n m [] = ap (λ (l : List Placement). n + length l) (sym (all_one m))
last_end n m (k ∷ ms) = let h = last_end (n + length m.placements) k ms in omega (arith, h, length-append m.placements (all_placements (k ∷ ms)))

pub last_at : (m : Message) (ms : List Message) → placements_at (m ∷ ms) (length ms) ≡ last_placements (m ∷ ms)
unfolding last_placements
last_at m [] = refl
last_at m (k ∷ ms) = last_at k ms
