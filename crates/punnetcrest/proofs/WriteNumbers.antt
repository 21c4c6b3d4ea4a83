-- From the library's own answer to what the call returns and leaves; and that nothing else is allowed. Assumes nothing.
use Prim.Native.Nat.{ℕ}
use mathlib.Core.Path.{◌≡◌, refl, sym, ap, ◌∙◌, subst}
use mathlib.Core.List.{List}
use Rattle.std.specs.Prelude.{Result, Err}
use Rattle.book_writer.specs.declared.WriteRefusal.{WriteRefusal}
use Rattle.book_writer.specs.declared.WriteRefusal.TheVariants.{NotABook, NoRoom}
use Rattle.book_writer.specs.Answers.{WriteAnswer, write_refusal_number, wrote_number, byte_count}
use Rattle.book_writer.proofs.Decided.{WriteLeft, answered, answer_once}
use Rattle.punnetcrest.specs.Counted.{count_left}
use Rattle.punnetcrest.specs.BookText.{WriteCall}

module _ (words room : List ℕ) (count : ℕ) where
  pub as_wrote : {after : List ℕ} {given told : Result ℕ WriteRefusal} → WriteAnswer words room (wrote_number given) (byte_count given) after → given ≡ told
      → WriteCall words room count (wrote_number told) after (count_left (wrote_number told) (byte_count told) count)
  as_wrote {after} {told = told} a t = record { written = byte_count told; answer = subst (λ (s : Result ℕ WriteRefusal). WriteAnswer words room (wrote_number s) (byte_count s) after) t a; count_after = refl }

  -- of a call that is refused the number is the refusal's, and *count stays
  kept : (why : WriteRefusal) → count_left (write_refusal_number why) 0 count ≡ count
  kept NotABook = refl
  kept NoRoom = refl

  pub as_refused : {after : List ℕ} {given : Result ℕ WriteRefusal} {why : WriteRefusal} {number : ℕ} → WriteAnswer words room (wrote_number given) (byte_count given) after → given ≡ Err why
      → number ≡ write_refusal_number why → WriteCall words room count number after count
  as_refused {after} {given} {why} a t e =
      let w : WriteCall words room count (write_refusal_number why) after (count_left (write_refusal_number why) 0 count) = as_wrote {told = Err why} a t in
      subst (λ (n : ℕ). WriteCall words room count n after count) (sym e) (subst (WriteCall words room count (write_refusal_number why) after) (kept why) w)

  -- the one outcome: the number, the room and the count
  pub write_outcome : ℕ × (List ℕ × ℕ)
  write_outcome = let there = (answered words room).0 in (wrote_number there.0, (there.1, count_left (wrote_number there.0) (byte_count there.0) count))

  pub write_there : WriteCall words room count write_outcome.0 write_outcome.1.0 write_outcome.1.1
  unfolding write_outcome
  write_there = as_wrote (answered words room).1 (λ i. (answered words room).0.0)

  pub write_alone : (x : ℕ × (List ℕ × ℕ)) → WriteCall words room count x.0 x.1.0 x.1.1 → x ≡ write_outcome
  unfolding write_outcome
  write_alone x h =
      let there = answered words room in
      let e = answer_once words room h.answer there.1 in
      let counted = h.count_after ∙ ap (λ (l : WriteLeft). count_left l.0 l.1.0 count) e in
      λ i. ((e i).0, ((e i).1.1, counted i))
