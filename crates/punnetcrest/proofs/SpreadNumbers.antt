-- From the library's own answer to what the call returns and leaves; and that nothing else is allowed. Assumes nothing.
use Prim.Native.Nat.{ℕ}
use mathlib.Core.Path.{◌≡◌, refl, sym, ap, ◌∙◌, subst}
use mathlib.Core.List.{List}
use Rattle.std.specs.Prelude.{Err}
use Rattle.routes.specs.declared.SpreadRefusal.{SpreadRefusal}
use Rattle.routes.specs.declared.SpreadRefusal.TheVariants.{NotABook, NoSuchPlace, NoRoom}
use Rattle.routes.specs.Answers.{SpreadAnswer, spread_refusal_number, sent_number, place_count}
use Rattle.routes.proofs.Decided.{Sent, SpreadLeft, answered, answer_once}
use Rattle.punnetcrest.specs.Counted.{count_left}
use Rattle.punnetcrest.specs.Spreading.{SpreadCall}

module _ (words : List ℕ) (bus identifier : ℕ) (room : List ℕ) (count : ℕ) where
  pub as_spread : {after : List ℕ} {given told : Sent} → SpreadAnswer words bus identifier room (sent_number given) (place_count given) after → given ≡ told
      → SpreadCall words bus identifier room count (sent_number told) after (count_left (sent_number told) (place_count told) count)
  as_spread {after} {told = told} a t = record { written = place_count told; answer = subst (λ (s : Sent). SpreadAnswer words bus identifier room (sent_number s) (place_count s) after) t a; count_after = refl }

  -- a refusal's number is returned, and the count stays
  pub refused : {after : List ℕ} {given : Sent} (refusal : SpreadRefusal) {r : ℕ} → SpreadAnswer words bus identifier room (sent_number given) (place_count given) after
      → given ≡ Err refusal → r ≡ spread_refusal_number refusal → SpreadCall words bus identifier room count r after count
  refused {after} {given} refusal {r} a t e = subst (λ (k : ℕ). SpreadCall words bus identifier room count k after count) (sym e) (go refusal t)
    where
      go : (x : SpreadRefusal) → given ≡ Err x → SpreadCall words bus identifier room count (spread_refusal_number x) after count
      go NotABook f = as_spread a f
      go NoSuchPlace f = as_spread a f
      go NoRoom f = as_spread a f

  -- the one outcome: the number, the room and the count
  pub spread_outcome : ℕ × (List ℕ × ℕ)
  spread_outcome = let there = (answered words bus identifier room).0 in (sent_number there.0, (there.1, count_left (sent_number there.0) (place_count there.0) count))

  pub spread_there : SpreadCall words bus identifier room count spread_outcome.0 spread_outcome.1.0 spread_outcome.1.1
  unfolding spread_outcome
  spread_there = as_spread (answered words bus identifier room).1 (λ i. (answered words bus identifier room).0.0)

  pub spread_alone : (x : ℕ × (List ℕ × ℕ)) → SpreadCall words bus identifier room count x.0 x.1.0 x.1.1 → x ≡ spread_outcome
  unfolding spread_outcome
  spread_alone x h =
      let there = answered words bus identifier room in
      let e = answer_once words bus identifier room h.answer there.1 in
      let counted = h.count_after ∙ ap (λ (l : SpreadLeft). count_left l.0 l.1.0 count) e in
      λ i. ((e i).0, ((e i).1.1, counted i))
