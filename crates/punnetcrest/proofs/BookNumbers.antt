-- From the reader's own answer to what the call returns and leaves; and that nothing else is allowed. Assumes nothing.
use Prim.Native.Nat.{ℕ}
use mathlib.Core.Path.{◌≡◌, refl, sym, ap, ◌∙◌}
use mathlib.Core.List.{List}
use Rattle.std.specs.Prelude.{Result}
use Rattle.answers.specs.declared.Counts.{Counts}
use Rattle.answers.specs.declared.Refused.{Refused}
use Rattle.answers.specs.Numbers.{Said, said}
use Rattle.book.specs.Answered.{Answered}
use Rattle.book.proofs.Once.{there, answered_once}
use Rattle.punnetcrest.specs.Booking.{number_in, line_in, BookRead}

pub as_read : {text words : List ℕ} {given told : Result Counts Refused} → Answered text (said given) words → given ≡ told
    → BookRead text (number_in (said told)) words (line_in (said told))
as_read {given = given} a t = record { said = said given; answer = a; number = ap (λ (x : Result Counts Refused). number_in (said x)) (sym t); line = ap (λ (x : Result Counts Refused). line_in (said x)) (sym t) }

module _ (text : List ℕ) where
  -- the one outcome: the number, the book's words and the line
  pub read_outcome : ℕ × (List ℕ × ℕ)
  read_outcome = (number_in (said (there text).answer), ((there text).words, line_in (said (there text).answer)))

  pub read_there : BookRead text read_outcome.0 read_outcome.1.0 read_outcome.1.1
  unfolding read_outcome
  read_there = record { said = said (there text).answer; answer = (there text).answered; number = refl; line = refl }

  pub read_alone : (x : ℕ × (List ℕ × ℕ)) → BookRead text x.0 x.1.0 x.1.1 → x ≡ read_outcome
  unfolding read_outcome
  read_alone x h =
      let e : ◌≡◌ {A = Said × List ℕ} (h.said, x.1.0) (said (there text).answer, (there text).words) = answered_once h.answer (there text).answered in
      let number = h.number ∙ ap (λ (y : Said × List ℕ). number_in y.0) e in
      let words = ap (λ (y : Said × List ℕ). y.1) e in
      let line = h.line ∙ ap (λ (y : Said × List ℕ). line_in y.0) e in
      λ i. (number i, (words i, line i))
