-- Demand 3: a book is refused for a loop exactly when some chain of its R lines returns to the bus and identifier it left, for doubling
-- exactly when none does but two different chains join the same two places, otherwise taken. Over every text; and where its lines don't
-- pass, exactly there, the refusal is one of 1 to 9. Assumes nothing.
use mathlib.Core.Path.{◌≡◌, refl, sym, ◌∙◌, subst}
use Prim.Native.Nat.{ℕ}
use native.Mathlib.Omega.{arith}
use mathlib.Core.List.{List}
use lib.ListN.{get_or}
use Rattle.chains.specs.Chain.{OnClosed, LoopFree, BeginsDoubling, Single}
use Rattle.answers.specs.Numbers.{Said}
use Rattle.books.specs.Book.{Book, Route}
use Rattle.reading.specs.Reading.{Outcome, passed}
use Rattle.reading.specs.Reading as lines
use Rattle.reading.specs.Taken.{froms, tos}
use Rattle.book.specs.Answered.{Passes, Answered, too_long, bad_line, closed_chain, two_chains, taken_with}
use Rattle.demands.specs.Text.{text_routes}
use Rattle.demands.specs.Loops.{LinesPass, Loops, OnlyDoubles, Otherwise, RefusedWith, RefusedBefore, IsTaken}
use Rattle.demands.proofs.LineNumbers.{routes_of_text}
use Rattle.demands.proofs.Keys.{text_in_limits}
use Rattle.demands.proofs.ByLines.{returns, doubles, none_returns, none_doubles}
use Rattle.demands.proofs.LineRefusals.{line_low, apart, not_taken}

-- what a text is answered with, by its lines and its routes
data Outcomes (text : List ℕ) (s : Said) : Type 0 where
  before : (LinesPass text → ⊥) → RefusedBefore s → Outcomes text s
  loop : Loops text → RefusedWith 10 s → Outcomes text s
  doubling : OnlyDoubles text → RefusedWith 11 s → Outcomes text s
  sound : Otherwise text → IsTaken s → Outcomes text s

not_refused : {b : Book} {at : List ℕ} {why n : ℕ} {o : Outcome} → o ≡ passed b at → o ≡ lines.refused why n → ⊥
not_refused e f = let z : ◌≡◌ {A = ℕ} 0 1 = cc in omega arith

-- what holds of the routes that the reader keeps holds of the text's
of_text : (text : List ℕ) {b : Book} {at : List ℕ} (P : List Route → Type 0) → Passes text b at → P b.routes → P (text_routes text)
of_text text P p h = subst P (routes_of_text text p.read) h

answer : (text : List ℕ) (s : Said) (w : List ℕ) → Answered text s w → Outcomes text s
answer text s w (too_long h) =
    before (λ l. omega (arith, l.passes.short, h)) (record { why = 1; some = omega arith; low = omega arith; refused = record { line = 0; is = refl } })
answer text s w (bad_line {why = why} {n = n} h e) =
    let l = line_low text why n e in
    before (λ p. not_refused p.passes.read e) (record { why = why; some = omega (arith, l.least); low = l.most; refused = record { line = n; is = refl } })
answer text s w (closed_chain {b = b} {at = at} {i = i} p l) =
    loop
    (record { passes = record { book = b; at = at; passes = p }; returns = returns text (text_in_limits text p.read) i (of_text text (λ (rs : List Route). OnClosed (froms rs) (tos rs) i) p l.0) })
    (record { line = get_or at i 0; is = refl })
answer text s w (two_chains {b = b} {at = at} {i = i} p free l) =
    doubling
    (record {
      passes = record { book = b; at = at; passes = p };
      none_returns = none_returns text (of_text text (λ (rs : List Route). LoopFree (froms rs) (tos rs)) p free);
      doubles = doubles text (text_in_limits text p.read) i (of_text text (λ (rs : List Route). BeginsDoubling (froms rs) (tos rs) i) p l.0);
    })
    (record { line = get_or at i 0; is = refl })
answer text s w (taken_with {b = b} t) =
    let p : Passes text b t.at = record { short = t.short; read = t.read } in
    sound
    (record {
      passes = record { book = b; at = t.at; passes = p };
      none_returns = none_returns text (of_text text (λ (rs : List Route). LoopFree (froms rs) (tos rs)) p t.sound.loop_free);
      none_doubles = none_doubles text (of_text text (λ (rs : List Route). Single (froms rs) (tos rs)) p t.sound.single);
    })
    (record { messages = _; signals = _; routes = _; is = refl })

-- no two of them are one answer
not_both : {a b : ℕ} {s : Said} → (a ≡ b → ⊥) → RefusedWith a s → RefusedWith b s → ⊥
not_both ne x y = apart ne (sym x.is ∙ y.is)

not_and_taken : {a : ℕ} {s : Said} → RefusedWith a s → IsTaken s → ⊥
not_and_taken x y = not_taken (sym y.is ∙ x.is)

module _ (text : List ℕ) (s : Said) (w : List ℕ) (a : Answered text s w) where
  -- for a loop, exactly when some chain returns to the place it left
  pub loop_refused : Loops text → RefusedWith 10 s
  loop_refused l = go (answer text s w a)
    where
      go : Outcomes text s → RefusedWith 10 s
      go (before none _) = absurd (none l.passes)
      go (loop _ r) = r
      go (doubling h _) = absurd (h.none_returns l.returns)
      go (sound h _) = absurd (h.none_returns l.returns)

  pub refused_loop : RefusedWith 10 s → Loops text
  refused_loop r = go (answer text s w a)
    where
      go : Outcomes text s → Loops text
      go (before _ x) = absurd (not_both (λ e. omega (arith, x.low, e)) x.refused r)
      go (loop h _) = h
      go (doubling _ x) = absurd (not_both (λ e. omega arith) r x)
      go (sound _ x) = absurd (not_and_taken r x)

  -- for doubling, exactly when none does but two different chains join the same two places
  pub doubling_refused : OnlyDoubles text → RefusedWith 11 s
  doubling_refused f = go (answer text s w a)
    where
      go : Outcomes text s → RefusedWith 11 s
      go (before none _) = absurd (none f.passes)
      go (loop h _) = absurd (f.none_returns h.returns)
      go (doubling _ r) = r
      go (sound h _) = absurd (h.none_doubles f.doubles)

  pub refused_doubling : RefusedWith 11 s → OnlyDoubles text
  refused_doubling r = go (answer text s w a)
    where
      go : Outcomes text s → OnlyDoubles text
      go (before _ x) = absurd (not_both (λ e. omega (arith, x.low, e)) x.refused r)
      go (loop _ x) = absurd (not_both (λ e. omega arith) x r)
      go (doubling h _) = h
      go (sound _ x) = absurd (not_and_taken r x)

  -- otherwise taken, and only then
  pub otherwise_taken : Otherwise text → IsTaken s
  otherwise_taken o = go (answer text s w a)
    where
      go : Outcomes text s → IsTaken s
      go (before none _) = absurd (none o.passes)
      go (loop h _) = absurd (o.none_returns h.returns)
      go (doubling h _) = absurd (o.none_doubles h.doubles)
      go (sound _ r) = r

  pub taken_otherwise : IsTaken s → Otherwise text
  taken_otherwise t = go (answer text s w a)
    where
      go : Outcomes text s → Otherwise text
      go (before _ x) = absurd (not_and_taken x.refused t)
      go (loop _ x) = absurd (not_and_taken x t)
      go (doubling _ x) = absurd (not_and_taken x t)
      go (sound h _) = h

  -- where the lines of the text don't pass, exactly there, it is refused with one of 1 to 9
  pub before_refused : (LinesPass text → ⊥) → RefusedBefore s
  before_refused none = go (answer text s w a)
    where
      go : Outcomes text s → RefusedBefore s
      go (before _ r) = r
      go (loop h _) = absurd (none h.passes)
      go (doubling h _) = absurd (none h.passes)
      go (sound h _) = absurd (none h.passes)

  pub refused_before : RefusedBefore s → LinesPass text → ⊥
  refused_before r p = go (answer text s w a)
    where
      go : Outcomes text s → ⊥
      go (before none _) = none p
      go (loop _ x) = not_both (λ e. omega (arith, r.low, e)) r.refused x
      go (doubling _ x) = not_both (λ e. omega (arith, r.low, e)) r.refused x
      go (sound _ x) = not_and_taken r.refused x
