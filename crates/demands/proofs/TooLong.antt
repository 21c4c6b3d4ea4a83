-- Refusal 1 exactly: a text is refused with 1 exactly where it is too long, then at line 0; and whatever it is refused with is one of 1
-- to 11. Assumes nothing.
use mathlib.Core.Path.{◌≡◌, refl}
use mathlib.Core.Logic.{◌↔◌}
use Prim.Native.Nat.{ℕ, ◌≤◌, ◌<◌}
use native.Mathlib.Omega.{arith}
use mathlib.Core.List.{List}
use lib.ListN.{length}
use Rattle.record.specs.Limits.{text_limit}
use Rattle.answers.specs.Numbers.{Said, refused}
use Rattle.book.specs.Answered.{Answered, too_long, bad_line, closed_chain, two_chains, taken_with}
use Rattle.demands.specs.Loops.{RefusedWith}
use Rattle.demands.proofs.LineRefusals.{line_low, apart, not_taken}

module _ (text : List ℕ) where
  -- at line 0
  pub too_long_1 : {s : Said} {w : List ℕ} → Answered text s w → text_limit < length text → s ≡ refused 1 0
  too_long_1 (too_long k) h = refl
  too_long_1 (bad_line k r) h = absurd (omega arith)
  too_long_1 (closed_chain p l) h = absurd (omega (arith, p.short))
  too_long_1 (two_chains p f l) h = absurd (omega (arith, p.short))
  too_long_1 (taken_with t) h = absurd (omega (arith, t.short))

  refused_too_long : (n : ℕ) {s : Said} {w : List ℕ} → s ≡ refused 1 n → Answered text s w → text_limit < length text
  refused_too_long n e (too_long h) = h
  refused_too_long n e (bad_line {why = y} {n = m} h r) = apart (λ (q : y ≡ 1). omega (arith, (line_low text y m r).least)) e
  refused_too_long n e (closed_chain p l) = apart (λ (q : 10 ≡ 1). omega arith) e
  refused_too_long n e (two_chains p f l) = apart (λ (q : 11 ≡ 1). omega arith) e
  refused_too_long n e (taken_with t) = not_taken e

  pub refused_1 : {s : Said} {w : List ℕ} → Answered text s w → RefusedWith 1 s ↔ (text_limit < length text)
  refused_1 a = (λ r. refused_too_long r.line r.is a, λ h. record { line = 0; is = too_long_1 a h })

  among : (why n : ℕ) {s : Said} {w : List ℕ} → s ≡ refused why n → Answered text s w → (1 ≤ why) × (why ≤ 11)
  among why n e (too_long h) = let z : 1 ≡ why = cc in (omega arith, omega arith)
  among why n e (bad_line {why = y} {n = m} h r) =
      let z : y ≡ why = cc in
      let low = line_low text y m r in
      (omega (arith, low.least), omega (arith, low.most))
  among why n e (closed_chain p l) = let z : 10 ≡ why = cc in (omega arith, omega arith)
  among why n e (two_chains p f l) = let z : 11 ≡ why = cc in (omega arith, omega arith)
  among why n e (taken_with t) = not_taken e

  pub refused_1_to_11 : {s : Said} {w : List ℕ} {why : ℕ} → Answered text s w → RefusedWith why s → (1 ≤ why) × (why ≤ 11)
  refused_1_to_11 {why = why} a r = among why r.line r.is a
