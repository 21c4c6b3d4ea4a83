-- Each table of routes has one verdict and no other. Assumes nothing.
use mathlib.Core.Path.{◌≡◌, refl, sym, ap, ◌∙◌}
use mathlib.Core.Bool.{true≢false}
use mathlib.Core.Logic.{⊎_elim}
use Prim.Native.Nat.{ℕ, ◌<◌, ◌≤◌}
use native.Mathlib.Nat.{eq-or-lt_of_le}
use native.Mathlib.Omega.{arith}
use native.Mathlib.Decide.{dec_le}
use mathlib.Core.List.{List, ◌∷◌}
use lib.ListN.{length}
use Rattle.chains.specs.Chain.{Walk, OnClosed, LoopFree, BeginsDoubling, Single, IsSound}
use Rattle.chains.proofs.Walks.{chain_walk}
use Rattle.chains.specs.Tests.{FirstPassing}
use Rattle.chains.proofs.Loops.{comes_back_spec, closed_back, back_closed, loop_free}
use Rattle.chains.proofs.Tests.{first, begins, begins_is, is_begins}
use Rattle.verdict.specs.Verdicts.{Lowest, Judged}
use Rattle.verdict.specs.declared.Verdict.{Verdict}
use Rattle.verdict.specs.declared.Verdict.TheVariants as verdict

module _ (fs ts : List ℕ) where
  -- a table without closed chains in which no route begins a doubling is single
  single : ((i : ℕ) → i < length fs → BeginsDoubling fs ts i → ⊥) → Single fs ts
  single none p q c d two = go (chain_walk fs ts p c q two.one)
    where
      go : (i : ℕ) × (c' : List ℕ) × (c ≡ i ∷ c') × Walk fs ts p (i ∷ c') q → ⊥
      go (i, c', e, w) = none i w.0 (p, q, c', d, record { one = w; other = two.other; different = λ z. two.different (e ∙ z) })

  -- what the first route that comes back tells
  pub loop_found : (r : ℕ) → FirstPassing (comes_back_spec fs ts) (length fs) r → r < length fs → Judged fs ts (verdict.Loop r)
  loop_found r f l = (back_closed fs ts r l (f.found l), λ k h o. true≢false (sym (closed_back fs ts k o).1 ∙ f.before k h))

  pub no_loop : (r : ℕ) → FirstPassing (comes_back_spec fs ts) (length fs) r → length fs ≤ r → LoopFree fs ts
  no_loop r f l = loop_free fs ts (λ i h. f.before i (omega arith))

  -- what the first route tells that begins a doubling
  module _ (free : LoopFree fs ts) (r : ℕ) (f : FirstPassing (begins fs ts) (length fs) r) where
    pub doubling_found : r < length fs → Judged fs ts (verdict.Doubling r)
    doubling_found l = (free, (begins_is fs ts r l (f.found l), λ k h b. true≢false (sym (is_begins fs ts free k b) ∙ f.before k h)))

    pub no_doubling : length fs ≤ r → Judged fs ts verdict.Sound
    no_doubling l = record { loop_free = free; single = single (λ i h b. true≢false (sym (is_begins fs ts free i b) ∙ f.before i (omega arith))) }

  -- there is a verdict
  pub judged : (v : Verdict) × Judged fs ts v
  judged = go (first (comes_back_spec fs ts) (length fs))
    where
      last : LoopFree fs ts → (r : ℕ) × FirstPassing (begins fs ts) (length fs) r → (v : Verdict) × Judged fs ts v
      last free (r, f) = at (dec_le (length fs) r)
        where
          at : Dec (length fs ≤ r) → (v : Verdict) × Judged fs ts v
          at (yes l) = (verdict.Sound, no_doubling free r f l)
          at (no n) = (verdict.Doubling r, doubling_found free r f (omega arith))

      go : (r : ℕ) × FirstPassing (comes_back_spec fs ts) (length fs) r → (v : Verdict) × Judged fs ts v
      go (r, f) = at (dec_le (length fs) r)
        where
          at : Dec (length fs ≤ r) → (v : Verdict) × Judged fs ts v
          at (yes l) = last (no_loop r f l) (first (begins fs ts) (length fs))
          at (no n) = (verdict.Loop r, loop_found r f (omega arith))

  -- and no other
  lowest_once : (P : ℕ → Type 0) (i j : ℕ) → Lowest P i → Lowest P j → i ≡ j
  lowest_once P i j a b = go (dec_le i j)
    where
      go : Dec (i ≤ j) → i ≡ j
      go (yes l) = ⊎_elim (λ e. e) (λ h. absurd (b.1 i h a.0)) (eq-or-lt_of_le l)
      go (no n) = absurd (a.1 j (omega arith) b.0)

  pub judged_once : (v w : Verdict) → Judged fs ts v → Judged fs ts w → v ≡ w
  judged_once (verdict.Loop i) (verdict.Loop j) a b = ap verdict.Loop (lowest_once (OnClosed fs ts) i j a b)
  judged_once (verdict.Loop i) (verdict.Doubling j) a b = absurd (b.0 a.0.0 a.0.1 a.0.2)
  judged_once (verdict.Loop i) verdict.Sound a b = absurd (b.loop_free a.0.0 a.0.1 a.0.2)
  judged_once (verdict.Doubling i) (verdict.Loop j) a b = absurd (a.0 b.0.0 b.0.1 b.0.2)
  judged_once (verdict.Doubling i) (verdict.Doubling j) a b = ap verdict.Doubling (lowest_once (BeginsDoubling fs ts) i j a.1 b.1)
  judged_once (verdict.Doubling i) verdict.Sound a b = let t = a.1.0 in absurd (b.single t.0 t.1 (i ∷ t.2) t.3 t.4)
  judged_once verdict.Sound (verdict.Loop j) a b = absurd (a.loop_free b.0.0 b.0.1 b.0.2)
  judged_once verdict.Sound (verdict.Doubling j) a b = let t = b.1.0 in absurd (a.single t.0 t.1 (j ∷ t.2) t.3 t.4)
  judged_once verdict.Sound verdict.Sound a b = refl

  -- a table with another verdict is not sound
  pub loop_unsound : (i : ℕ) → Judged fs ts (verdict.Loop i) → IsSound fs ts → ⊥
  loop_unsound i a b = b.loop_free a.0.0 a.0.1 a.0.2

  pub doubling_unsound : (i : ℕ) → Judged fs ts (verdict.Doubling i) → IsSound fs ts → ⊥
  doubling_unsound i a b = let t = a.1.0 in b.single t.0 t.1 (i ∷ t.2) t.3 t.4
