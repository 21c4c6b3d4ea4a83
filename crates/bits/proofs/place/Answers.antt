-- `bits::place` meets its contract: both shifts are exact, and what is put has room where the old field was. Assumes nothing.
-- the old field and the new one, in their place
use mathlib.Core.Path.{◌≡◌, ap, ◌∙◌, subst⁻¹}
use Prim.Native.Nat.{ℕ, ◌<◌, ◌≤◌, ◌+◌, ◌-◌, ◌%◌, ◌^◌, ◌*◌}
use native.Mathlib.Omega.{arith}
use lib.Pow.{shl_exact}
use Rattle.bits.specs.Word.{field_of, placed, Fits}
use Rattle.bits.proofs.Placing.{field_lt, field_le, placed_lt}
use Rattle.bits.proofs.place.Goals as goal

module _ (w : ℕ) {s b : ℕ} (f : Fits s b) where
  old-shifted : {n : ℕ} → n ≡ field_of w s b → n * 2 ^ s % 2 ^ 64 ≡ field_of w s b * 2 ^ s
  old-shifted e = ap (λ (m : ℕ). m * 2 ^ s % 2 ^ 64) e ∙ shl_exact b s 64 (field_lt w s b) (omega (arith, f.inside))

  put : {v n m : ℕ} → v < 2 ^ b → n ≡ field_of w s b → m ≡ v → w - n * 2 ^ s % 2 ^ 64 + m * 2 ^ s % 2 ^ 64 ≡ placed w s b v
  unfolding placed
  put {v} {n} {m} h e same =
      ap (λ (k : ℕ). w - k + m * 2 ^ s % 2 ^ 64) (old-shifted e) ∙
      ap (λ (k : ℕ). w - field_of w s b * 2 ^ s + k) (ap (λ (k : ℕ). k * 2 ^ s % 2 ^ 64) same ∙ shl_exact b s 64 h (omega (arith, f.inside)))

pub overflow_sub-result : goal.overflow_sub-result
overflow_sub-result c = let a = c.args in subst⁻¹ (λ (m : ℕ). m ≤ a.word) (old-shifted a.word c.requires.0 (c.from-old.ensures ∙ c.take.ensures)) (field_le a.word a.start a.bits)

pub overflow_add-result : goal.overflow_add-result
overflow_add-result c =
    let a = c.args in
    let p = c.requires in
    let h : placed a.word a.start a.bits a.count < 2 ^ 64 = placed_lt a.word a.start a.bits a.count p.1 64 (omega arith) (omega arith) in
    record { fits = subst⁻¹ (λ (m : ℕ). m < 2 ^ 64) (put a.word p.0 p.1 (c.from-old.ensures ∙ c.take.ensures) c.from.ensures) h }

pub returns : goal.returns
returns c =
    let a = c.args in
    let p = c.requires in
    put a.word p.0 p.1 (c.from-old.ensures ∙ c.take.ensures) c.from.ensures
