-- `catalogue::classes::low_bits` meets its contract: 2 ^ bits fits 64 bits, and what is left of 32 fits those.
-- Assumes nothing.
use mathlib.Core.Path.{◌≡◌, ap, ◌∙◌}
use Prim.Native.Nat.{ℕ, ◌+◌, ◌*◌, ◌^◌, ◌%◌, ◌≤◌}
use native.Mathlib.Nat.{one-mul, mod-le}
use native.Mathlib.Omega.{arith}
use lib.Pow.{shl_exact}
use Rattle.catalogue.proofs.classes.low_bits.Goals as goal

power : (bits : ℕ) → 1 + bits ≤ 64 → (1 * 2 ^ bits) % 2 ^ 64 ≡ 2 ^ bits
power bits h = shl_exact 1 bits 64 (omega arith) h ∙ one-mul (2 ^ bits)

pub overflow_cast-result-2 : goal.overflow_cast-result-2
overflow_cast-result-2 c = omega (arith, mod-le c.from.result ((1 * 2 ^ c.args.bits) % 2 ^ 64), c.from.ensures, c.ranges.window)

pub returns : goal.returns
returns c = ap (λ (m : ℕ). c.from.result % m) (power c.args.bits (omega (arith, c.requires))) ∙ ap (λ (n : ℕ). n % 2 ^ c.args.bits) c.from.ensures
