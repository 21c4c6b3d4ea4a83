-- *count after a call that counts what it writes. Assumes nothing.
use Rattle.std.specs.Prelude.{ℕ, cond, eqb}

-- how many places or bytes were written, or as it was where the call refuses
abbrev pub count_left : ℕ → ℕ → ℕ → ℕ
count_left why written count = cond (eqb why 0) written count
