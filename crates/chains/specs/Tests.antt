-- Tests that compute: whether some number passes one, and which is the first that does. Assumes nothing: these are
-- definitions.
use Rattle.std.specs.Prelude.{◌≡◌, Bool, true, false, ◌||◌, ℕ, zero, suc, ◌≤◌, ◌<◌}

-- one of the numbers below n passes
abbrev pub any : ℕ → (ℕ → Bool) → Bool
any zero P = false
any (suc n) P = any n P || P n

-- r is the first number below n that passes, and n where none does
pub record FirstPassing (P : ℕ → Bool) (n r : ℕ) : Type 0 where
  pub within : r ≤ n
  pub before : (k : ℕ) → k < r → P k ≡ false
  pub found : r < n → P r ≡ true
