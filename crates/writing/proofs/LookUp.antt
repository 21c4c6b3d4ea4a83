-- The bytes that `put_hexadecimals` looks a digit up in. Assumes nothing.
use mathlib.Core.Path.{◌≡◌, refl}
use mathlib.Core.List.{List, [], ◌∷◌}
use Prim.Native.Nat.{ℕ, zero, suc, ◌<◌}
use native.Mathlib.Omega.{arith}
use lib.ListN.{get_or}
use Rattle.numerals.specs.Written.{digit_byte_spec}

abbrev digit_bytes : List ℕ
digit_bytes = 48 ∷ 49 ∷ 50 ∷ 51 ∷ 52 ∷ 53 ∷ 54 ∷ 55 ∷ 56 ∷ 57 ∷ 65 ∷ 66 ∷ 67 ∷ 68 ∷ 69 ∷ 70 ∷ []  -- 0123456789ABCDEF

-- a digit below 16 has its byte there
pub looked_up : (d : ℕ) → d < 16 → get_or digit_bytes d 0 ≡ digit_byte_spec d
unfolding digit_byte_spec
looked_up zero h = refl
looked_up (suc zero) h = refl
looked_up (suc (suc zero)) h = refl
looked_up (suc (suc (suc zero))) h = refl
looked_up (suc (suc (suc (suc zero)))) h = refl
looked_up (suc (suc (suc (suc (suc zero))))) h = refl
looked_up (suc (suc (suc (suc (suc (suc zero)))))) h = refl
looked_up (suc (suc (suc (suc (suc (suc (suc zero))))))) h = refl
looked_up (suc (suc (suc (suc (suc (suc (suc (suc zero)))))))) h = refl
looked_up (suc (suc (suc (suc (suc (suc (suc (suc (suc zero))))))))) h = refl
looked_up (suc (suc (suc (suc (suc (suc (suc (suc (suc (suc zero)))))))))) h = refl
looked_up (suc (suc (suc (suc (suc (suc (suc (suc (suc (suc (suc zero))))))))))) h = refl
looked_up (suc (suc (suc (suc (suc (suc (suc (suc (suc (suc (suc (suc zero)))))))))))) h = refl
looked_up (suc (suc (suc (suc (suc (suc (suc (suc (suc (suc (suc (suc (suc zero))))))))))))) h = refl
looked_up (suc (suc (suc (suc (suc (suc (suc (suc (suc (suc (suc (suc (suc (suc zero)))))))))))))) h = refl
looked_up (suc (suc (suc (suc (suc (suc (suc (suc (suc (suc (suc (suc (suc (suc (suc zero))))))))))))))) h = refl
looked_up (suc (suc (suc (suc (suc (suc (suc (suc (suc (suc (suc (suc (suc (suc (suc (suc d)))))))))))))))) h = absurd (omega (arith, h))
