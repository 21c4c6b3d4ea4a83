-- Wrong ways to a reading give other doubles: 7 thousandths divided by 10 and then by 100, and 9 thousandths times 0.001. So the edits
-- `divides_twice` and `multiplies` are wrong programs, and not only other ones. Assumes nothing.
use mathlib.Core.Path.{◌≡◌, refl, sym, ap, ◌∙◌}
use Prim.Native.Nat.{ℕ}
use native.Mathlib.Omega.{arith}
use lib.IntN.{pos}
use lib.Ieee.{Float, binary64, div, mul, of_int, of_bits, round, to_bits}
use Rattle.doubles.specs.Doubles.{double_of, in_units_spec}

-- 0.001, as code would have it: the double nearest to it
abbrev thousandth : Float
thousandth = of_bits binary64 0x3f50_624d_d2f1_a9fc

seven : to_bits binary64 (in_units_spec (record { 0 = pos 7 })) ≡ 0x3f7c_ac08_3126_e979
unfolding in_units_spec div of_int round to_bits
seven = refl

seven_twice : to_bits binary64 (div binary64 (div binary64 (double_of (pos 7)) (double_of (pos 10))) (double_of (pos 100))) ≡ 0x3f7c_ac08_3126_e978
unfolding div of_int round to_bits
seven_twice = refl

nine : to_bits binary64 (in_units_spec (record { 0 = pos 9 })) ≡ 0x3f82_6e97_8d4f_df3b
unfolding in_units_spec div of_int round to_bits
nine = refl

nine_times : to_bits binary64 (mul binary64 (double_of (pos 9)) thousandth) ≡ 0x3f82_6e97_8d4f_df3c
unfolding mul of_int of_bits round to_bits
nine_times = refl

other : (m n : ℕ) {x y : Float} → to_bits binary64 x ≡ m → to_bits binary64 y ≡ n → (m ≡ n → ⊥) → x ≡ y → ⊥
other m n p q h e = h (sym p ∙ ap (to_bits binary64) e ∙ q)

pub twice_differs : div binary64 (div binary64 (double_of (pos 7)) (double_of (pos 10))) (double_of (pos 100)) ≡ in_units_spec (record { 0 = pos 7 }) → ⊥
twice_differs = other 0x3f7c_ac08_3126_e978 0x3f7c_ac08_3126_e979 seven_twice seven (λ e. omega (arith, e))

pub times_differs : mul binary64 (double_of (pos 9)) thousandth ≡ in_units_spec (record { 0 = pos 9 }) → ⊥
times_differs = other 0x3f82_6e97_8d4f_df3c 0x3f82_6e97_8d4f_df3b nine_times nine (λ e. omega (arith, e))
