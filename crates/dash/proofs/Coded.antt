-- A class by its code and its thousandths: what is drawn is that of the class, and the thousandths are few. Assumes nothing.
use mathlib.Core.Path.{◌≡◌, refl, sym, ap, ◌∙◌, subst}
use Prim.Native.Nat.{ℕ, zero, suc, ◌≤◌}
use native.Mathlib.Omega.{arith}
use lib.IntN.{ℤ, nat_abs}
use Rattle.rows.specs.Rule.{exact_doubles}
use Rattle.catalogue.specs.declared.Raw.{Raw}
use Rattle.catalogue.specs.declared.Thousandths.{Thousandths}
use Rattle.catalogue.specs.declared.Class.{Class}
use Rattle.catalogue.specs.declared.Class.TheVariants as old
use Rattle.catalogue.specs.declared.NoClass.{NoClass}
use Rattle.catalogue.specs.declared.NoClass.TheVariants.{NotInCatalogue, TooWide}
use Rattle.std.specs.Prelude.{Result, Ok, Err}
use Rattle.catalogue.specs.Class.{class_of_spec}
use Rattle.doubles.specs.Doubles.{SmallIfValue}
use Rattle.doubles.proofs.Values.{small_class}
use Rattle.framing.specs.Reading.{class_code, thousandths_of_spec}
use Rattle.messages.specs.Signals.{numbers_of_class}
use Rattle.dash.specs.Answer.{dash_for, dash_of}
use Rattle.dash.specs.Coded.{dash_coded}

-- the thousandths of a value are few, and those of any other class 0
few : (c : Result Class NoClass) → SmallIfValue c → nat_abs (thousandths_of_spec c) ≤ exact_doubles
few (Ok (old.Value t)) h = h
few (Ok (old.Invalid r)) h = omega arith
few (Ok (old.Absent r)) h = omega arith
few (Ok (old.Error r)) h = omega arith
few (Ok (old.Reserved r)) h = omega arith
few (Ok (old.Outside r)) h = omega arith
few (Err e) h = omega arith

coded_as : (c : Result Class NoClass) → dash_coded (class_code c) (record { 0 = thousandths_of_spec c }) ≡ dash_for c
coded_as (Ok (old.Value t)) = refl
coded_as (Ok (old.Invalid r)) = refl
coded_as (Ok (old.Absent r)) = refl
coded_as (Ok (old.Error r)) = refl
coded_as (Ok (old.Reserved r)) = refl
coded_as (Ok (old.Outside r)) = refl
coded_as (Err NotInCatalogue) = refl
coded_as (Err TooWide) = refl

-- the numbers that the call gets
module _ (number : ℕ) (raw : Raw) {z : ℤ} {code : ℕ} (is : ◌≡◌ {A = ℤ × ℕ} (z, code) (numbers_of_class number raw)) where
  pub few_numbers : nat_abs z ≤ exact_doubles
  few_numbers = subst (λ (x : ℤ). nat_abs x ≤ exact_doubles) (sym (ap (λ (x : ℤ × ℕ). x.0) is)) (few (class_of_spec number raw) (small_class number raw))

  pub numbers_drawn : dash_coded code (record { 0 = z }) ≡ dash_of number raw
  unfolding dash_of
  numbers_drawn = ap (λ (x : ℤ × ℕ). dash_coded x.1 (record { 0 = x.0 })) is ∙ coded_as (class_of_spec number raw)

-- a code that is none of those of the other cases
abbrev NoneOfSeven : ℕ → Type 0
NoneOfSeven code = (((((((Unit × (code ≡ 0 → ⊥)) × (code ≡ 1 → ⊥)) × (code ≡ 2 → ⊥)) × (code ≡ 3 → ⊥)) × (code ≡ 4 → ⊥)) × (code ≡ 5 → ⊥)) × (code ≡ 6 → ⊥))

pub last_code : (code : ℕ) (t : Thousandths) → NoneOfSeven code → Err TooWide ≡ dash_coded code t
last_code zero t others = absurd (others.0.0.0.0.0.0.1 refl)
last_code (suc zero) t others = absurd (others.0.0.0.0.0.1 refl)
last_code (suc (suc zero)) t others = absurd (others.0.0.0.0.1 refl)
last_code (suc (suc (suc zero))) t others = absurd (others.0.0.0.1 refl)
last_code (suc (suc (suc (suc zero)))) t others = absurd (others.0.0.1 refl)
last_code (suc (suc (suc (suc (suc zero))))) t others = absurd (others.0.1 refl)
last_code (suc (suc (suc (suc (suc (suc zero)))))) t others = absurd (others.1 refl)
last_code (suc (suc (suc (suc (suc (suc (suc more))))))) t others = refl
