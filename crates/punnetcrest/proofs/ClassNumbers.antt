-- From the numbers of a class to what the call returns and leaves. Assumes nothing.
use Prim.Native.Nat.{ℕ}
use mathlib.Core.Path.{◌≡◌, refl, ap}
use native.Mathlib.Omega.{arith}
use lib.IntN.{ℤ}
use borrow.Author.Tests.{eq-eqb, ne_eqb}
use Rattle.std.specs.Prelude.{Result, Ok, Err}
use Rattle.catalogue.specs.declared.Class.{Class}
use Rattle.catalogue.specs.declared.NoClass.{NoClass}
use Rattle.catalogue.specs.declared.Class.TheVariants.{Value, Invalid, Absent, Error, Reserved, Outside}
use Rattle.catalogue.specs.declared.NoClass.TheVariants.{NotInCatalogue, TooWide}
use Rattle.catalogue.specs.Class.{class_of_spec, class_number}
use Rattle.framing.specs.Reading.{class_code}
use Rattle.messages.specs.Signals.{numbers_of_class}
use Rattle.punnetcrest.specs.Classing.{classed}

-- the code of a class tells its refusal's number
no_signal : (c : Result Class NoClass) → class_code c ≡ 6 → class_number c ≡ 3
no_signal (Ok (Value t)) e = absurd (omega (arith, e))
no_signal (Ok (Invalid r)) e = absurd (omega (arith, e))
no_signal (Ok (Absent r)) e = absurd (omega (arith, e))
no_signal (Ok (Error r)) e = absurd (omega (arith, e))
no_signal (Ok (Reserved r)) e = absurd (omega (arith, e))
no_signal (Ok (Outside r)) e = absurd (omega (arith, e))
no_signal (Err NotInCatalogue) e = refl
no_signal (Err TooWide) e = absurd (omega (arith, e))

too_wide : (c : Result Class NoClass) → class_code c ≡ 7 → class_number c ≡ 26
too_wide (Ok (Value t)) e = absurd (omega (arith, e))
too_wide (Ok (Invalid r)) e = absurd (omega (arith, e))
too_wide (Ok (Absent r)) e = absurd (omega (arith, e))
too_wide (Ok (Error r)) e = absurd (omega (arith, e))
too_wide (Ok (Reserved r)) e = absurd (omega (arith, e))
too_wide (Ok (Outside r)) e = absurd (omega (arith, e))
too_wide (Err NotInCatalogue) e = absurd (omega (arith, e))
too_wide (Err TooWide) e = refl

one_of_six : (c : Result Class NoClass) → (class_code c ≡ 6 → ⊥) → (class_code c ≡ 7 → ⊥) → class_number c ≡ 0
one_of_six (Ok (Value t)) n w = refl
one_of_six (Ok (Invalid r)) n w = refl
one_of_six (Ok (Absent r)) n w = refl
one_of_six (Ok (Error r)) n w = refl
one_of_six (Ok (Reserved r)) n w = refl
one_of_six (Ok (Outside r)) n w = refl
one_of_six (Err NotInCatalogue) n w = absurd (n refl)
one_of_six (Err TooWide) n w = absurd (w refl)

module _ (number raw code : ℕ) (reading : ℤ) {k : ℕ} {t : ℤ} (is : ◌≡◌ {A = ℤ × ℕ} (t, k) (numbers_of_class number (record { 0 = raw }))) where
  abbrev class : Result Class NoClass
  class = class_of_spec number (record { 0 = raw })

  same_code : k ≡ class_code class
  same_code = ap (λ (x : ℤ × ℕ). x.1) is

  refused : (why : ℕ) → class_number class ≡ why → (why ≡ 0 → ⊥) → (why, (code, reading)) ≡ classed number raw code reading
  refused why e some = rw (e, ne_eqb why 0 some)

  pub refused_3 : k ≡ 6 → (3, (code, reading)) ≡ classed number raw code reading
  refused_3 e = refused 3 (no_signal class (rw same_code at e)) (λ z. omega (arith, z))

  pub refused_26 : k ≡ 7 → (26, (code, reading)) ≡ classed number raw code reading
  refused_26 e = refused 26 (too_wide class (rw same_code at e)) (λ z. omega (arith, z))

  pub class_given : (k ≡ 6 → ⊥) → (k ≡ 7 → ⊥) → (0, (k, t)) ≡ classed number raw code reading
  class_given n w = rw (eq-eqb (class_number class) 0 (one_of_six class (rw same_code at n) (rw same_code at w))) (λ i. (0, ((is i).1, (is i).0)))
