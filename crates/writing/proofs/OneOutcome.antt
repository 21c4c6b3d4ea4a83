-- Each public function's contract allows one outcome and no other: what stands in the lent slice at exit, and the place after it. Assumes nothing.
use mathlib.Core.Path.{◌≡◌, refl}
use mathlib.Core.List.{List}
use Prim.Native.Nat.{ℕ, ◌+◌}
use lib.Seq.{sets}
use seplogic.Ra.Ura.{Ura}
use base.Logic.{SProp}
use base.Stored.{coded_ℕ, coded×, coded_list}
use prog.Memory.{Memory}
use prog.Routine.{Routine}
use types.Logic.{Logic}
use contract.Lifetimes.{Lfts}
use contract.Monad.{Fun}
use denote.Ref.{MutBor, at_last}
use Rattle.only.specs.Only.{Only, only_this}
use Rattle.only.specs.Outcomes.{OneResult, result_is}
use Rattle.numerals.specs.Numeral.{identifier_digits}
use Rattle.numerals.specs.Written.{digits_of_spec, identifier_text, decimal_width_spec, decimal_text}
use Rattle.writing.specs.contracts.decimal_width as decimal-width
use Rattle.writing.specs.contracts.put_decimal as put_decimal_law
use Rattle.writing.specs.contracts.put_digits as put-digits
use Rattle.writing.specs.contracts.put_hexadecimals as put-hexadecimals
use Rattle.writing.specs.contracts.put_identifier as put_identifier_law

pub one_decimal_width : (M : Type 1) → OneResult M decimal-width.ended (λ _. decimal-width.clauses)
one_decimal_width M = result_is (λ c. decimal_width_spec c.arguments.0) refl

module _ {M : Type 1} {𝓤 : Ura M} (𝓛 : Logic 𝓤) (mem : Memory → SProp 𝓤) (run : Routine → Fun 𝓤) (κs : Lfts 1) (out : MutBor (List ℕ)) (at : ℕ) where
  pub one_put_digits : (k n base : ℕ) → Only 𝓤 (λ (x : List ℕ). (put-digits.clauses 𝓛 mem run κs (out, (at, (k, (n, (base, tt)))))).ensures tt tt (at_last out x, (at, (k, (n, (base, tt))))))
  one_put_digits k n base = only_this 𝓤 _ (coded_list coded_ℕ) (sets out.now at (digits_of_spec base k n)) (λ x. refl)

  pub one_put_hexadecimals : (k n : ℕ) → Only 𝓤 (λ (x : List ℕ). (put-hexadecimals.clauses 𝓛 mem run κs (out, (at, (k, (n, tt))))).ensures tt tt (at_last out x, (at, (k, (n, tt)))))
  one_put_hexadecimals k n = only_this 𝓤 _ (coded_list coded_ℕ) (sets out.now at (digits_of_spec 16 k n)) (λ x. refl)

  pub one_put_identifier : (n : ℕ) → Only 𝓤 (λ (x : ℕ × List ℕ). (put_identifier_law.clauses 𝓛 mem run κs (out, (at, (n, tt)))).ensures tt x.0 (at_last out x.1, (at, (n, tt))))
  one_put_identifier n =
      record {
        coded = coded× coded_ℕ (coded_list coded_ℕ);
        outcome = (at + identifier_digits, sets out.now at (identifier_text n));
        Says = λ x. (x.0 ≡ at + identifier_digits) × (x.1 ≡ sets out.now at (identifier_text n));
        says = λ x. refl;
        there = (refl, refl);
        alone = λ x h i. (h.0 i, h.1 i);
      }

  pub one_put_decimal : (n : ℕ) → Only 𝓤 (λ (x : ℕ × List ℕ). (put_decimal_law.clauses 𝓛 mem run κs (out, (at, (n, tt)))).ensures tt x.0 (at_last out x.1, (at, (n, tt))))
  one_put_decimal n =
      record {
        coded = coded× coded_ℕ (coded_list coded_ℕ);
        outcome = (at + decimal_width_spec n, sets out.now at (decimal_text n));
        Says = λ x. (x.0 ≡ at + decimal_width_spec n) × (x.1 ≡ sets out.now at (decimal_text n));
        says = λ x. refl;
        there = (refl, refl);
        alone = λ x h i. (h.0 i, h.1 i);
      }
