-- What is found by a number: a row of the table that has it, and nothing exactly where no row has it; so are no bits. The row that is
-- found keeps the rule. Assumes nothing.
use mathlib.Core.Path.{◌≡◌, refl, ap, ◌∙◌, subst}
use mathlib.Core.Bool.{Bool, true, false, cond}
use mathlib.Core.List.{List, [], ◌∷◌}
use mathlib.Core.Option.{Option, none, some}
use Prim.Native.Nat.{ℕ, zero, suc, ◌≤◌, ◌<◌, suc-le-suc}
use native.Mathlib.Nat.{le_of_suc-le-suc, not-suc-le-zero}
use native.Mathlib.Omega.{arith}
use lib.Dec.{eqb}
use lib.ListN.{length, get_or}
use borrow.Author.Tests.{eqb-true, eqb-false}
use Rattle.rows.specs.declared.Row.{Row}
use Rattle.rows.specs.Rows.{rows, blank}
use Rattle.rows.specs.Rule.{Rule, most_bits}
use Rattle.catalogue.specs.Find.{row_in, row_of, bits_in_spec, bits_of_spec, HasRow}
use Rattle.rows.proofs.Whole.{all_kept}

-- ---- in any table

-- a row that is found stands in the table and has the number; where none is found, none has it
abbrev pub FoundIn : ℕ → List Row → Option Row → Type 0
FoundIn n rs (some r) = (i : ℕ) × ((i < length rs) × ((get_or rs i blank ≡ r) × (r.number ≡ n)))
FoundIn n rs none = (i : ℕ) → i < length rs → (get_or rs i blank).number ≡ n → ⊥

module _ (n : ℕ) (r : Row) (rs : List Row) where
  later : (eqb r.number n ≡ false) → FoundIn n rs none → FoundIn n (r ∷ rs) none
  later e f zero h k = eqb-false r.number n e k
  later e f (suc i) h k = f i (le_of_suc-le-suc h) k

  here_or_later : (b : Bool) (o : Option Row) → eqb r.number n ≡ b → FoundIn n rs o → FoundIn n (r ∷ rs) (cond b (some r) o)
  here_or_later true o e f = (0, (omega arith, (refl, eqb-true r.number n e)))
  here_or_later false (some r') e f = (suc f.0, (suc-le-suc f.1.0, f.1.1))
  here_or_later false none e f = later e f

found_in : (n : ℕ) (rs : List Row) → FoundIn n rs (row_in n rs)
found_in n [] = λ i h k. not-suc-le-zero h
found_in n (r ∷ rs) = here_or_later n r rs (eqb r.number n) (row_in n rs) refl (found_in n rs)

-- ---- in the catalogue

pub found : (n : ℕ) → FoundIn n rows (row_of n)
unfolding row_of
found n = found_in n rows

-- the rule, where there is a row
abbrev pub RuleOf : Option Row → Type 0
RuleOf none = Unit
RuleOf (some r) = Rule r

pub rule_of : (n : ℕ) → RuleOf (row_of n)
rule_of n = go (row_of n) (found n)
  where
    go : (o : Option Row) → FoundIn n rows o → RuleOf o
    go none f = tt
    go (some r) f = subst Rule f.1.1.0 (all_kept.rule f.0 f.1.0)

few : (o : Option Row) → RuleOf o → bits_in_spec o ≤ most_bits
few none rule = omega arith
few (some r) rule = rule.few_bits

-- no signal has more than 32 bits
pub few_bits : (n : ℕ) → bits_of_spec n ≤ most_bits
unfolding bits_of_spec
few_bits n = few (row_of n) (rule_of n)

-- ---- a number is not in the catalogue exactly where no row has it

module _ (n : ℕ) where
  pub none_has : row_of n ≡ none → HasRow n → ⊥
  none_has e has = subst (FoundIn n rows) e (found n) has.0 has.1.0 has.1.1

  pub no_row : (HasRow n → ⊥) → row_of n ≡ none
  no_row lacks = go (row_of n) (found n)
    where
      go : (o : Option Row) → FoundIn n rows o → o ≡ none
      go none f = refl
      go (some r) f = absurd (lacks (f.0, (f.1.0, ap (λ (x : Row). x.number) f.1.1.0 ∙ f.1.1.1)))

  pub zero_bits : (HasRow n → ⊥) → bits_of_spec n ≡ 0
  unfolding bits_of_spec
  zero_bits lacks = ap bits_in_spec (no_row lacks)

  pub none_has_zero : bits_of_spec n ≡ 0 → HasRow n → ⊥
  unfolding bits_of_spec
  none_has_zero e has = go (row_of n) (found n) (rule_of n) e
    where
      go : (o : Option Row) → FoundIn n rows o → RuleOf o → bits_in_spec o ≡ 0 → ⊥
      go none f rule z = f has.0 has.1.0 has.1.1
      go (some r) f rule z = let some_bits = rule.some_bits in omega (arith, z, some_bits)
