-- `writing::put_decimal` meets its contract: a number has as many digits as hold it. Assumes nothing.
use native.Mathlib.Omega.{arith}
use Rattle.numerals.specs.Written.{decimal_text}
use Rattle.numerals.proofs.Decimals.{width_holds}
use Rattle.writing.proofs.put_decimal.Goals as goal

pub put_digits-requires : goal.put_digits-requires
put_digits-requires c = record {
  inside = omega (arith, c.requires.1, c.decimal_width-width.ensures);
  some = omega arith;
  few = omega arith;
  holds = rw c.decimal_width-width.ensures (width_holds _ c.requires.0);
}

pub returns : goal.returns
unfolding decimal_text
returns c =
    let e = c.decimal_width-width.ensures in
    (rw e, rw e at c.put_digits.ensures)
