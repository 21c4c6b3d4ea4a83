-- `streams::put_refusal` meets its contract: its pieces, one after the other, are the line. Assumes nothing.
use mathlib.Core.Path.{◌≡◌}
use native.Mathlib.Omega.{arith}
use Rattle.printing.proofs.Puts.{put_length, and_then}
use Rattle.printing.proofs.Spelling.{natural_few}
use Rattle.streams.specs.Refusal.{refusal_line}
use Rattle.streams.proofs.put_refusal.Goals as goal

pub put_byte-requires : goal.put_byte-requires
put_byte-requires c =
    let few = natural_few c.from.result (omega (arith, c.from.ensures, c.ranges.number.fits)) in
    omega (arith, c.requires, put_length c.put_bytes-word.ensures, c.put_bytes-word.ensures.now_at, put_length c.put_natural-digits.ensures, c.put_natural-digits.ensures.now_at, few)

pub returns : goal.returns
unfolding refusal_line
returns c =
    let same : c.from.result ≡ c.args.number = omega (arith, c.from.ensures) in
    rw (← same) (and_then (and_then c.put_bytes-word.ensures c.put_natural-digits.ensures) c.put_byte.ensures)
