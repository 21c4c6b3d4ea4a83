-- `messages::packing::put_all` meets its contract: at each turn, putting what is left gives the final word, or the refusal.
-- Assumes nothing.
use Rattle.std.specs.Prelude.{Result}
use native.Mathlib.Omega.{arith}
use mathlib.Core.Path.{refl, sym, ap, ◌∙◌}
use Prim.Native.Nat.{ℕ, ◌+◌}
use lib.ListN.{drop}
use Rattle.framing.specs.declared.PackRefusal.{PackRefusal}
use Rattle.messages.specs.Put.{put_all}
use Rattle.std.proofs.lemmas.Result.{err_from_is_err_and}
use Rattle.messages.proofs.Steps.{rest, fits_at, fits_on}
use Rattle.messages.proofs.Packs.{put_more, put_none, refusal_stays}
use Rattle.messages.proofs.packing.put_all.Goals as goal

pub loop-at-init : goal.loop-at-init
loop-at-init c = record { fit = c.requires.fit; puts = refl }

pub put_one-requires : goal.put_one-requires
put_one-requires c = fits_at c.args.numbers.now c.args.starts.now c.loop-at.at (omega (arith, c.loop-at-test.true, c.length_of-at-end.ensures)) c.requires.same c.loop-at.invariant.fit

pub loop-at-preserved : goal.loop-at-preserved
loop-at-preserved c = let a = c.args in
    let l = c.loop-at in
    let put_on : Result ℕ PackRefusal → Result ℕ PackRefusal = λ x. put_all x (rest a.numbers.now a.starts.now (l.at + 1)) (drop (l.at + 1) a.values.now) in
    record {
      fit = fits_on a.numbers.now a.starts.now l.at (omega (arith, c.loop-at-test.true, c.length_of-at-end.ensures)) c.requires.same l.invariant.fit;
      puts = ap put_on c.in_ok-word.ensures ∙ sym (put_more a.numbers.now a.starts.now a.values.now l.word l.at c.requires (omega (arith, c.loop-at-test.true, c.length_of-at-end.ensures))) ∙ l.invariant.puts;
    }

pub returns-in_err-word : goal.returns-in_err-word
returns-in_err-word c = let a = c.args in
    let l = c.loop-at in
    let put_on : Result ℕ PackRefusal → Result ℕ PackRefusal = λ x. put_all x (rest a.numbers.now a.starts.now (l.at + 1)) (drop (l.at + 1) a.values.now) in
    let p = err_from_is_err_and c.from_residual.result c.from_residual.ensures.1 in
    rw (p.1, p.2)
    (sym (put_more a.numbers.now a.starts.now a.values.now l.word l.at c.requires (omega (arith, c.loop-at-test.true, c.length_of-at-end.ensures)) ∙ ap put_on (sym c.in_err-word.ensures) ∙ refusal_stays _ (rest a.numbers.now a.starts.now (l.at + 1)) (drop (l.at + 1) a.values.now)) ∙ l.invariant.puts)

pub returns : goal.returns
returns c = let a = c.args in
    let l = c.loop-at in
    sym (put_none a.numbers.now a.starts.now a.values.now l.word l.at (omega (arith, c.loop-at-test.false, c.length_of-at-end.ensures))) ∙ l.invariant.puts
