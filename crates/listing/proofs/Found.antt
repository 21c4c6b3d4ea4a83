-- What looking for a message found: parts of the columns, which can be listed. Assumes nothing.
use mathlib.Core.Path.{◌≡◌, sym, ap, ◌∙◌, subst}
use mathlib.Core.Bool.{true}
use mathlib.Core.List.{List}
use Prim.Native.Nat.{ℕ, ◌-◌, ◌≤◌}
use native.Mathlib.Omega.{arith}
use lib.ListN.{length, drop, length-take}
use Rattle.books.specs.Words.{side_by_side, messages_taken_spec}
use Rattle.frames.specs.Lookup.{Spans, part}
use Rattle.messages.specs.Signals.{AllFit, message_from}
use Rattle.framing.proofs.Few.{few_signals}
use Rattle.record.specs.Columns.{numbers_of, starts_of}
use Rattle.listing.specs.Working.{Listable}

-- a part of a column
pub column_part : (from to : ℕ) {ns column words : List ℕ} → ns ≡ part from to column → column ≡ words → ns ≡ part from to words
column_part from to p e = p ∙ ap (part from to) e

-- parts of the columns that are a message's can be listed
pub listable : {words : List ℕ} {identifier from to : ℕ} → messages_taken_spec words ≡ true → Spans words identifier from to → {ns ss : List ℕ} → ns ≡ part from to (numbers_of words) → ss ≡ part from to (starts_of words)
    → {out : List ℕ} {at : ℕ} → at ≤ length out → Listable out at ns ss
listable {words} {identifier} {from} {to} t s {ns} {ss} x y h =
    let few = few_signals words identifier (message_from identifier (part from to (numbers_of words)) (part from to (starts_of words))) t s.found in
    record {
      same = ap length y ∙ s.same ∙ ap length (sym x);
      fit = subst (λ (l : List ℕ). AllFit (side_by_side l ss)) (sym x) (subst (λ (l : List ℕ). AllFit (side_by_side (part from to (numbers_of words)) l)) (sym y) s.fit);
      many = omega (arith, ap length x, length-take (to - from) (drop from (numbers_of words)), s.many, few);
      inside = h;
    }
