-- `messages::packing::put_one` meets its contract: at each `return` the tests that led there say which case holds.
-- Assumes nothing.
use Rattle.std.specs.Prelude.{Ok}
use mathlib.Core.Path.{sym, ap, ◌∙◌, subst⁻¹}
use Prim.Native.Nat.{ℕ, ◌^◌, ◌<◌}
use Rattle.bits.specs.Word.{Fits, placed}
use Rattle.catalogue.specs.Class.{class_of_spec}
use Rattle.catalogue.proofs.Classing.{class_cut, cut_bits}
use Rattle.framing.specs.Reading.{class_code}
use Rattle.messages.proofs.Cuts.{more_wide, count_narrow, not_wide, its_bits, its_count, its_code}
use Rattle.messages.proofs.Packs.{fine_code, barred_code, put_skips, put_wide, put_fine, put_barred}
use Rattle.messages.proofs.packing.put_one.Goals as goal

pub returns-then-number-eq-CHECKSUM : goal.returns-then-number-eq-CHECKSUM
returns-then-number-eq-CHECKSUM c = put_skips c.args.word (record { number = c.args.number; start = c.args.start }) c.args.value c.if-number-eq-CHECKSUM.true

pub returns-then-count-value : goal.returns-then-count-value
returns-then-count-value c =
    let cut = c.cut_numbers.ensures in
    let a = c.args in
    let some = c.requires.some in
    let wide = more_wide a.number a.value some (λ e. c.if-count-value.true (its_count cut ∙ e)) in
    put_wide a.word (record { number = a.number; start = a.start }) a.value c.if-number-eq-CHECKSUM.false wide

pub returns-then-code-ge-RESERVED : goal.returns-then-code-ge-RESERVED
returns-then-code-ge-RESERVED c =
    let cut = c.cut_numbers.ensures in
    let a = c.args in
    let some = c.requires.some in
    let whole = sym (its_count cut) ∙ c.if-count-value.false in
    let code = its_code cut ∙ ap class_code (class_cut a.number a.value whole) in
    put_barred a.word (record { number = a.number; start = a.start }) a.value c.if-number-eq-CHECKSUM.false (not_wide a.number a.value some whole) (barred_code (class_of_spec a.number (record { 0 = a.value })) code c.if-code-ge-RESERVED.true)

pub place-requires : goal.place-requires
place-requires c =
    let cut = c.cut_numbers.ensures in
    let a = c.args in
    let some = c.requires.some in
    let bits = its_bits cut ∙ cut_bits a.number a.value in
    (subst⁻¹ (λ (b : ℕ). Fits a.start b) bits c.requires, subst⁻¹ (λ (b : ℕ). a.value < 2 ^ b) bits (count_narrow a.number a.value some (sym (its_count cut) ∙ c.if-count-value.false)))

pub returns : goal.returns
returns c =
    let cut = c.cut_numbers.ensures in
    let a = c.args in
    let some = c.requires.some in
    let bits = its_bits cut ∙ cut_bits a.number a.value in
    let whole = sym (its_count cut) ∙ c.if-count-value.false in
    let code = its_code cut ∙ ap class_code (class_cut a.number a.value whole) in
    ap Ok (c.place.ensures ∙ ap (λ (b : ℕ). placed a.word a.start b a.value) bits)
    ∙ put_fine a.word (record { number = a.number; start = a.start }) a.value c.if-number-eq-CHECKSUM.false (not_wide a.number a.value some whole) (fine_code (class_of_spec a.number (record { 0 = a.value })) code c.if-code-ge-RESERVED.false)
