-- What the signals of a book's last message fill, with each line that is taken. Assumes nothing.
use mathlib.Core.Path.{◌≡◌, sym, subst}
use mathlib.Core.List.{List, [], ◌∷◌, ◌++◌}
use Prim.Native.Nat.{ℕ, suc}
use Rattle.catalogue.specs.Find.{bits_of_spec}
use Rattle.books.specs.Book.{Placement, Message, Book, fresh, in_last, last_placements, with_signal}
use Rattle.books.specs.Lines.{signal_refusal}
use Rattle.books.specs.Words.{words_of}
use Rattle.books.proofs.Ends.{last_placements_law, last_longer}
use Rattle.placing.specs.declared.Filled.{Filled}
use Rattle.placing.specs.Filling.{Fills, FilledMore}
use Rattle.placing.proofs.Placing.{has_bits}
use Rattle.placing.proofs.Filling.{fills_none, fills_more}
use Rattle.std.specs.Prelude.{Ok, Err}
use Rattle.answers.specs.declared.Refusal.{Refusal}
use Rattle.answers.specs.Numbers.{number}
use Rattle.tables.specs.Adding.{Holds, SignalJudged}
use Rattle.tables.proofs.Refused.{stays, takes}
use Rattle.tables.proofs.Room.{signal_room}

-- a new message has no signals
pub fills_fresh : (ms : List Message) (i : ℕ) (f : Filled) → f.bits ≡ 0 → f.marks ≡ 0 → Fills (last_placements (ms ++ (fresh i ∷ []))) f
fills_fresh ms i f b m = subst (λ (ps : List Placement). Fills ps f) (sym (last_placements_law ms (fresh i))) (fills_none f b m)

-- a signal that is taken
pub fills_signal : (ms : List Message) (p : Placement) → signal_refusal ms p ≡ 0 → (f : Filled) → Fills (last_placements ms) f
    → (b : ℕ) → b ≡ bits_of_spec p.number → (g : Filled) → FilledMore f p.number p.start b g → Fills (last_placements (in_last ms p)) g
fills_signal ms p e f h b eb g m =
    let r = signal_room ms p e in
    subst (λ (ps : List Placement). Fills ps g) (sym (last_longer ms p r.some))
    (fills_more (last_placements ms) p f h (has_bits p r.alone) b eb g m)

module _ (b : Book) (p : Placement) (w : List ℕ) where
  pub signal_stays : (why : Refusal) (n : ℕ) → number why ≡ signal_refusal b.messages p → signal_refusal b.messages p ≡ suc n → Holds w b → SignalJudged b p (Err why) w
  signal_stays why n e f h = record { judged = stays _ w b (with_signal b p) (Err why) e n f h; fills = tt }

  pub signal_takes : (g : Filled) → signal_refusal b.messages p ≡ 0 → w ≡ words_of (with_signal b p) → Fills (last_placements (in_last b.messages p)) g → SignalJudged b p (Ok g) w
  signal_takes g f k h = record { judged = takes _ w b (with_signal b p) (Ok g) (sym f) f k; fills = h }
