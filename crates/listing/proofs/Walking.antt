-- The lines of a message's signals, one signal at a time: writing what is left gives the final list. Assumes nothing.
use mathlib.Core.Path.{◌≡◌, refl, sym, ap, ◌∙◌}
use mathlib.Core.List.{List, [], ◌++◌}
use Prim.Native.Nat.{ℕ, ◌+◌, ◌*◌, ◌≤◌, ◌<◌}
use native.Mathlib.Omega.{arith}
use lib.ListN.{length, get_or, length-append}
use lib.Seq.{sets}
use Rattle.bits.specs.Word.{Fits}
use Rattle.books.specs.Words.{side_by_side}
use Rattle.std.specs.Prelude.{Result}
use Rattle.catalogue.specs.declared.Class.{Class}
use Rattle.catalogue.specs.declared.NoClass.{NoClass}
use Rattle.catalogue.specs.Find.{bits_of_spec}
use Rattle.messages.specs.Signals.{AllFit, class_from}
use Rattle.messages.proofs.Steps.{placement_at, rest, rest_more, rest_none, fits_at, fits_on}
use Rattle.printing.specs.Put.{PutWithin}
use Rattle.printing.proofs.Puts.{sets_append, put_length}
use Rattle.signal_lines.specs.declared.figures.Figures.{Figures}
use Rattle.signal_lines.specs.Printed.{reading_line, listed_line_room}
use Rattle.listing.specs.Working.{word_lines, Roomy}

pub record Walked (old : List ℕ) (at : ℕ) (figures : Figures) (identifier word : ℕ) (ns ss out : List ℕ) (next i : ℕ) : Type 0 where
  pub there : sets out next (word_lines figures identifier word (rest ns ss i)) ≡ sets old at (word_lines figures identifier word (side_by_side ns ss))
  pub end : next + length (word_lines figures identifier word (rest ns ss i)) ≡ at + length (word_lines figures identifier word (side_by_side ns ss))
  pub room : next ≤ at + listed_line_room * i
  pub size : length out ≡ length old
  pub within : i ≤ length ns
  pub fit : AllFit (rest ns ss i)

pub none_walked : (old : List ℕ) (at : ℕ) (figures : Figures) (identifier word : ℕ) (ns ss : List ℕ) → Roomy old at ns ss → Walked old at figures identifier word ns ss old at 0
none_walked old at figures identifier word ns ss r =
    record { there = refl; end = refl; room = omega arith; size = refl; within = omega arith; fit = r.fit }

module _ {old : List ℕ} {at : ℕ} {figures : Figures} {identifier word : ℕ} {ns ss out : List ℕ} {next i : ℕ} (w : Walked old at figures identifier word ns ss out next i) where
  -- one signal more
  module _ (r : Roomy old at ns ss) (h : i < length ns) {class : Result Class NoClass} (c : class ≡ class_from word (placement_at ns ss i)) where
    lines : word_lines figures identifier word (rest ns ss i) ≡ reading_line figures identifier (get_or ns i 0) class ++ word_lines figures identifier word (rest ns ss (i + 1))
    unfolding word_lines
    lines =
        ap (word_lines figures identifier word) (rest_more ns ss i h r.same)
        ∙ ap (λ (k : Result Class NoClass). reading_line figures identifier (get_or ns i 0) k ++ word_lines figures identifier word (rest ns ss (i + 1))) (sym c)

    pub signal_walked : {new : List ℕ} {next' : ℕ} → PutWithin out next listed_line_room (reading_line figures identifier (get_or ns i 0) class) new next'
        → Walked old at figures identifier word ns ss new next' (i + 1)
    signal_walked {new} {next'} p =
        let line = reading_line figures identifier (get_or ns i 0) class in
        let left = word_lines figures identifier word (rest ns ss (i + 1)) in
        record {
          there =
              ap (λ (l : List ℕ). sets l next' left) p.put.now_there
              ∙ ap (λ (n : ℕ). sets (sets out next line) n left) p.put.now_at
              ∙ sets_append out next line left
              ∙ ap (sets out next) (sym lines)
              ∙ w.there;
          end = omega (arith, p.put.now_at, ap length lines, length-append line left, w.end);
          room = omega (arith, p.put.now_at, p.short, w.room);
          size = put_length p.put ∙ w.size;
          within = omega arith;
          fit = fits_on ns ss i h r.same w.fit;
        }

  pub all_walked : length ns ≤ i → PutWithin old at (listed_line_room * length ns) (word_lines figures identifier word (side_by_side ns ss)) out next
  unfolding word_lines
  all_walked h =
      let none : word_lines figures identifier word (rest ns ss i) ≡ [] = ap (word_lines figures identifier word) (rest_none ns ss i h) in
      record {
        put = record { now_there = ap (sets out next) (sym none) ∙ w.there; now_at = omega (arith, ap length none, w.end) };
        short = omega (arith, ap length none, w.end, w.room, w.within);
      }

-- room for one line more
pub room_left : {old : List ℕ} {at : ℕ} {figures : Figures} {identifier word : ℕ} {ns ss out : List ℕ} {next i : ℕ} → Walked old at figures identifier word ns ss out next i
    → Roomy old at ns ss → i < length ns → next + listed_line_room ≤ length out
room_left w r h = omega (arith, w.room, w.size, r.inside)

pub fits_next : {old : List ℕ} {at : ℕ} {figures : Figures} {identifier word : ℕ} {ns ss out : List ℕ} {next i : ℕ} → Walked old at figures identifier word ns ss out next i
    → Roomy old at ns ss → i < length ns → Fits (get_or ss i 0) (bits_of_spec (get_or ns i 0))
fits_next {ns = ns} {ss = ss} {i = i} w r h = fits_at ns ss i h r.same w.fit
