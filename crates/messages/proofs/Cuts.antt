-- What is cut for a placement, of a frame's word or of a value. Assumes nothing.
use mathlib.Core.Path.{◌≡◌, sym, ap, ◌∙◌}
use mathlib.Core.Bool.{true, false}
use Prim.Native.Nat.{ℕ, ◌%◌, ◌^◌, ◌<◌}
use lib.Dec.{leb}
use lib.IntN.{ℤ}
use borrow.Author.Tests.{le-leb, lt-leb}
use Rattle.bits.specs.Word.{Fits, field_of}
use Rattle.bits.proofs.Placing.{low_field}
use Rattle.books.specs.Book.{Placement}
use Rattle.catalogue.specs.Find.{bits_of_spec}
use Rattle.catalogue.specs.Class.{class_of_spec}
use Rattle.catalogue.specs.Cut.{cut_of_spec}
use Rattle.catalogue.proofs.Classing.{whole_below, part_above, cut_count, cut_class}
use Rattle.messages.specs.Signals.{raw_in, class_from}

-- of the window of a frame's word that begins at the placement's start: its count there, and the class of that
module _ (word : ℕ) (p : Placement) (f : Fits p.start (bits_of_spec p.number)) (window : ℕ) (e : window ≡ field_of word p.start 32) where
  own : window % 2 ^ bits_of_spec p.number ≡ raw_in word p
  own = ap (λ (n : ℕ). n % 2 ^ bits_of_spec p.number) e ∙ low_field word p.start (bits_of_spec p.number) f.most

  pub count_there : (cut_of_spec p.number window).raw.0 ≡ raw_in word p
  count_there = cut_count p.number window f.some ∙ own

  pub class_there : (cut_of_spec p.number window).class ≡ class_from word p
  class_there = cut_class p.number window f.some ∙ ap (λ (n : ℕ). class_of_spec p.number (record { 0 = n })) own

-- of a value: it is too wide just where it is not the count
module _ (n v : ℕ) (h : 0 < bits_of_spec n) where
  pub more_wide : ((cut_of_spec n v).raw.0 ≡ v → ⊥) → leb (2 ^ bits_of_spec n) v ≡ true
  more_wide e = le-leb (2 ^ bits_of_spec n) v (part_above (bits_of_spec n) v (λ w. e (cut_count n v h ∙ w)))

  pub count_narrow : (cut_of_spec n v).raw.0 ≡ v → v < 2 ^ bits_of_spec n
  count_narrow e = whole_below (bits_of_spec n) v (sym (cut_count n v h) ∙ e)

  pub not_wide : (cut_of_spec n v).raw.0 ≡ v → leb (2 ^ bits_of_spec n) v ≡ false
  not_wide e = lt-leb (2 ^ bits_of_spec n) v (count_narrow e)

-- the four numbers of what was cut, one by one
module _ {r : ℤ} {b n c : ℕ} {four : ℤ × (ℕ × (ℕ × ℕ))} (e : ◌≡◌ {A = ℤ × (ℕ × (ℕ × ℕ))} (r, (b, (n, c))) four) where
  pub its_reading : r ≡ four.0
  its_reading = ap (λ (x : ℤ × (ℕ × (ℕ × ℕ))). x.0) e

  pub its_bits : b ≡ four.1.0
  its_bits = ap (λ (x : ℤ × (ℕ × (ℕ × ℕ))). x.1.0) e

  pub its_count : n ≡ four.1.1.0
  its_count = ap (λ (x : ℤ × (ℕ × (ℕ × ℕ))). x.1.1.0) e

  pub its_code : c ≡ four.1.1.1
  its_code = ap (λ (x : ℤ × (ℕ × (ℕ × ℕ))). x.1.1.1) e
