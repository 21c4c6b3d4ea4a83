-- Document 02, P2, of the numbers of the highest cell: "Every pack maker we've asked sends 705 and 706 like their lowest-cell twins, with
-- no offset. [..] Both rows become offset 0, raw 1 to 255, and raw 0 is outside. [..] Refusals: packing raw 0 in them is now 27, raw 255 no
-- longer is." Assumes nothing: these are definitions.
use Rattle.std.specs.Prelude.{◌≡◌, true, List, ℕ, suc, ◌*◌, ◌≤◌, ◌<◌, pos, Float, length, get_or, take, drop, Ok, Err}
use Rattle.std.proofs.Math.Option.{some}
use Rattle.bits.specs.Frame.{frame_bytes}
use Rattle.books.specs.Book.{Message}
use Rattle.books.specs.Words.{messages_of, messages_taken_spec}
use Rattle.catalogue.specs.declared.Raw.{Raw}
use Rattle.catalogue.specs.declared.Class.TheVariants.{Value, Outside}
use Rattle.catalogue.specs.Class.{class_of_spec}
use Rattle.framing.specs.declared.PackRefusal.TheVariants.{ReservedOrOutside}
use Rattle.framing.specs.Messages.{message_with}
use Rattle.framing.specs.Packing.{judged_values, packing}
use Rattle.framing.specs.Demand.{placement_at}
use Rattle.doubles.specs.Doubles.{IsWhole}
use Rattle.dash.specs.declared.Dash.TheVariants as dash
use Rattle.dash.specs.Answer.{dash_of}

abbrev pub raw_count : ℕ → Raw
raw_count n = record { 0 = n }

-- a signal is read like another: the CSC of the highest cell, 705, like that of the lowest, 703, and the cell itself, 706, like 702
abbrev pub ReadLike : ℕ → ℕ → Type 0
ReadLike number twin = (raw : Raw) → class_of_spec number raw ≡ class_of_spec twin raw

-- the packer comes to the i-th value, which is the signal's: nothing was refused before
pub record ComesTo (number : ℕ) (words : List ℕ) (identifier : ℕ) (vs lent : List ℕ) (m : Message) (i : ℕ) : Type 0 where
  pub taken : messages_taken_spec words ≡ true
  pub found : message_with identifier (messages_of words) ≡ some m
  pub many : length vs ≡ length m.placements
  pub eight : length lent ≡ frame_bytes
  pub within : i < length vs
  pub signal : (placement_at m i).number ≡ number
  pub before : judged_values (take i m.placements) (take i vs) ≡ Ok tt

-- offset 0, raw 1 to 255: what is read, shown and packed
pub record CountsFromOne (number : ℕ) : Type 0 where
  -- raw 0 is outside, for the dash too
  pub zero_outside : class_of_spec number (raw_count 0) ≡ Ok (Outside (raw_count 0))
  pub zero_shown : dash_of number (raw_count 0) ≡ Ok dash.Outside
  -- raw 1 to 255 are values, and read as what they are
  pub reads : (n : ℕ) → 1 ≤ n → n ≤ 255 → class_of_spec number (raw_count n) ≡ Ok (Value (record { 0 = pos (n * 1000) }))
  pub shows : (n : ℕ) → 1 ≤ n → n ≤ 255 → (x : Float) × ((dash_of number (raw_count n) ≡ Ok (dash.Value x)) × IsWhole x (pos n))
  -- raw 0 is refused with 27, and the frame stays as lent
  pub zero_refused : (words : List ℕ) (identifier : ℕ) (vs lent : List ℕ) (m : Message) (i : ℕ) → ComesTo number words identifier vs lent m i
      → get_or vs i 0 ≡ 0 → packing words identifier vs lent ≡ (Err ReservedOrOutside, lent)
  -- raw 1 to 255 is not: the values behind it decide
  pub sent : (words : List ℕ) (identifier : ℕ) (vs lent : List ℕ) (m : Message) (i : ℕ) → ComesTo number words identifier vs lent m i
      → 1 ≤ get_or vs i 0 → get_or vs i 0 ≤ 255 → (packing words identifier vs lent).0 ≡ judged_values (drop (suc i) m.placements) (drop (suc i) vs)
