-- Packing as the code goes through it: one signal after another, until one is refused. proofs/Packs.antt says that this is what
-- crate `framing` calls judged and, on its working side, put. Assumes nothing: these are definitions.
use Rattle.std.specs.Prelude.{◌≡◌, cond, List, [], ◌∷◌, ℕ, ◌^◌, ◌≤◌, eqb, leb, length, Result, Ok, Err}
use Rattle.record.specs.Limits.{signal_limit}
use Rattle.bits.specs.Word as Word
use Rattle.books.specs.Book.{Placement, Message}
use Rattle.books.specs.Words.{side_by_side}
use Rattle.catalogue.specs.Find.{bits_of_spec}
use Rattle.catalogue.specs.Class.{class_of_spec}
use Rattle.framing.specs.declared.PackRefusal.{PackRefusal}
use Rattle.framing.specs.declared.PackRefusal.TheVariants.{TooWide, ReservedOrOutside}
use Rattle.framing.specs.Messages.{checksum_number}
use Rattle.framing.specs.Packing.{packable, judged_values, packed_or}
use Rattle.framing.specs.Putting.{put_frame}
use Rattle.messages.specs.Signals.{AllFit}

-- one value: 503 is skipped, 26 comes before 27
unfoldable pub put_one_spec : ℕ → Placement → ℕ → Result ℕ PackRefusal
put_one_spec w p v =
    cond (eqb p.number checksum_number) (Ok w)
    (cond (leb (2 ^ bits_of_spec p.number) v) (Err TooWide)
    (cond (packable (class_of_spec p.number (record { 0 = v }))) (Ok (Word.placed w p.start (bits_of_spec p.number) v))
    (Err ReservedOrOutside)))

-- one value after another, until one is refused
unfoldable pub put_all : Result ℕ PackRefusal → List Placement → List ℕ → Result ℕ PackRefusal
put_all put [] vs = put
put_all put (p ∷ ps) [] = put
put_all (Ok w) (p ∷ ps) (v ∷ vs) = put_all (put_one_spec w p v) ps vs
put_all (Err why) (p ∷ ps) (v ∷ vs) = Err why

-- as many values as placements, which lie within the frame and are no more than a book may have
pub record Packable (ns ss vs : List ℕ) : Type 0 where
  pub few : length ns ≤ signal_limit
  pub same : length ss ≡ length ns
  pub many : length vs ≡ length ns
  pub fit : AllFit (side_by_side ns ss)

-- values put into a frame of 8 bytes, as many as the message has placements, which need not lie apart
abbrev pub pack_into : Message → List ℕ → List ℕ → Result (Unit {0}) PackRefusal × List ℕ
pack_into m vs lent = (judged_values m.placements vs, packed_or (judged_values m.placements vs) (put_frame m vs) lent)
