-- Demand 2, first half: what the packer accepts reads back, with no refusal, as the same raw counts, apart from 503.
-- Assumes nothing.
use mathlib.Core.Path.{◌≡◌, refl, ◌∙◌}
use mathlib.Core.Bool.{Bool, true, false, ◌||◌, not}
use mathlib.Core.List.{List, [], ◌∷◌, ◌++◌, map}
use Prim.Native.Nat.{ℕ, zero, suc, ◌≤◌, ◌<◌}
use native.Mathlib.Nat.{not-suc-le-zero, le_of_suc-le-suc}
use native.Mathlib.Omega.{arith}
use lib.Dec.{eqb}
use lib.ListN.{length, get_or, drop, length-map, get_or-append}
use borrow.Author.Tests.{eq-eqb}
use Rattle.bits.specs.Frame.{count_at}
use Rattle.bits.specs.Checksum.{checksum_of}
use Rattle.books.specs.Book.{Placement, Message}
use Rattle.books.specs.Words.{messages_of}
use Rattle.books.proofs.Columns.{taken_stands}
use Rattle.framing.specs.Messages.{checksum_number, checksum_start, checksum_bits, places_checksum, count_of}
use Rattle.framing.specs.Reading.{Slices, checksum_holds, room, reading}
use Rattle.framing.specs.Packing.{packing, packing_number, packed_frame}
use Rattle.framing.specs.Packed.{CarriesValues}
use Rattle.framing.specs.Demand.{SameCounts, ReadsBack}
use Rattle.framing.proofs.WellPlaced.{WellPlaced, sound_message}
use Rattle.framing.proofs.Putting.{Accepted, accepted}
use Rattle.framing.proofs.FrameSent.{is_packed, own_checksum}
use Rattle.framing.proofs.Answers.{WasRead, was_read, WasPacked, packed_was, was_packed}

-- a frame that has its own checksum where the message places one passes the check
holds : (m : Message) (frame : List ℕ) → (places_checksum m.placements ≡ true → count_at frame checksum_start checksum_bits ≡ checksum_of m.identifier frame) → checksum_holds m frame ≡ true
unfolding checksum_holds
holds m frame h = go (places_checksum m.placements) refl
  where
    go : (b : Bool) → places_checksum m.placements ≡ b → not b || eqb (count_at frame checksum_start checksum_bits) (checksum_of m.identifier frame) ≡ true
    go true e = eq-eqb _ _ (h e)
    go false e = refl

-- what a frame carries stands among its counts
pub carried_at : (frame : List ℕ) (ps : List Placement) (vs : List ℕ) (d : Placement) → CarriesValues frame ps vs → length vs ≡ length ps
    → (i : ℕ) → i < length vs → ((get_or ps i d).number ≡ checksum_number → ⊥) → get_or (map (λ (p : Placement). count_of frame p) ps) i 0 ≡ get_or vs i 0
unfolding CarriesValues
carried_at frame ps [] d c n i h k = absurd (not-suc-le-zero h)
carried_at frame [] (v ∷ vs) d c n i h k = absurd (omega arith)
carried_at frame (p ∷ ps) (v ∷ vs) d c n zero h k = c.0 k
carried_at frame (p ∷ ps) (v ∷ vs) d c n (suc i) h k = carried_at frame ps vs d c.1 (omega arith) i (le_of_suc-le-suc h) k

module _ (words : List ℕ) (identifier : ℕ) (vs lent : List ℕ) (m : Message) (p : WasPacked words identifier vs lent m) where
  sound : WellPlaced m.placements
  sound = sound_message identifier (messages_of words) m (taken_stands words p.taken).1 p.found

  fine : Accepted m.placements vs
  fine = accepted m.placements vs p.many p.good

  reads : (slices : Slices) → length vs ≤ room slices → WasRead words identifier (packed_frame m vs) slices m
  reads slices h =
      record {
        taken = p.taken;
        eight = (is_packed m vs sound fine).bytes;
        found = p.found;
        checked = holds m (packed_frame m vs) (own_checksum m vs sound fine);
        roomy = omega (arith, p.many);
      }

  abbrev Counts : List ℕ
  Counts = map (λ (q : Placement). count_of (packed_frame m vs) q) m.placements

  in_front : (rest : List ℕ) (i : ℕ) → i < length vs → get_or (Counts ++ rest) i 0 ≡ get_or Counts i 0
  in_front rest i h = get_or-append Counts rest 0 i (omega (arith, p.many, length-map m.placements (λ (q : Placement). count_of (packed_frame m vs) q)))

  same : (slices : Slices) → length vs ≤ room slices → SameCounts m vs (reading words identifier (packed_frame m vs) slices)
  same slices h =
      rw (was_read words identifier (packed_frame m vs) slices m (reads slices h))
      (record {
        answer = rw p.many refl;
        counts = λ i b k.
            in_front (drop (length Counts) slices.raws) i b
            ∙ carried_at (packed_frame m vs) m.placements vs _ (is_packed m vs sound fine).counts p.many i b k;
      })

-- for every book, identifier and values that the packer does not refuse
pub reads_back : (words : List ℕ) (identifier : ℕ) (vs lent : List ℕ) → packing_number (packing words identifier vs lent).0 ≡ 0
    → ReadsBack words identifier vs (packing words identifier vs lent).1
reads_back words identifier vs lent e =
    let w = packed_was words identifier vs lent e in
    let m = w.0 in
    let p = w.1 in
    rw (was_packed words identifier vs lent m p) (record { message = m; found = p.found; reads = same words identifier vs lent m p })
