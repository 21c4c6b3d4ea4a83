-- What packing leaves where it does not refuse is the one frame that carries the values. Assumes nothing.
use mathlib.Core.Path.{◌≡◌}
use mathlib.Core.List.{List}
use Prim.Native.Nat.{ℕ}
use Rattle.books.specs.Words.{messages_of}
use Rattle.books.proofs.Columns.{taken_stands}
use Rattle.framing.specs.Packing.{packed_frame, packing, packing_number}
use Rattle.framing.specs.Demand.{PackedBy}
use Rattle.framing.proofs.WellPlaced.{sound_message}
use Rattle.framing.proofs.PackedOnce.{packed_once}
use Rattle.framing.proofs.Putting.{accepted}
use Rattle.framing.proofs.FrameSent.{is_packed}
use Rattle.framing.proofs.Answers.{packed_was, was_packed}

-- for every book, identifier and values that the packer does not refuse
pub packed_by : (words : List ℕ) (identifier : ℕ) (vs lent : List ℕ) → packing_number (packing words identifier vs lent).0 ≡ 0
    → PackedBy words identifier vs (packing words identifier vs lent).1
packed_by words identifier vs lent e =
    let w = packed_was words identifier vs lent e in
    let m = w.0 in
    let p = w.1 in
    let sound = sound_message identifier (messages_of words) m (taken_stands words p.taken).1 p.found in
    let packed = is_packed m vs sound (accepted m.placements vs p.many p.good) in
    rw (was_packed words identifier vs lent m p)
    (record {
      message = m;
      found = p.found;
      packed = packed;
      only = λ other o. packed_once m vs other (packed_frame m vs) sound p.many o packed;
    })
