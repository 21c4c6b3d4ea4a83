-- Reading a frame in numbers: what the call returns, with the three slices and *count as it leaves them. Assumes nothing.
use Rattle.std.specs.Prelude.{ℕ, List, ◌≡◌, ℤ, Result, Ok, Err}
use Rattle.framing.specs.declared.ReadRefusal.{ReadRefusal}
use Rattle.framing.specs.Reading.{Slices, reading_number, reading}

-- *count after the call: how many readings were written, or as it was
abbrev pub reading_count_after : Result ℕ ReadRefusal → ℕ → ℕ
reading_count_after (Ok readings) count = readings
reading_count_after (Err why) count = count

-- what is lent to a call for the readings, and left by it: the three slices, and *count
abbrev pub ReadingRoom : Type 0
ReadingRoom = Slices × ℕ

abbrev pub room_lent : List ℕ → List ℕ → List ℤ → ℕ → ReadingRoom
room_lent raws classes thousandths count = (record { raws = raws; classes = classes; thousandths = thousandths }, count)

abbrev pub unpacked_in_numbers : Result ℕ ReadRefusal → Slices → ℕ → ℕ × ReadingRoom
unpacked_in_numbers answer slices count = (reading_number answer, (slices, reading_count_after answer count))

-- the number and the room after a call
abbrev pub unpacked : List ℕ → ℕ → List ℕ → ReadingRoom → ℕ × ReadingRoom
unpacked words identifier frame room =
    unpacked_in_numbers (reading words identifier frame room.0).0 (reading words identifier frame room.0).1 room.1

-- pc_frame_read, with these words, identifier, frame and room, returns r and leaves the room so
abbrev pub FrameRead : List ℕ → ℕ → List ℕ → ReadingRoom → ℕ → ReadingRoom → Type 0
FrameRead words identifier frame room r after = (r, after) ≡ unpacked words identifier frame room
