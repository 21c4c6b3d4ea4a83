-- The frame bits of a placed signal: "A signal at start s has its weight 2^j at frame bit s + j." Bits of two signals meet where a frame
-- bit belongs to both. Assumes nothing: these are definitions.
use Rattle.std.specs.Prelude.{◌≡◌, Bool, true, false, ◌&&◌, ◌||◌, List, [], ◌∷◌, ℕ, ◌+◌, ◌<◌, leb, ltb}
use Rattle.catalogue.specs.Find.{bits_of_spec}
use Rattle.books.specs.Book.{Placement}

-- frame bit k is one of so many from a start on
unfoldable pub in_run : ℕ → ℕ → ℕ → Bool
in_run start bits k = leb start k && ltb k (start + bits)

-- frame bit k belongs to the signal
abbrev pub bit_belongs : Placement → ℕ → Bool
bit_belongs p k = in_run p.start (bits_of_spec p.number) k

-- or to one of several
unfoldable pub covers : List Placement → ℕ → Bool
covers [] k = false
covers (q ∷ qs) k = bit_belongs q k || covers qs k

-- some frame bit belongs to both signals
abbrev pub SharesBit : Placement → Placement → Type 0
SharesBit p q = (k : ℕ) × (bit_belongs p k ≡ true) × (bit_belongs q k ≡ true)

-- some frame bit belongs to the signal and to one of those before it
abbrev pub SharesEarlier : List Placement → Placement → Type 0
SharesEarlier qs p = (k : ℕ) × (covers qs k ≡ true) × (bit_belongs p k ≡ true)

-- each of the signals has at least one bit
pub data HaveBits : List Placement → Type 0 where
  none : HaveBits []
  more : {q : Placement} {qs : List Placement} → 0 < bits_of_spec q.number → HaveBits qs → HaveBits (q ∷ qs)
