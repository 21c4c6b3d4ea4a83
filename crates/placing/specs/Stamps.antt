-- Stamps on the places of the catalogue's signals, by which a message's own are told again: how the test of a message works, and no
-- promise. The two signals that have a start of their own are told by that start: their places have a stamp above that of every
-- message, which stays. Assumes nothing: these are definitions.
use Rattle.std.specs.Prelude.{◌≡◌, Bool, true, false, cond, ◌||◌, List, [], ◌∷◌, ◌++◌, ℕ, ◌<◌, eqb, length, get_or, set}
use Rattle.catalogue.specs.Places.{place_of, no_place_spec, checksum_place, counter_place}
use Rattle.books.specs.Book.{Placement}
use Rattle.books.specs.Fixed.{checksum_start, counter_start}
use Rattle.books.specs.Lines.{is_in}
use Rattle.books.specs.Good.{fits_after, good_after}

-- the place is that of a signal with a start of its own
abbrev pub fixed_place : ℕ → Bool
fixed_place p = eqb p checksum_place || eqb p counter_place

-- and this is the start
abbrev pub at_fixed_start : ℕ → ℕ → Bool
at_fixed_start p s = cond (eqb p checksum_place) (eqb s checksum_start) (cond (eqb p counter_place) (eqb s counter_start) false)

-- the stamp on these two places
abbrev pub fixed_stamp : ℕ
fixed_stamp = 255

-- each place has a stamp: these two have theirs, and all others are below s
pub record Below (stamps : List ℕ) (s : ℕ) : Type 0 where
  pub each : length stamps ≡ no_place_spec
  pub fixed : (p : ℕ) → fixed_place p ≡ true → get_or stamps p 0 ≡ fixed_stamp
  pub below : (p : ℕ) → fixed_place p ≡ false → get_or stamps p 0 < s

-- of the signals that have no start of their own, the stamp s is on the places of these, and on no other's
abbrev pub Stamped : List ℕ → ℕ → List ℕ → Type 0
Stamped stamps s ns = (n : ℕ) → place_of n < no_place_spec → fixed_place (place_of n) ≡ false → eqb (get_or stamps (place_of n) 0) s ≡ is_in n ns

-- the stamps with s on a place, unless it is one of the two
abbrev pub stamped_at : List ℕ → ℕ → ℕ → List ℕ
stamped_at stamps p s = cond (fixed_place p) stamps (set stamps p s)

-- the stamp s on the place of each signal that fits after those before it, up to the first that does not
unfoldable pub stamped_after : List Placement → List Placement → ℕ → List ℕ → List ℕ
stamped_after before [] s stamps = stamps
stamped_after before (p ∷ ps) s stamps = cond (fits_after before p) (stamped_after (before ++ (p ∷ [])) ps s (stamped_at stamps (place_of p.number) s)) stamps

-- whether all signals of a message fit, and the stamps then
abbrev pub stamped_test : List Placement → ℕ → List ℕ → Bool × List ℕ
stamped_test ps s stamps = (good_after [] ps, stamped_after [] ps s stamps)
