-- What the lister's loop over a text leaves of it. Assumes nothing: these are definitions.
use Rattle.std.specs.Prelude.{◌≡◌, true, List, [], ℕ, ◌≤◌, length, drop}
use Rattle.books.specs.Words.{messages_taken_spec}
use Rattle.listing.specs.Together.{whole_lines, longest_printout}

-- so many bytes of the text were listed; by a taken book, with room for the longest printout, no whole line is left
pub record WholeUsed (words text room : List ℕ) (used : ℕ) : Type 0 where
  pub within : used ≤ length text
  pub none_left : messages_taken_spec words ≡ true → longest_printout ≤ length room → whole_lines (drop used text) ≡ []
