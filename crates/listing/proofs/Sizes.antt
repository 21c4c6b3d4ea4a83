-- A listing fits its room, leaves the room as long as it was, and uses no more than its text. Assumes nothing.
use mathlib.Core.Path.{◌≡◌, refl, ap, ◌∙◌}
use mathlib.Core.Bool.{Bool, true, false, cond}
use mathlib.Core.List.{List, [], ◌∷◌}
use Prim.Native.Nat.{ℕ, ◌-◌, ◌≤◌}
use native.Mathlib.Omega.{arith}
use lib.Dec.{leb}
use lib.ListN.{length, drop, length-append, length-drop}
use borrow.Author.Tests.{leb-true}
use Rattle.books.specs.Words.{messages_of, messages_taken_spec}
use Rattle.framing.specs.Messages.{written}
use Rattle.parts.specs.Parts.{TextLine, ended, unended, lines}
use Rattle.signal_lines.specs.declared.figures.Figures.{Figures}
use Rattle.listing.specs.declared.Listed.{Listed}
use Rattle.listing.specs.declared.ListRefusal.{ListRefusal}
use Rattle.listing.specs.declared.ListRefusal.TheVariants.{NotABook}
use Rattle.std.specs.Prelude.{Result, Ok, Err}
use Rattle.listing.specs.Printout.{printout}
use Rattle.listing.specs.Listing.{no_lines_spec, line_then, lines_that_fit, listing_by, listing}
use Rattle.listing.proofs.Parted.{listing_parts}

fits_room : (print : List ℕ → List ℕ) (room : ℕ) (ls : List TextLine) → length (lines_that_fit print room ls).text ≤ room
unfolding lines_that_fit
fits_room print room [] = omega arith
fits_room print room (unended l ∷ ls) = omega arith
fits_room print room (ended l ∷ ls) = go (leb (length (print l)) room) refl (fits_room print (room - length (print l)) ls)
  where
    go : (b : Bool) → leb (length (print l)) room ≡ b → length (lines_that_fit print (room - length (print l)) ls).text ≤ room - length (print l)
        → length (cond b (line_then l (print l) (lines_that_fit print (room - length (print l)) ls)) no_lines_spec).text ≤ room
    go true e h = omega (arith, leb-true (length (print l)) room e, length-append (print l) (lines_that_fit print (room - length (print l)) ls).text)
    go false e h = omega arith

written_long : (text lent : List ℕ) → length text ≤ length lent → length (written text lent) ≡ length lent
written_long text lent h = omega (arith, length-append text (drop (length text) lent), length-drop (length text) lent)

listing_long : (figures : Figures) (words text lent : List ℕ) → length (listing figures words text lent).1 ≡ length lent
unfolding listing
listing_long figures words text lent = go (messages_taken_spec words)
  where
    go : (b : Bool) → length (cond {A = Result Listed ListRefusal × List ℕ} b (listing_by figures (messages_of words) text lent) (Err NotABook, lent)).1 ≡ length lent
    go true = written_long (lines_that_fit (printout figures (messages_of words)) (length lent) (lines text)).text lent (fits_room (printout figures (messages_of words)) (length lent) (lines text))
    go false = refl

-- what the call says of its room
pub list_long : (figures : Figures) (words text lent : List ℕ) {r : Result Listed ListRefusal} {new : List ℕ} → ◌≡◌ {A = Result Listed ListRefusal × List ℕ} (r, new) (listing figures words text lent) → length new ≡ length lent
list_long figures words text lent e = ap (λ (x : Result Listed ListRefusal × List ℕ). length x.1) e ∙ listing_long figures words text lent

-- what the call says of its text
pub list_used : (figures : Figures) (words text lent : List ℕ) {listed : Listed} {new : List ℕ} → ◌≡◌ {A = Result Listed ListRefusal × List ℕ} (Ok listed, new) (listing figures words text lent) → listed.used ≤ length text
unfolding listing
list_used figures words text lent {listed} e = go (messages_taken_spec words) (ap (λ (y : Result Listed ListRefusal × List ℕ). y.0) e)
  where
    go : (b : Bool) → Ok listed ≡ (cond {A = Result Listed ListRefusal × List ℕ} b (listing_by figures (messages_of words) text lent) (Err NotABook, lent)).0 → listed.used ≤ length text
    go true y = let z : listed ≡ record { used = (lines_that_fit (printout figures (messages_of words)) (length lent) (lines text)).used; written = length (lines_that_fit (printout figures (messages_of words)) (length lent) (lines text)).text } = cc in omega (arith, ap (λ (l : Listed). l.used) z, (listing_parts (printout figures (messages_of words)) (length lent) text).within)
    go false y = absurd (let z : ◌≡◌ {A = ℕ} 0 1 = cc in omega arith)
