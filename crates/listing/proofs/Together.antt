-- Listings put together: what calls print, followed by what the rest of the text prints, is what the whole text prints; so calls that
-- leave no whole line print and leave what one call with room enough does. Assumes nothing.
use mathlib.Core.Path.{◌≡◌, refl, sym, ap, ◌∙◌, subst}
use mathlib.Core.Bool.{Bool, true, false, cond}
use mathlib.Core.List.{List, [], ◌∷◌, ◌++◌}
use Prim.Native.Nat.{ℕ, ◌+◌, ◌≤◌, ◌<◌}
use native.Mathlib.Omega.{arith}
use lib.ListN.{length, take, drop, length-append}
use lib.Seq.{take-append_seam}
use Rattle.books.specs.Words.{messages_of, messages_taken_spec}
use Rattle.parts.specs.Parts.{lines}
use Rattle.signal_lines.specs.declared.figures.Figures.{Figures}
use Rattle.listing.specs.declared.Listed.{Listed}
use Rattle.listing.specs.declared.ListRefusal.{ListRefusal}
use Rattle.listing.specs.declared.ListRefusal.TheVariants.{NotABook}
use Rattle.std.specs.Prelude.{Result, Ok, Err}
use Rattle.listing.specs.Printout.{printout}
use Rattle.listing.specs.Listing.{lines_that_fit, listing_by, listing}
use Rattle.listing.specs.Together.{whole_lines, unfinished, printouts, whole_listing, printed_by, left_by, calls}
use Rattle.listing.proofs.Parted.{Parted, parted_nowhere, parted_again, parted_before, parted, all_printed, rest_left, parted_whole, listing_parts}

-- ---- one call

module _ (figures : Figures) (words text lent : List ℕ) where
  -- what stands at the front of the room is what was listed
  front : take (length (lines_that_fit (printout figures (messages_of words)) (length lent) (lines text)).text) (listing_by figures (messages_of words) text lent).1 ≡ (lines_that_fit (printout figures (messages_of words)) (length lent) (lines text)).text
  front = take-append_seam (lines_that_fit (printout figures (messages_of words)) (length lent) (lines text)).text _

  pub call_parts : Parted (printout figures (messages_of words)) text (printed_by (listing figures words text lent).0 (listing figures words text lent).1) (left_by (listing figures words text lent).0 text)
  unfolding listing
  call_parts = go (messages_taken_spec words)
    where
      go : (b : Bool) → let answer = cond {A = Result Listed ListRefusal × List ℕ} b (listing_by figures (messages_of words) text lent) (Err NotABook, lent) in Parted (printout figures (messages_of words)) text (printed_by answer.0 answer.1) (left_by answer.0 text)
      go true = subst (λ (t : List ℕ). Parted (printout figures (messages_of words)) text t (drop (lines_that_fit (printout figures (messages_of words)) (length lent) (lines text)).used text)) (sym front) (listing_parts (printout figures (messages_of words)) (length lent) text).parts
      go false = parted_nowhere (printout figures (messages_of words)) text

  -- a call by a taken book stops only where the next whole line's printout does not fit what is left of its room
  pub call_stops : messages_taken_spec words ≡ true → (l : List ℕ) (more : List (List ℕ)) → whole_lines (left_by (listing figures words text lent).0 text) ≡ l ∷ more
      → length lent < length (printed_by (listing figures words text lent).0 (listing figures words text lent).1) + length (printout figures (messages_of words) l)
  unfolding listing
  call_stops t = go (messages_taken_spec words) t
    where
      go : (b : Bool) → b ≡ true → let answer = cond {A = Result Listed ListRefusal × List ℕ} b (listing_by figures (messages_of words) text lent) (Err NotABook, lent) in
          (l : List ℕ) (more : List (List ℕ)) → whole_lines (left_by answer.0 text) ≡ l ∷ more → length lent < length (printed_by answer.0 answer.1) + length (printout figures (messages_of words) l)
      go true e l more q = omega (arith, (listing_parts (printout figures (messages_of words)) (length lent) text).stops l more q, ap length front)
      go false e l more q = absurd (let z : ◌≡◌ {A = ℕ} 0 1 = cc in omega arith)

  -- what it wrote, followed by what the rest of its text prints, is what the text prints
  pub one_call : (listed : Listed) (out : List ℕ) → ◌≡◌ {A = Result Listed ListRefusal × List ℕ} (Ok listed, out) (listing figures words text lent)
      → take listed.written out ++ whole_listing (printout figures (messages_of words)) (drop listed.used text) ≡ whole_listing (printout figures (messages_of words)) text
  one_call listed out e =
      ap (λ (x : Result Listed ListRefusal × List ℕ). printed_by x.0 x.1 ++ whole_listing (printout figures (messages_of words)) (left_by x.0 text)) e ∙ parted call_parts

-- ---- successive calls

module _ (figures : Figures) (words : List ℕ) where
  calls_part : (rooms : List (List ℕ)) (text : List ℕ) → Parted (printout figures (messages_of words)) text (calls figures words rooms text).printed (calls figures words rooms text).left
  unfolding calls
  calls_part [] text = parted_nowhere (printout figures (messages_of words)) text
  calls_part (lent ∷ rooms) text = parted_again (call_parts figures words text lent) (calls_part rooms (left_by (listing figures words text lent).0 text))

  module _ (rooms : List (List ℕ)) (text : List ℕ) where
    pub calls_together : (calls figures words rooms text).printed ++ whole_listing (printout figures (messages_of words)) (calls figures words rooms text).left ≡ whole_listing (printout figures (messages_of words)) text
    calls_together = parted (calls_part rooms text)

    -- more may be read before the next call: it comes after what was left
    pub calls_before : (more : List ℕ) → (calls figures words rooms text).printed ++ whole_listing (printout figures (messages_of words)) ((calls figures words rooms text).left ++ more) ≡ whole_listing (printout figures (messages_of words)) (text ++ more)
    calls_before more = parted_before (calls_part rooms text) more

    -- calls that leave no whole line have printed them all, and leave the bytes after the last newline
    module _ (h : whole_lines (calls figures words rooms text).left ≡ []) where
      pub calls_print : (calls figures words rooms text).printed ≡ whole_listing (printout figures (messages_of words)) text
      calls_print = all_printed (calls_part rooms text) h

      pub calls_leave : (calls figures words rooms text).left ≡ unfinished text
      calls_leave = rest_left (calls_part rooms text) h

-- ---- one call with room enough

module _ (figures : Figures) (words text lent : List ℕ) (t : messages_taken_spec words ≡ true) (enough : length (whole_listing (printout figures (messages_of words)) text) ≤ length lent) where
  pub leaves_none : whole_lines (left_by (listing figures words text lent).0 text) ≡ []
  unfolding printouts
  leaves_none = go (whole_lines (left_by (listing figures words text lent).0 text)) refl
    where
      go : (ls : List (List ℕ)) → whole_lines (left_by (listing figures words text lent).0 text) ≡ ls → ls ≡ []
      go [] e = refl
      go (l ∷ ls) e =
          let printed = printed_by (listing figures words text lent).0 (listing figures words text lent).1 in
          let long = ap length (ap (λ (x : List (List ℕ)). printed ++ printouts (printout figures (messages_of words)) x) (sym e) ∙ parted (call_parts figures words text lent)) in
          absurd
          (omega (arith, call_stops figures words text lent t l ls e, long, length-append printed (printout figures (messages_of words) l ++ printouts (printout figures (messages_of words)) ls), length-append (printout figures (messages_of words) l) (printouts (printout figures (messages_of words)) ls)))

  -- calls that leave no whole line print and leave what that one call does
  pub as_one_call : (rooms : List (List ℕ)) → whole_lines (calls figures words rooms text).left ≡ [] → calls figures words rooms text ≡ calls figures words (lent ∷ []) text
  unfolding calls
  as_one_call rooms h =
      let printed = calls_print figures words rooms text h ∙ sym (calls_print figures words (lent ∷ []) text all) in
      let left = calls_leave figures words rooms text h ∙ sym (calls_leave figures words (lent ∷ []) text all) in
      λ i. record { printed = printed i; left = left i }
    where
      all : whole_lines (calls figures words (lent ∷ []) text).left ≡ []
      all = leaves_none

-- ---- a text that is cut anywhere

-- the whole lines of the first part, and then its unfinished line joined with the second part
pub cut_anywhere : (print : List ℕ → List ℕ) (a b : List ℕ) → whole_listing print (a ++ b) ≡ whole_listing print a ++ whole_listing print (unfinished a ++ b)
cut_anywhere print a b = sym (parted_before (parted_whole print a) b)
