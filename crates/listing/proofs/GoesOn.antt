-- A call by a taken book goes on while 4,096 bytes of its room are left: it stops only where no whole line is left or less than that is
-- left of its room, so successive calls with so much room each list all whole lines. Assumes nothing.
use mathlib.Core.Path.{◌≡◌, refl, sym, ap, ◌∙◌}
use mathlib.Core.Bool.{true}
use mathlib.Core.Logic.{◌⊎◌, inl, inr, ⊎_elim}
use mathlib.Core.List.{List, [], ◌∷◌, ◌++◌}
use Prim.Native.Nat.{ℕ, suc, ◌+◌, ◌≤◌, ◌<◌}
use native.Mathlib.Omega.{arith}
use lib.ListN.{length, get_or, drop, length-append}
use Rattle.books.specs.Words.{messages_of, messages_taken_spec}
use Rattle.signal_lines.specs.declared.figures.Figures.{Figures}
use Rattle.listing.specs.declared.Listed.{Listed}
use Rattle.listing.specs.declared.ListRefusal.{ListRefusal}
use Rattle.std.specs.Prelude.{Result, Ok}
use Rattle.listing.specs.Printout.{printout}
use Rattle.listing.specs.Listing.{listing}
use Rattle.listing.specs.Together.{whole_lines, unfinished, printouts, whole_listing, printed_by, left_by, calls, longest_printout}
use Rattle.listing.proofs.WholeLines.{whole_after}
use Rattle.listing.proofs.Together.{call_parts, call_stops, calls_print, calls_leave}
use Rattle.listing.proofs.Longest.{printout_short}

module _ (figures : Figures) (words text lent : List ℕ) (t : messages_taken_spec words ≡ true) where
  -- where it stops
  pub goes_on : (whole_lines (left_by (listing figures words text lent).0 text) ≡ [])
      ⊎ (length lent < length (printed_by (listing figures words text lent).0 (listing figures words text lent).1) + longest_printout)
  goes_on = go (whole_lines (left_by (listing figures words text lent).0 text)) refl
    where
      go : (ls : List (List ℕ)) → whole_lines (left_by (listing figures words text lent).0 text) ≡ ls
          → (ls ≡ []) ⊎ (length lent < length (printed_by (listing figures words text lent).0 (listing figures words text lent).1) + longest_printout)
      go [] e = inl refl
      go (l ∷ ls) e = inr (omega (arith, call_stops figures words text lent t l ls e, printout_short figures words t l))

  -- with so much room it takes a line, where there is one
  module _ (h : longest_printout ≤ length lent) where
    fewer : (whole_lines (left_by (listing figures words text lent).0 text) ≡ []) ⊎ (length (whole_lines (left_by (listing figures words text lent).0 text)) < length (whole_lines text))
    unfolding printouts
    fewer = go (call_parts figures words text lent).first refl
      where
        go : (ls : List (List ℕ)) → (call_parts figures words text lent).first ≡ ls
            → (whole_lines (left_by (listing figures words text lent).0 text) ≡ []) ⊎ (length (whole_lines (left_by (listing figures words text lent).0 text)) < length (whole_lines text))
        go [] e =
            let p = call_parts figures words text lent in
            ⊎_elim inl (λ stop. absurd (omega (arith, stop, ap length (p.prints ∙ ap (printouts (printout figures (messages_of words))) e)))) goes_on
        go (l ∷ ls) e =
            let p = call_parts figures words text lent in
            let left = left_by (listing figures words text lent).0 text in
            inr (omega (arith, ap length (ap whole_lines p.there ∙ whole_after p.frees left ∙ ap (λ (x : List (List ℕ)). x ++ whole_lines left) e), length-append ls (whole_lines left)))

    pub takes_a_line : (listed : Listed) (out : List ℕ) → ◌≡◌ {A = Result Listed ListRefusal × List ℕ} (Ok listed, out) (listing figures words text lent) → listed.used ≡ 0 → whole_lines text ≡ []
    takes_a_line listed out e z =
        let same : whole_lines text ≡ whole_lines (left_by (listing figures words text lent).0 text) =
        ap (λ (n : ℕ). whole_lines (drop n text)) (sym z) ∙ ap (λ (x : Result Listed ListRefusal × List ℕ). whole_lines (left_by x.0 text)) e in
        ⊎_elim (λ none. same ∙ none) (λ less. absurd (omega (arith, less, ap length same))) fewer

no_lines : (ls : List (List ℕ)) → length ls ≤ 0 → ls ≡ []
no_lines [] h = refl
no_lines (l ∷ ls) h = absurd (omega arith)

-- as many calls as there are whole lines, each with so much room, leave none
pub none_left : (figures : Figures) (words : List ℕ) → messages_taken_spec words ≡ true → (rooms : List (List ℕ)) → ((i : ℕ) → i < length rooms → longest_printout ≤ length (get_or rooms i []))
    → (text : List ℕ) → length (whole_lines text) ≤ length rooms → whole_lines (calls figures words rooms text).left ≡ []
unfolding calls
none_left figures words t [] room text h = no_lines (whole_lines text) h
none_left figures words t (lent ∷ rooms) room text h =
    let left = left_by (listing figures words text lent).0 text in
    let few : length (whole_lines left) ≤ length rooms =
    ⊎_elim (λ none. omega (arith, ap length none)) (λ less. omega (arith, less)) (fewer figures words text lent t (room 0 (omega arith))) in
    none_left figures words t rooms (λ i l. room (suc i) (omega arith)) left few

-- so they print what the whole lines print, and leave the bytes after the last newline
pub all_listed : (figures : Figures) (words : List ℕ) → messages_taken_spec words ≡ true → (rooms : List (List ℕ)) → ((i : ℕ) → i < length rooms → longest_printout ≤ length (get_or rooms i []))
    → (text : List ℕ) → length (whole_lines text) ≤ length rooms
    → calls figures words rooms text ≡ record { printed = whole_listing (printout figures (messages_of words)) text; left = unfinished text }
all_listed figures words t rooms room text h =
    let none = none_left figures words t rooms room text h in
    λ i. record { printed = calls_print figures words rooms text none i; left = calls_leave figures words rooms text none i }
