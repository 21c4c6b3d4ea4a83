-- A text parted after some of its whole lines: what those print, followed by what is left, whatever comes after it, is what the whole
-- prints; and how one call parts its text. Assumes nothing.
use mathlib.Core.Path.{◌≡◌, refl, sym, ap, ◌∙◌, subst}
use mathlib.Core.Bool.{Bool, true, false, cond}
use mathlib.Core.List.{List, [], ◌∷◌, ◌++◌, append_assoc, append-nil, map}
use Prim.Native.Nat.{ℕ, ◌+◌, ◌-◌, ◌≤◌, ◌<◌}
use native.Mathlib.Omega.{arith}
use lib.Dec.{leb}
use lib.ListN.{length, drop, length-append}
use lib.Seq.{drop-append_seam}
use borrow.Author.Tests.{leb-true, leb-false}
use Rattle.parts.specs.Parts.{TextLine, ended, newline, split, lines_of, lines}
use Rattle.parts.specs.Joined.{text_of_lines, Lacks, AllLack, no_part, part}
use Rattle.parts.proofs.Joins.{split_free, text_append}
use Rattle.listing.specs.Listing.{ListedLines, no_lines_spec, line_then, lines_that_fit}
use Rattle.listing.specs.Together.{whole_lines, unfinished, printouts, whole_listing}
use Rattle.listing.proofs.WholeLines.{lines_after, whole_after, unfinished_after, none_whole, text_is, lines_free, rest_free, none_ended}

printouts_append : (print : List ℕ → List ℕ) (a b : List (List ℕ)) → printouts print (a ++ b) ≡ printouts print a ++ printouts print b
unfolding printouts
printouts_append print [] b = refl
printouts_append print (l ∷ a) b = ap (λ (t : List ℕ). print l ++ t) (printouts_append print a b) ∙ sym (append_assoc (print l) (printouts print a) (printouts print b))

frees_append : {a b : List (List ℕ)} → AllLack newline a → AllLack newline b → AllLack newline (a ++ b)
frees_append no_part q = q
frees_append (part f fs) q = part f (frees_append fs q)

frees_split : (a b : List (List ℕ)) → AllLack newline (a ++ b) → AllLack newline a × AllLack newline b
frees_split [] b q = (no_part, q)
frees_split (l ∷ a) b (part f fs) = let r = frees_split a b fs in (part f r.0, r.1)

-- ---- a text parted after some of its whole lines

pub record Parted (print : List ℕ → List ℕ) (text printed left : List ℕ) : Type 0 where
  pub first : List (List ℕ)
  pub frees : AllLack newline first
  pub there : text ≡ text_of_lines first ++ left
  pub prints : printed ≡ printouts print first

pub parted_nowhere : (print : List ℕ → List ℕ) (text : List ℕ) → Parted print text [] text
unfolding text_of_lines printouts
parted_nowhere print text = record { first = []; frees = no_part; there = refl; prints = refl }

module _ {print : List ℕ → List ℕ} {text printed left : List ℕ} (p : Parted print text printed left) where
  pub parted_again : {more rest : List ℕ} → Parted print left more rest → Parted print text (printed ++ more) rest
  parted_again {more} {rest} q =
      record {
        first = p.first ++ q.first;
        frees = frees_append p.frees q.frees;
        there =
            p.there ∙ ap (λ (t : List ℕ). text_of_lines p.first ++ t) q.there
            ∙ sym (append_assoc (text_of_lines p.first) (text_of_lines q.first) rest)
            ∙ ap (λ (t : List ℕ). t ++ rest) (sym (text_append p.first q.first));
        prints =
            ap (λ (t : List ℕ). t ++ more) p.prints ∙ ap (λ (t : List ℕ). printouts print p.first ++ t) q.prints
            ∙ sym (printouts_append print p.first q.first);
      }

  -- whatever comes after it
  pub parted_before : (b : List ℕ) → printed ++ whole_listing print (left ++ b) ≡ whole_listing print (text ++ b)
  parted_before b =
      ap (λ (t : List ℕ). t ++ whole_listing print (left ++ b)) p.prints
      ∙ sym (printouts_append print p.first (whole_lines (left ++ b)))
      ∙ ap (printouts print) (sym (whole_after p.frees (left ++ b)))
      ∙ ap (whole_listing print) (sym (append_assoc (text_of_lines p.first) left b) ∙ ap (λ (t : List ℕ). t ++ b) (sym p.there))

  pub parted : printed ++ whole_listing print left ≡ whole_listing print text
  parted =
      ap (λ (t : List ℕ). printed ++ whole_listing print t) (sym (append-nil left)) ∙ parted_before []
      ∙ ap (whole_listing print) (append-nil text)

  -- where no whole line is left
  module _ (h : whole_lines left ≡ []) where
    pub all_printed : printed ≡ whole_listing print text
    unfolding printouts
    all_printed = sym (append-nil printed) ∙ ap (λ (ls : List (List ℕ)). printed ++ printouts print ls) (sym h) ∙ parted

    pub rest_left : left ≡ unfinished text
    rest_left = none_ended left h ∙ sym (unfinished_after p.frees left) ∙ ap unfinished (sym p.there)

-- a text parted after all of them
pub parted_whole : (print : List ℕ → List ℕ) (text : List ℕ) → Parted print text (whole_listing print text) (unfinished text)
parted_whole print text = record { first = whole_lines text; frees = lines_free text; there = text_is text; prints = refl }

-- ---- how one call parts its text

-- as many of the lines as fit, each in what the ones before it leave of the room
record Fit (print : List ℕ → List ℕ) (room : ℕ) (ls : List (List ℕ)) (listed : ListedLines) : Type 0 where
  first : List (List ℕ)
  after : List (List ℕ)
  both : ls ≡ first ++ after
  bytes : listed.used ≡ length (text_of_lines first)
  prints : listed.text ≡ printouts print first
  stops : (l : List ℕ) (more : List (List ℕ)) → after ≡ l ∷ more → room < length listed.text + length (print l)

none_fit : (print : List ℕ → List ℕ) (n : ℕ) (rest : List ℕ) → Lacks newline rest → lines_that_fit print n (lines rest) ≡ no_lines_spec
unfolding lines_that_fit lines lines_of split
none_fit print n [] f = refl
none_fit print n (b ∷ t) f = rw (split_free newline (b ∷ t) f)

fit : (print : List ℕ → List ℕ) (room : ℕ) (ls : List (List ℕ)) (rest : List ℕ) → Lacks newline rest → Fit print room ls (lines_that_fit print room (map ended ls ++ lines rest))
unfolding lines_that_fit text_of_lines printouts
fit print room [] rest f =
    subst (Fit print room []) (sym (none_fit print room rest f))
    (record { first = []; after = []; both = refl; bytes = refl; prints = refl; stops = λ l more e. absurd (let z : ◌≡◌ {A = ℕ} 0 1 = cc in omega arith) })
fit print room (l ∷ ls) rest f = go (leb (length (print l)) room) refl (fit print (room - length (print l)) ls rest f)
  where
    listed : ListedLines
    listed = lines_that_fit print (room - length (print l)) (map ended ls ++ lines rest)

    go : (b : Bool) → leb (length (print l)) room ≡ b → Fit print (room - length (print l)) ls listed → Fit print room (l ∷ ls) (cond b (line_then l (print l) listed) no_lines_spec)
    go true e x =
        record {
          first = l ∷ x.first;
          after = x.after;
          both = ap (◌∷◌ l) x.both;
          bytes = omega (arith, x.bytes, length-append l (newline ∷ text_of_lines x.first));
          prints = ap (λ (t : List ℕ). print l ++ t) x.prints;
          stops = λ m more q. omega (arith, x.stops m more q, leb-true (length (print l)) room e, length-append (print l) listed.text);
        }
    go false e x =
        record {
          first = [];
          after = l ∷ ls;
          both = refl;
          bytes = refl;
          prints = refl;
          stops = λ m more q. let s : l ≡ m = cc in omega (arith, leb-false (length (print l)) room e, ap (λ (k : List ℕ). length (print k)) s);
        }

-- what a call lists, and why it stops: the next whole line's printout does not fit what is left of the room
pub record PartedBy (print : List ℕ → List ℕ) (room : ℕ) (text : List ℕ) (listed : ListedLines) : Type 0 where
  pub within : listed.used ≤ length text
  pub parts : Parted print text listed.text (drop listed.used text)
  pub stops : (l : List ℕ) (more : List (List ℕ)) → whole_lines (drop listed.used text) ≡ l ∷ more → room < length listed.text + length (print l)

pub listing_parts : (print : List ℕ → List ℕ) (room : ℕ) (text : List ℕ) → PartedBy print room text (lines_that_fit print room (lines text))
listing_parts print room text = go (subst (λ (ls : List TextLine). Fit print room (whole_lines text) (lines_that_fit print room ls)) (sym in_text) (fit print room (whole_lines text) (unfinished text) (rest_free text)))
  where
    in_text : lines text ≡ map ended (whole_lines text) ++ lines (unfinished text)
    in_text = ap lines (text_is text) ∙ lines_after (lines_free text) (unfinished text)

    go : {listed : ListedLines} → Fit print room (whole_lines text) listed → PartedBy print room text listed
    go {listed} x =
        let free = frees_split x.first x.after (subst (AllLack newline) x.both (lines_free text)) in
        let there : text ≡ text_of_lines x.first ++ (text_of_lines x.after ++ unfinished text) =
        text_is text
        ∙ ap (λ (ls : List (List ℕ)). text_of_lines ls ++ unfinished text) x.both
        ∙ ap (λ (t : List ℕ). t ++ unfinished text) (text_append x.first x.after)
        ∙ append_assoc (text_of_lines x.first) (text_of_lines x.after) (unfinished text) in
        let left : drop listed.used text ≡ text_of_lines x.after ++ unfinished text =
        ap (λ (n : ℕ). drop n text) x.bytes
        ∙ ap (drop (length (text_of_lines x.first))) there
        ∙ drop-append_seam (text_of_lines x.first) (text_of_lines x.after ++ unfinished text) in
        let whole : whole_lines (drop listed.used text) ≡ x.after =
        ap whole_lines left
        ∙ whole_after free.1 (unfinished text)
        ∙ ap (λ (ls : List (List ℕ)). x.after ++ ls) (none_whole (unfinished text) (rest_free text))
        ∙ append-nil x.after in
        record {
          within = omega (arith, x.bytes, ap length there, length-append (text_of_lines x.first) (text_of_lines x.after ++ unfinished text));
          parts = record { first = x.first; frees = free.0; there = there ∙ ap (λ (t : List ℕ). text_of_lines x.first ++ t) (sym left); prints = x.prints };
          stops = λ l more e. x.stops l more (sym whole ∙ e);
        }
