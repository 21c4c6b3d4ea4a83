-- Lines that are each ended by a newline and of one kind, M or S, or R: the text is those lines, it is as long as those of M and S and those
-- of R together, and it is those one after the other where the R lines are last. Assumes nothing.
use mathlib.Core.Path.{◌≡◌, refl, sym, ap, ◌∙◌}
use mathlib.Core.Bool.{Bool, true, false, cond, true≢false}
use mathlib.Core.List.{List, [], ◌∷◌, ◌++◌, map}
use Prim.Native.Nat.{ℕ, ◌+◌}
use native.Mathlib.Omega.{arith}
use lib.ListN.{length, length-append}
use borrow.Author.Tests.{eqb-true}
use Rattle.lists.specs.Lists.{those}
use Rattle.parts.specs.Parts.{TextLine, newline, split, lines_of, lines}
use Rattle.parts.specs.Joined.{join, text_of_lines}
use Rattle.parts.proofs.Joins.{join_split, text_append}
use Rattle.line.specs.Meaning.{letter_r}
use Rattle.rewriting.specs.LineKinds.{line_bytes, text_lines, is_m_or_s_line, is_r_line, MSAndRLines, no_line, m_or_s_line, r_line, AllRLines, no_more, r_next, RoutesLast, r_lines, no_r_line}

-- ---- no line is of both kinds
pub r_only : (l : List ℕ) → is_r_line l ≡ true → is_m_or_s_line l ≡ false
unfolding is_r_line is_m_or_s_line
r_only [] e = refl
r_only (k ∷ l) e = rw (eqb-true k letter_r e)

pub m_or_s_only : (l : List ℕ) → is_m_or_s_line l ≡ true → is_r_line l ≡ false
m_or_s_only l e = go (is_r_line l) refl
  where
    go : (q : Bool) → is_r_line l ≡ q → q ≡ false
    go true f = absurd (true≢false (sym e ∙ r_only l f))
    go false f = refl

-- ---- the text is its lines, each with its newline
joined : (ps : List (List ℕ)) → MSAndRLines (lines_of ps) → join newline ps ≡ text_of_lines (map line_bytes (lines_of ps))
unfolding join lines_of text_of_lines
joined [] k = refl
joined ((_ ∷ _) ∷ []) k = elim k [ ]
joined ([] ∷ []) k = refl
joined (l ∷ p ∷ ps) (m_or_s_line e k) = ap (λ (t : List ℕ). l ++ newline ∷ t) (joined (p ∷ ps) k)
joined (l ∷ p ∷ ps) (r_line e k) = ap (λ (t : List ℕ). l ++ newline ∷ t) (joined (p ∷ ps) k)

pub whole : (text : List ℕ) → MSAndRLines (lines text) → text ≡ text_of_lines (text_lines text)
unfolding lines text_lines
whole text k = sym (join_split newline text) ∙ joined (split newline text) k

-- ---- how long it is
length_line : (l : List ℕ) (ls : List (List ℕ)) → length (text_of_lines (l ∷ ls)) ≡ length l + 1 + length (text_of_lines ls)
unfolding text_of_lines
length_line l ls = omega (arith, length-append l (newline ∷ text_of_lines ls))

length_sum : {ts : List TextLine} → MSAndRLines ts
    → length (text_of_lines (map line_bytes ts)) ≡ length (text_of_lines (those is_m_or_s_line (map line_bytes ts))) + length (text_of_lines (those is_r_line (map line_bytes ts)))
unfolding text_of_lines
length_sum no_line = refl
length_sum (m_or_s_line {l} {ls} e k) =
    rw (e, m_or_s_only l e) (omega (arith, length_sum k, length_line l (map line_bytes ls), length_line l (those is_m_or_s_line (map line_bytes ls))))
length_sum (r_line {l} {ls} e k) =
    rw (e, r_only l e) (omega (arith, length_sum k, length_line l (map line_bytes ls), length_line l (those is_r_line (map line_bytes ls))))

pub length_parted : {ts : List TextLine} → MSAndRLines ts
    → length (text_of_lines (those is_m_or_s_line (map line_bytes ts) ++ those is_r_line (map line_bytes ts))) ≡ length (text_of_lines (map line_bytes ts))
length_parted {ts} k =
    let ms = those is_m_or_s_line (map line_bytes ts) in
    let rs = those is_r_line (map line_bytes ts) in
    ap length (text_append ms rs) ∙ length-append (text_of_lines ms) (text_of_lines rs) ∙ sym (length_sum k)

-- ---- lines with the R lines last
none_of_m : {ls : List (List ℕ)} → AllRLines ls → those is_m_or_s_line ls ≡ []
none_of_m no_more = refl
none_of_m (r_next {l} e a) = rw (r_only l e) (none_of_m a)

all_of_r : {ls : List (List ℕ)} → AllRLines ls → those is_r_line ls ≡ ls
all_of_r no_more = refl
all_of_r (r_next {l} e a) = rw e (ap (◌∷◌ l) (all_of_r a))

all_r : {ls : List (List ℕ)} → AllRLines ls → those is_m_or_s_line ls ++ those is_r_line ls ≡ ls
all_r {ls} a = ap (λ (ms : List (List ℕ)). ms ++ those is_r_line ls) (none_of_m a) ∙ all_of_r a

pub last_parted : {ts : List TextLine} → MSAndRLines ts → RoutesLast (map line_bytes ts)
    → those is_m_or_s_line (map line_bytes ts) ++ those is_r_line (map line_bytes ts) ≡ map line_bytes ts
last_parted no_line r = refl
last_parted (m_or_s_line e k) (r_lines a) = all_r a
last_parted (m_or_s_line {l} e k) (no_r_line f r) = rw (e, m_or_s_only l e) (ap (◌∷◌ l) (last_parted k r))
last_parted (r_line e k) (r_lines a) = all_r a
last_parted (r_line {l} e k) (no_r_line f r) = absurd (true≢false (sym e ∙ f))

-- those of M and S, then those of R, have the R lines last
pub all_those : (ls : List (List ℕ)) → AllRLines (those is_r_line ls)
all_those [] = no_more
all_those (l ∷ ls) = go (is_r_line l) refl (all_those ls)
  where
    go : (q : Bool) → is_r_line l ≡ q → AllRLines (those is_r_line ls) → AllRLines (cond q (l ∷ those is_r_line ls) (those is_r_line ls))
    go true e a = r_next e a
    go false e a = a

pub parted_last : (ls : List (List ℕ)) {ms : List (List ℕ)} → AllRLines ms → RoutesLast (those is_m_or_s_line ls ++ ms)
parted_last [] a = r_lines a
parted_last (l ∷ ls) {ms} a = go (is_m_or_s_line l) refl (parted_last ls a)
  where
    go : (q : Bool) → is_m_or_s_line l ≡ q → RoutesLast (those is_m_or_s_line ls ++ ms) → RoutesLast (cond q (l ∷ those is_m_or_s_line ls) (those is_m_or_s_line ls) ++ ms)
    go true e r = no_r_line (m_or_s_only l e) r
    go false e r = r
