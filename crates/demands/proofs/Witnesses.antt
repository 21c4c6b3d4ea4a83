-- What the reader answers to four texts: document 01's book is taken with 1, 2 and 2 lines, with its sixth line it is refused with 10 on
-- line 4, a repeated R line with 11, and two R lines from one place are taken. So no one verdict serves for everything. Assumes nothing.
use mathlib.Core.Path.{◌≡◌, refl, ap}
use mathlib.Core.Bool.{Bool, false}
use Prim.Native.Nat.{ℕ, zero, suc, ◌<◌}
use native.Mathlib.Omega.{arith}
use mathlib.Core.List.Memᴰ
use mathlib.Core.List.{List, [], ◌∷◌}
use Rattle.record.specs.Columns.{empty_book}
use Rattle.record.specs.Place.{place_key}
use Rattle.numerals.specs.Numeral.{digit_value, numeral_from, identifier, needless_zero, decimal}
use Rattle.parts.specs.Parts.{lines, lines_of, split, on_first}
use Rattle.line.specs.Meaning.{meaning_of, line_meaning, of_fields, of_kind, of_message, of_signal, of_route}
use Rattle.rows.specs.Rows.{rows}
use Rattle.catalogue.specs.Find.{row_of, bits_of_spec}
use Rattle.chains.specs.Chain.{OnClosed, BeginsDoubling, LoopFree, IsSound}
use Rattle.chains.specs.Tests.{FirstPassing}
use Rattle.chains.proofs.Reach.{reach}
use Rattle.chains.proofs.Loops.{comes_back_spec}
use Rattle.chains.proofs.Tests.{comes_to, meet_again, fork, begins}
use Rattle.verdict.specs.Verdicts.{Lowest}
use Rattle.verdict.proofs.Once.{no_loop, no_doubling}
use Rattle.answers.specs.Numbers.{Said, taken, refused}
use Rattle.books.specs.Book.{all_placements, last_placements, in_last}
use Rattle.books.specs.Lines.{is_in, unknown_or_over, misplaced, meets, meets_earlier, message_refusal, signal_refusal, after_refusal, route_refusal}
use Rattle.books.specs.Words.{words_of}
use Rattle.reading.specs.Reading.{passed, onward, read_from, refusal_of, with_line, numbered_with, meanings, lines_read}
use Rattle.book.specs.Answered.{Answered, closed_chain, two_chains, taken_with}
use Rattle.book.proofs.Once.{answered_once}
use Rattle.demands.specs.Examples.{first_text, loop_text, doubling_text, fork_text, first_book, loop_book, doubling_book, fork_book}
use Rattle.demands.specs.Loops.{LinesPass, RefusedWith, IsTaken}

-- the three places of the books: 18FF21F3 on buses 0 and 1, 18FF21D0 on bus 2
abbrev a : ℕ
a = place_key 0 419373555

abbrev b : ℕ
b = place_key 1 419373555

abbrev c : ℕ
c = place_key 2 419373520

-- a test that none of the first two passes has no first
none_of_two : (P : ℕ → Bool) → P 0 ≡ false → P 1 ≡ false → FirstPassing P 2 2
none_of_two P x y = record { within = omega arith; before = at; found = λ l. absurd (omega arith) }
  where
    at : (k : ℕ) → k < 2 → P k ≡ false
    at zero l = x
    at (suc zero) l = y
    at (suc (suc k)) l = absurd (omega arith)

-- document 01's book: two routes, one after the other
first_sound : IsSound (a ∷ b ∷ []) (b ∷ c ∷ [])
unfolding reach comes_to meet_again fork begins
first_sound =
    let free = no_loop (a ∷ b ∷ []) (b ∷ c ∷ []) 2 (none_of_two (comes_back_spec (a ∷ b ∷ []) (b ∷ c ∷ [])) refl refl) (omega arith) in
    no_doubling (a ∷ b ∷ []) (b ∷ c ∷ []) free 2 (none_of_two (begins (a ∷ b ∷ []) (b ∷ c ∷ [])) refl refl) (omega arith)

-- the lines of all four pass
reads : (lines_read first_text ≡ passed first_book (4 ∷ 5 ∷ [])) × (lines_read loop_text ≡ passed loop_book (4 ∷ 5 ∷ 6 ∷ [])) × (lines_read doubling_text ≡ passed doubling_book (1 ∷ 2 ∷ [])) × (lines_read fork_text ≡ passed fork_book (1 ∷ 2 ∷ []))
unfolding lines_read read_from meanings lines lines_of split on_first meaning_of line_meaning of_fields of_kind of_message of_signal of_route identifier decimal numeral_from digit_value needless_zero refusal_of onward message_refusal signal_refusal after_refusal route_refusal with_line numbered_with is_in unknown_or_over misplaced meets meets_earlier bits_of_spec row_of rows last_placements all_placements in_last
reads = (refl, refl, refl, refl)

-- "prints `ok 1 2 2`"
pub ok_1_2_2 : Answered first_text (taken 1 2 2) (words_of first_book)
unfolding all_placements
ok_1_2_2 = taken_with (record { short = omega arith; at = 4 ∷ 5 ∷ []; read = reads.0; sound = first_sound })

-- "With `R 2 18FF21D0 0 18FF21F3` as a sixth line it prints `no 10 4`."
on_loop : Lowest (OnClosed (a ∷ b ∷ c ∷ []) (b ∷ c ∷ a ∷ [])) 0
on_loop = ((a, (0 ∷ 1 ∷ 2 ∷ []), (omega arith, refl, (omega arith, refl, (omega arith, refl, refl))), Memᴰ.head refl), λ k l x. absurd (omega arith))

pub no_10_4 : Answered loop_text (refused 10 4) empty_book
no_10_4 = closed_chain (record { short = omega arith; read = reads.1 }) on_loop

-- a repeated R line
free_twice : LoopFree (a ∷ a ∷ []) (b ∷ b ∷ [])
unfolding reach
free_twice = no_loop (a ∷ a ∷ []) (b ∷ b ∷ []) 2 (none_of_two (comes_back_spec (a ∷ a ∷ []) (b ∷ b ∷ [])) refl refl) (omega arith)

begins_two : Lowest (BeginsDoubling (a ∷ a ∷ []) (b ∷ b ∷ [])) 0
begins_two = (
  (a, b, [], (1 ∷ []), record { one = (omega arith, refl, refl); other = (omega arith, refl, refl); different = λ e. (let z : ◌≡◌ {A = ℕ} 0 1 = cc in omega arith) }),
  λ k l x. absurd (omega arith),
)

pub no_11_1 : Answered doubling_text (refused 11 1) empty_book
no_11_1 = two_chains (record { short = omega arith; read = reads.2 }) free_twice begins_two

-- two R lines from one place
fork_sound : IsSound (a ∷ a ∷ []) (b ∷ c ∷ [])
unfolding reach comes_to meet_again fork begins
fork_sound =
    let free = no_loop (a ∷ a ∷ []) (b ∷ c ∷ []) 2 (none_of_two (comes_back_spec (a ∷ a ∷ []) (b ∷ c ∷ [])) refl refl) (omega arith) in
    no_doubling (a ∷ a ∷ []) (b ∷ c ∷ []) free 2 (none_of_two (begins (a ∷ a ∷ []) (b ∷ c ∷ [])) refl refl) (omega arith)

pub ok_0_0_2 : Answered fork_text (taken 0 0 2) (words_of fork_book)
unfolding all_placements
ok_0_0_2 = taken_with (record { short = omega arith; at = 1 ∷ 2 ∷ []; read = reads.3; sound = fork_sound })

-- ONE VERDICT FOR EVERYTHING does not serve: a reader that refuses every text whose lines pass with one number, and one that takes each of
-- them, do not meet the contract
said_of : {text : List ℕ} {s t : Said} {v w : List ℕ} → Answered text s v → Answered text t w → s ≡ t
said_of x y = ap (λ (p : Said × List ℕ). p.0) (answered_once x y)

pub one_refusal : (why : ℕ) → ((text : List ℕ) → LinesPass text → (s : Said) × (w : List ℕ) × Answered text s w × RefusedWith why s) → ⊥
one_refusal why all =
    let x = all first_text (record { book = first_book; at = 4 ∷ 5 ∷ []; passes = record { short = omega arith; read = reads.0 } }) in
    let e = said_of ok_1_2_2 x.2 in
    let f = x.3.is in
    (let z : ◌≡◌ {A = ℕ} 0 1 = cc (e, f) in omega arith)

pub all_taken : ((text : List ℕ) → LinesPass text → (s : Said) × (w : List ℕ) × Answered text s w × IsTaken s) → ⊥
all_taken all =
    let x = all loop_text (record { book = loop_book; at = 4 ∷ 5 ∷ 6 ∷ []; passes = record { short = omega arith; read = reads.1 } }) in
    let e = said_of no_10_4 x.2 in
    let f = x.3.is in
    (let z : ◌≡◌ {A = ℕ} 0 1 = cc (e, f) in omega arith)

-- nor one number for every text that is refused for its routes
pub one_for_routes : (why : ℕ) → ((s : Said) (w : List ℕ) → Answered loop_text s w → RefusedWith why s) → ((s : Said) (w : List ℕ) → Answered doubling_text s w → RefusedWith why s) → ⊥
one_for_routes why loop doubling =
    let e = (loop (refused 10 4) empty_book no_10_4).is in
    let f = (doubling (refused 11 1) empty_book no_11_1).is in
    (let z : ◌≡◌ {A = ℕ} 10 11 = cc (e, f) in omega arith)
