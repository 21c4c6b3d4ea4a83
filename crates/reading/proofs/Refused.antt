-- A text's lines are refused with one of 2 to 9: what holds of these numbers holds of the refusal. Assumes nothing.
use mathlib.Core.Path.{◌≡◌, refl, subst}
use mathlib.Core.Bool.{Bool, true, false, cond, ◌||◌}
use mathlib.Core.List.{List, [], ◌∷◌}
use Prim.Native.Nat.{ℕ, zero, suc}
use native.Mathlib.Omega.{arith}
use lib.Dec.{eqb, leb}
use lib.ListN.{length}
use Rattle.line.specs.declared.Line.{Line}
use Rattle.line.specs.declared.Line.TheVariants as line
use Rattle.books.specs.Book.{Book, Placement, no_book, identifiers, numbers, all_placements, last_placements}
use Rattle.books.specs.Lines.{is_in, unknown_or_over, misplaced, meets_earlier, message_refusal, after_refusal, signal_refusal, route_refusal, identifier_limit, bus_limit, message_limit, signal_limit, route_limit}
use Rattle.reading.specs.Reading.{refused, onward, refusal_of, with_line, numbered_with, read_from, meanings, lines_read}

module _ (P : ℕ → Type 0) where
  -- a number is 0, or P holds of it
  abbrev Or0 : ℕ → Type 0
  Or0 n = (k : ℕ) → n ≡ suc k → P (suc k)

  none : Or0 0
  none k e = absurd (omega arith)

  or : (t : Bool) (why later : ℕ) → P why → Or0 later → Or0 (cond t why later)
  or true why later h f k e = subst P e h
  or false why later h f k e = f k e

  module _ (p2 : P 2) (p3 : P 3) (p4 : P 4) (p5 : P 5) (p6 : P 6) (p7 : P 7) (p8 : P 8) (p9 : P 9) where
    of_line : (b : Book) (l : Line) → Or0 (refusal_of b l)
    unfolding refusal_of message_refusal signal_refusal after_refusal route_refusal
    of_line b (line.Message i) =
        or (leb identifier_limit i) 3 _ p3 (or (is_in i (identifiers b.messages)) 5 _ p5 (or (leb message_limit (length b.messages)) 9 0 p9 none))
    of_line b (line.Signal n s) =
        let p : Placement = record { number = n; start = s } in
        or (unknown_or_over p) 3 _ p3
        (or (eqb (length b.messages) 0) 4 _ p4
        (or (is_in n (numbers (last_placements b.messages))) 6 _ p6
        (or (misplaced p) 7 _ p7
        (or (meets_earlier (last_placements b.messages) p) 8 _ p8
        (or (leb signal_limit (length (all_placements b.messages))) 9 0 p9 none)))))
    of_line b (line.Route x i y j) =
        or ((leb bus_limit x || leb identifier_limit i) || (leb bus_limit y || leb identifier_limit j)) 3 _ p3 (or (leb route_limit (length b.routes)) 9 0 p9 none)
    of_line b line.IllFormed = or true 2 0 p2 none

    of_lines : (n : ℕ) (b : Book) (at : List ℕ) (ls : List Line) (why m : ℕ) → read_from n b at ls ≡ refused why m → P why
    unfolding read_from onward
    of_lines n b at [] why m e = absurd (let z : ◌≡◌ {A = ℕ} 0 1 = cc in omega arith)
    of_lines n b at (l ∷ ls) why m e = by (refusal_of b l) refl e (of_lines (suc n) (with_line b l) (numbered_with at n l) ls why m)
      where
        by : (k : ℕ) → refusal_of b l ≡ k → onward k n (read_from (suc n) (with_line b l) (numbered_with at n l) ls) ≡ refused why m
            → (read_from (suc n) (with_line b l) (numbered_with at n l) ls ≡ refused why m → P why) → P why
        by zero q f later = later f
        by (suc k) q f later = let z : suc k ≡ why = cc in subst P z (of_line b l k q)

    pub text_refused : (text : List ℕ) (why n : ℕ) → lines_read text ≡ refused why n → P why
    unfolding lines_read
    text_refused text why n e = of_lines 1 no_book [] (meanings text) why n e
