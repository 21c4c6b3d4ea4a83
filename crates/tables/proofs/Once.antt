-- What an addition's contract allows is one answer and one content of the words, and that it does allow. Assumes nothing.
use mathlib.Core.Path.{◌≡◌, refl, sym, ap, ◌∙◌}
use mathlib.Core.Bool.{Bool, true, false, cond, ◌||◌}
use mathlib.Core.List.{List}
use Prim.Native.Nat.{ℕ}
use native.Mathlib.Omega.{arith}
use lib.Dec.{eqb, leb}
use lib.ListN.{length}
use Rattle.answers.specs.declared.Refusal.{Refusal}
use Rattle.answers.specs.declared.Refusal.TheVariants as refusal
use Rattle.answers.specs.Numbers.{number}
use Rattle.answers.proofs.Numbered.{above_0, number_once}
use Rattle.books.specs.Book.{Placement, Message, Route, Book, identifiers, numbers, all_placements, last_placements, with_signal}
use Rattle.books.specs.Lines.{is_in, unknown_or_over, misplaced, meets_earlier, message_refusal, after_refusal, signal_refusal, route_refusal, message_limit, signal_limit, route_limit, identifier_limit, bus_limit}
use Rattle.books.specs.Words.{words_of}
use Rattle.catalogue.specs.Find.{bits_of_spec}
use Rattle.placing.specs.declared.Filled.{Filled}
use Rattle.placing.specs.Filling.{Fills}
use Rattle.placing.proofs.Placing.{alone_room}
use Rattle.placing.proofs.Filling.{more_there, fills_once}
use Rattle.std.specs.Prelude.{Result, Ok, Err}
use Rattle.tables.specs.Adding.{added_number, unless, LineJudged, SignalJudged}
use Rattle.tables.proofs.Room.{signal_room}
use Rattle.tables.proofs.Kept.{fills_signal}

-- ---- no two answers have the same number, where those of lines that are taken have the same
answers_apart : {A : Type 0} (r r' : Result A Refusal) → ((x y : A) → r ≡ Ok x → r' ≡ Ok y → x ≡ y) → added_number r ≡ added_number r' → r ≡ r'
answers_apart (Ok x) (Ok y) s e = ap Ok (s x y refl refl)
answers_apart (Ok x) (Err why) s e = absurd (omega (arith, (above_0 why).1))
answers_apart (Err why) (Ok y) s e = absurd (omega (arith, (above_0 why).1))
answers_apart (Err why) (Err why') s e = ap Err (number_once why why' e)

pub judged_once : (refusal : ℕ) (old new : Book) (r r' : Result Unit Refusal) (w w' : List ℕ) → LineJudged refusal old new r w → LineJudged refusal old new r' w' → (r ≡ r') × (w ≡ w')
judged_once refusal old new r r' w w' j j' = (answers_apart r r' (λ x y d e. refl) (j.answer ∙ sym j'.answer), j.words ∙ sym j'.words)

pub signal_judged_once : (b : Book) (p : Placement) (r r' : Result Filled Refusal) (w w' : List ℕ) → SignalJudged b p r w → SignalJudged b p r' w' → (r ≡ r') × (w ≡ w')
signal_judged_once b p r r' w w' j j' =
    let one = λ (x y : Filled) (d : r ≡ Ok x) (e : r' ≡ Ok y). fills_once _ x y (rw d at j.fills) (rw e at j'.fills) in
    (answers_apart r r' one (j.judged.answer ∙ sym j'.judged.answer), j.judged.words ∙ sym j'.judged.words)

-- ---- and each refusal has an answer
pub record Answers (n : ℕ) : Type 0 where
  pub answer : Result Unit Refusal
  pub is : added_number answer ≡ n

or : (t : Bool) (why : Refusal) (n : ℕ) → Answers n → Answers (cond t (number why) n)
or true why n a = record { answer = Err why; is = refl }
or false why n a = a

taken : Answers 0
taken = record { answer = Ok tt; is = refl }

pub message_answer : (ms : List Message) (i : ℕ) → Answers (message_refusal ms i)
unfolding message_refusal
message_answer ms i =
    or (leb identifier_limit i) refusal.OverLimit _
    (or (is_in i (identifiers ms)) refusal.MessageRepeated _ (or (leb message_limit (length ms)) refusal.Full 0 taken))

pub signal_answer : (ms : List Message) (p : Placement) → Answers (signal_refusal ms p)
unfolding signal_refusal after_refusal
signal_answer ms p =
    or (unknown_or_over p) refusal.OverLimit _
    (or (eqb (length ms) 0) refusal.BeforeAnyMessage _
    (or (is_in p.number (numbers (last_placements ms))) refusal.SignalRepeated _
    (or (misplaced p) refusal.Misplaced _
    (or (meets_earlier (last_placements ms) p) refusal.BitsMeet _
    (or (leb signal_limit (length (all_placements ms))) refusal.Full 0 taken)))))

pub route_answer : (rs : List Route) (x i y j : ℕ) → Answers (route_refusal rs x i y j)
unfolding route_refusal
route_answer rs x i y j =
    or ((leb bus_limit x || leb identifier_limit i) || (leb bus_limit y || leb identifier_limit j)) refusal.OverLimit _
    (or (leb route_limit (length rs)) refusal.Full 0 taken)

pub judged_there : (refusal : ℕ) (old new : Book) (a : Answers refusal) → LineJudged refusal old new a.answer (words_of (unless refusal old new))
judged_there refusal old new a = record { answer = a.is; words = refl }

-- an `S` line that is taken: what the last message's signals fill then
pub signal_judged_there : (b : Book) (p : Placement) (f : Filled) → Fills (last_placements b.messages) f
    → (x : Result Filled Refusal × List ℕ) × SignalJudged b p x.0 x.1
signal_judged_there b p f h = go (signal_answer b.messages p)
  where
    go : Answers (signal_refusal b.messages p) → (x : Result Filled Refusal × List ℕ) × SignalJudged b p x.0 x.1
    go a = by a.answer a.is
      where
        by : (r : Result Unit Refusal) → added_number r ≡ signal_refusal b.messages p → (x : Result Filled Refusal × List ℕ) × SignalJudged b p x.0 x.1
        by (Ok done) e =
            let bits = bits_of_spec p.number in
            let m = more_there f p.number p.start bits (alone_room p.number p.start bits refl (signal_room b.messages p (sym e)).alone) in
            ((Ok m.0, words_of (unless (signal_refusal b.messages p) b (with_signal b p))), record { judged = record { answer = e; words = refl }; fills = fills_signal b.messages p (sym e) f h bits refl m.0 m.1 })
        by (Err why) e = ((Err why, words_of (unless (signal_refusal b.messages p) b (with_signal b p))), record { judged = record { answer = e; words = refl }; fills = tt })
