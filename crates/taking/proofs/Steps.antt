-- One line into the words: what `tables` answers is what the line is judged by. Assumes nothing.
use mathlib.Core.Path.{◌≡◌, refl}
use Prim.Native.Nat.{ℕ}
use mathlib.Core.List.{List}
use Rattle.std.specs.Prelude.{Result, Ok, Err}
use Rattle.answers.specs.declared.Refusal.{Refusal}
use Rattle.answers.specs.declared.Refusal.TheVariants as refusal
use Rattle.answers.specs.Numbers.{number}
use Rattle.answers.proofs.Numbered.{above_0}
use Rattle.line.specs.declared.Line.{Line}
use Rattle.line.specs.declared.Line.TheVariants as line
use Rattle.books.specs.Book.{Book, last_placements, placement, route, with_message, with_route}
use Rattle.books.specs.Lines.{message_refusal, route_refusal}
use Rattle.reading.specs.Reading.{Outcome, refused, onward, refusal_of, with_line}
use Rattle.placing.specs.declared.Filled.{Filled}
use Rattle.placing.specs.Filling.{Fills}
use Rattle.tables.specs.Adding.{Within, Holds, unless, LineJudged, SignalJudged}
use Rattle.tables.proofs.Room.{within_message, within_signal, within_route}
use Rattle.tables.proofs.Kept.{fills_fresh}
use Rattle.taking.specs.Taking.{Took}

module _ (b : Book) {l : Line} {w : List ℕ} where
  pub took_message : (f : Filled) (i : ℕ) → l ≡ line.Message i → LineJudged {A = Unit} (message_refusal b.messages i) b (with_message b i) (Ok tt) w
      → (f.bits ≡ 0) × (f.marks ≡ 0) → Took b l (Ok f) w
  unfolding refusal_of with_line
  took_message f i e j z = rw e (record { answer = j.answer; words = j.words; fills = fills_fresh b.messages i f z.0 z.1 })

  pub no_message : (why : Refusal) (i : ℕ) → l ≡ line.Message i → LineJudged {A = Unit} (message_refusal b.messages i) b (with_message b i) (Err why) w → Took b l (Err why) w
  unfolding refusal_of with_line
  no_message why i e j = rw e (record { answer = j.answer; words = j.words; fills = tt })

  pub took_signal : (s : Result Filled Refusal) (n t : ℕ) → l ≡ line.Signal n t → SignalJudged b (placement n t) s w → Took b l s w
  unfolding refusal_of with_line
  took_signal s n t e k = rw e (record { answer = k.judged.answer; words = k.judged.words; fills = k.fills })

  pub took_route : (f : Filled) (a i c j : ℕ) → l ≡ line.Route a i c j
      → LineJudged {A = Unit} (route_refusal b.routes a i c j) b (with_route b (route a i c j)) (Ok tt) w → Fills (last_placements b.messages) f → Took b l (Ok f) w
  unfolding refusal_of with_line
  took_route f a i c j e k h = rw e (record { answer = k.answer; words = k.words; fills = h })

  pub no_route : (why : Refusal) (a i c j : ℕ) → l ≡ line.Route a i c j
      → LineJudged {A = Unit} (route_refusal b.routes a i c j) b (with_route b (route a i c j)) (Err why) w → Took b l (Err why) w
  unfolding refusal_of with_line
  no_route why a i c j e k = rw e (record { answer = k.answer; words = k.words; fills = tt })

  pub took_none : l ≡ line.IllFormed → Holds w b → Took b l (Err refusal.IllFormed) w
  unfolding refusal_of with_line unless
  took_none e h = rw e (record { answer = refl; words = h.words; fills = tt })

-- a refusal has a number, at which the lines stop
pub stops : (why : Refusal) (n : ℕ) (later : Outcome) → onward (number why) n later ≡ refused (number why) n
unfolding onward
stops why n later = rw (above_0 why).1

-- the book with a line that is taken is within the limits
pub within_line : (b : Book) (l : Line) → Within b → refusal_of b l ≡ 0 → Within (with_line b l)
unfolding refusal_of with_line
within_line b (line.Message i) h e = within_message b h i e
within_line b (line.Signal n s) h e = within_signal b h (placement n s) e
within_line b (line.Route x i y j) h e = within_route b h x i y j (route x i y j) e
within_line b line.IllFormed h e = h
