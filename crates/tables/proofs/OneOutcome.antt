-- Each contract of the crate allows one outcome and no other: an answer, with the words at exit. Of an addition it is so where
-- its `requires` holds. Assumes nothing.
use mathlib.Core.Path.{◌≡◌, refl, subst}
use mathlib.Core.Bool.{Bool}
use mathlib.Core.List.{List}
use Prim.Native.Nat.{ℕ}
use seplogic.Ra.Ura.{Ura}
use base.Logic.{SProp}
use base.Stored.{coded_ℕ, coded_bool, coded_unit, coded×, coded_list}
use Rattle.std.specs.Coded.{coded_result}
use prog.Memory.{Memory}
use prog.Routine.{Routine}
use types.Logic.{Logic}
use contract.Lifetimes.{Lfts}
use contract.Monad.{Fun, fact}
use denote.Bor.{Bor}
use denote.Ref.{MutBor, at_last}
use Rattle.only.specs.Only.{Only, only_this}
use Rattle.books.specs.Book.{Book, placement, route, with_message, with_route}
use Rattle.books.specs.Lines.{message_refusal, route_refusal}
use Rattle.books.specs.Words.{words_of, messages_taken_spec}
use Rattle.placing.specs.declared.Filled.{Filled}
use Rattle.std.specs.Prelude.{Result}
use Rattle.answers.specs.declared.Refusal.{Refusal}
use Rattle.tables.specs.Adding.{Holds, OfBook, HoldsFilled, OfBookFilled, unless, LineJudged, SignalJudged}
use Rattle.tables.proofs.OneBook.{one_book}
use Rattle.tables.proofs.Once.{Answers, message_answer, route_answer, judged_there, judged_once, signal_judged_there, signal_judged_once}
use Rattle.answers.specs.contracts.Refusal as the-refusal
use Rattle.placing.specs.contracts.Filled as the-filled
use Rattle.tables.specs.contracts.adding.add_message as add-message
use Rattle.tables.specs.contracts.adding.add_signal as add-signal
use Rattle.tables.specs.contracts.adding.add_route as add-route
use Rattle.tables.specs.contracts.testing.messages_taken as messages-taken

-- a clause that states how a line is judged after the book of the words
one_judged : {M : Type 1} (𝓤 : Ura M) (clause : Result Unit Refusal × List ℕ → SProp 𝓤) (w : List ℕ) → OfBook w
    → (refusal : Book → ℕ) (new : Book → Book) → ((b : Book) → Answers (refusal b))
    → ((x : Result Unit Refusal × List ℕ) → clause x ≡ fact 𝓤 ((c : Book) → Holds w c → LineJudged (refusal c) c (new c) x.0 x.1)) → Only 𝓤 clause
one_judged 𝓤 clause w (b, h) refusal new answers says =
    let r = (answers b).answer in
    let after = words_of (unless (refusal b) b (new b)) in
    let here = judged_there (refusal b) b (new b) (answers b) in
    record {
      coded = coded× (coded_result coded_unit (the-refusal.the_row).coded) (coded_list coded_ℕ);
      outcome = (r, after);
      Says = λ x. (c : Book) → Holds w c → LineJudged (refusal c) c (new c) x.0 x.1;
      says = says;
      there = λ c k. subst (λ (d : Book). LineJudged (refusal d) d (new d) r after) (one_book w b c h k) here;
      alone = λ x s. let e = judged_once (refusal b) b (new b) x.0 r x.1 after (s b h) here in λ i. (e.0 i, e.1 i);
    }

module _ {M : Type 1} {𝓤 : Ura M} (𝓛 : Logic 𝓤) (mem : Memory → SProp 𝓤) (run : Routine → Fun 𝓤) (κs : Lfts 1) (book : Bor (List ℕ)) where
  pub one_messages_taken : Only 𝓤 (λ (r : Bool). (messages-taken.clauses 𝓛 mem run κs (book, tt)).ensures tt r (book, tt))
  one_messages_taken = only_this 𝓤 _ coded_bool (messages_taken_spec book.now) (λ r. refl)

module _ {M : Type 1} {𝓤 : Ura M} (𝓛 : Logic 𝓤) (mem : Memory → SProp 𝓤) (run : Routine → Fun 𝓤) (κs : Lfts 1) (book : MutBor (List ℕ)) where
  pub one_add_message : (identifier : ℕ) → OfBook book.now
      → Only 𝓤 (λ (x : Result Unit Refusal × List ℕ). (add-message.clauses 𝓛 mem run κs (book, (identifier, tt))).ensures tt x.0 (at_last book x.1, (identifier, tt)))
  one_add_message identifier h = one_judged 𝓤 _ book.now h (λ b. message_refusal b.messages identifier) (λ b. with_message b identifier) (λ b. message_answer b.messages identifier) (λ x. refl)

  pub one_add_route : (a i c j : ℕ) → OfBook book.now
      → Only 𝓤 (λ (x : Result Unit Refusal × List ℕ). (add-route.clauses 𝓛 mem run κs (book, (a, (i, (c, (j, tt)))))).ensures tt x.0 (at_last book x.1, (a, (i, (c, (j, tt))))))
  one_add_route a i c j h = one_judged 𝓤 _ book.now h (λ b. route_refusal b.routes a i c j) (λ b. with_route b (route a i c j)) (λ b. route_answer b.routes a i c j) (λ x. refl)

module _ {M : Type 1} {𝓤 : Ura M} (𝓛 : Logic 𝓤) (mem : Memory → SProp 𝓤) (run : Routine → Fun 𝓤) (κs : Lfts 4) (book : MutBor (List ℕ)) (above bounds widths : Bor (List ℕ)) where
  pub one_add_signal : (filled : Filled) (number start : ℕ) → OfBookFilled book.now filled
      → Only 𝓤 (λ (x : Result Filled Refusal × List ℕ). (add-signal.clauses 𝓛 mem run κs (book, (filled, (number, (start, (above, (bounds, (widths, tt)))))))).ensures tt x.0 (at_last book x.1, (filled, (number, (start, (above, (bounds, (widths, tt))))))))
  one_add_signal filled number start (b, h) =
      let p = placement number start in
      let here = signal_judged_there b p filled h.fills in
      record {
        coded = coded× (coded_result (the-filled.the_row).coded (the-refusal.the_row).coded) (coded_list coded_ℕ);
        outcome = here.0;
        Says = λ x. (c : Book) → HoldsFilled book.now filled c → SignalJudged c p x.0 x.1;
        says = λ x. refl;
        there = λ c k. subst (λ (d : Book). SignalJudged d p here.0.0 here.0.1) (one_book book.now b c h.holds k.holds) here.1;
        alone = λ x s. let e = signal_judged_once b p x.0 here.0.0 x.1 here.0.1 (s b h) here.1 in λ i. (e.0 i, e.1 i);
      }
