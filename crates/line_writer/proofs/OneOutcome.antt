-- Each public function's contract allows one outcome and no other: a length; or the place after the line, and what stands in the lent
-- slice at exit. Assumes nothing.
use mathlib.Core.Path.{refl}
use mathlib.Core.List.{List, [], ◌∷◌}
use Prim.Native.Nat.{ℕ}
use lib.ListN.{length}
use seplogic.Ra.Ura.{Ura}
use base.Logic.{SProp}
use prog.Memory.{Memory}
use prog.Routine.{Routine}
use types.Logic.{Logic}
use contract.Lifetimes.{Lfts}
use contract.Monad.{Fun}
use denote.Ref.{MutBor, at_last}
use Rattle.only.specs.Only.{Only}
use Rattle.only.specs.Outcomes.{OneResult, result_is}
use Rattle.line.specs.declared.Line.TheVariants.{Message}
use Rattle.books.specs.Book.{placement, route_between}
use Rattle.reading.specs.Written.{signal_line, route_line, lines_text}
use Rattle.printing.proofs.OneOutcome.{one_put}
use Rattle.line_writer.specs.contracts.signal_length as signal-length
use Rattle.line_writer.specs.contracts.route_length as route-length
use Rattle.line_writer.specs.contracts.put_message as put-message
use Rattle.line_writer.specs.contracts.put_signal as put-signal
use Rattle.line_writer.specs.contracts.put_route as put-route

pub one_signal_length : (M : Type 1) → OneResult M signal-length.ended (λ _. signal-length.clauses)
one_signal_length M = result_is (λ c. length (lines_text (signal_line (placement c.arguments.0 c.arguments.1.0) ∷ []))) refl

pub one_route_length : (M : Type 1) → OneResult M route-length.ended (λ _. route-length.clauses)
one_route_length M = result_is (λ c. length (lines_text (route_line (route_between c.arguments.0 c.arguments.1.0) ∷ []))) refl

module _ {M : Type 1} {𝓤 : Ura M} (𝓛 : Logic 𝓤) (mem : Memory → SProp 𝓤) (run : Routine → Fun 𝓤) (κs : Lfts 1) (out : MutBor (List ℕ)) (at : ℕ) where
  pub one_put_message : (i : ℕ) → Only 𝓤 (λ (x : ℕ × List ℕ). (put-message.clauses 𝓛 mem run κs (out, (at, (i, tt)))).ensures tt x.0 (at_last out x.1, (at, (i, tt))))
  one_put_message i = one_put 𝓤 _ out.now at (lines_text (Message i ∷ [])) (λ x. refl)

  pub one_put_signal : (n s : ℕ) → Only 𝓤 (λ (x : ℕ × List ℕ). (put-signal.clauses 𝓛 mem run κs (out, (at, (n, (s, tt))))).ensures tt x.0 (at_last out x.1, (at, (n, (s, tt)))))
  one_put_signal n s = one_put 𝓤 _ out.now at (lines_text (signal_line (placement n s) ∷ [])) (λ x. refl)

  pub one_put_route : (p q : ℕ) → Only 𝓤 (λ (x : ℕ × List ℕ). (put-route.clauses 𝓛 mem run κs (out, (at, (p, (q, tt))))).ensures tt x.0 (at_last out x.1, (at, (p, (q, tt)))))
  one_put_route p q = one_put 𝓤 _ out.now at (lines_text (route_line (route_between p q) ∷ [])) (λ x. refl)
