-- What the generated contract of a function allows: one result and no other; of a function that returns a slice, one content (where the
-- slice points, and the name under which it is tracked, are no part of a contract); of a function that is lent entries to write, one
-- result together with what stands there at exit. Assumes nothing.
use Rattle.std.specs.Prelude.{◌≡◌, refl, List, ℕ, length}
use Rattle.std.proofs.Common.{sym, ap, ◌∙◌}
use seplogic.Ra.Ura.{Ura}
use base.Logic.{SProp}
use base.Stored.{Coded, coded_ℕ, coded_list, coded_via}
use prog.Memory.{Memory}
use prog.Routine.{Routine}
use types.Logic.{Logic}
use contract.Lifetimes.{Lfts}
use contract.Monad.{Fun, fact}
use denote.Signature.{type_at}
use denote.Bor.{Bor}
use denote.Triple.Entry.{Args, Res}
use denote.Triple.Clauses.{Ended, AtExit, Lasts, at_exit, Clauses}
use Rattle.only.specs.Only.{Only, only_this, showing}

module _ (M : Type 1) (T : Ended) where
  -- a contract as it is generated
  abbrev pub Generated : Type 2
  Generated = (𝓤 : Ura M) (𝓛 : Logic 𝓤) (mem : Memory → SProp 𝓤) (run : Routine → Fun 𝓤) → Clauses 𝓤 T

  module _ (contract : Generated) where
    -- a call of the function: what the logic knows it by, and the arguments
    pub record Calling : Type 2 where
      pub 𝓤 : Ura M
      pub 𝓛 : Logic 𝓤
      pub mem : Memory → SProp 𝓤
      pub run : Routine → Fun 𝓤
      pub κs : Lfts T.signature.lifetimes
      pub arguments : Args T.signature κs
      pub ghost : (contract 𝓤 𝓛 mem run κs arguments).ghost

    -- what it returns; the same with what stands behind each `&mut` at exit; and how the arguments are seen then
    abbrev pub Result : Calling → Type 0
    Result c = Res T.signature c.κs

    abbrev pub Ending : Calling → Type 0
    Ending c = Result c × Lasts T c.κs c.arguments

    abbrev pub Seen : Calling → Type 0
    Seen c = AtExit T c.κs

    -- what the contract ensures: of a result, with the arguments as they are seen at exit, and of an outcome
    abbrev pub ensured : (c : Calling) → Result c → Seen c → SProp c.𝓤
    ensured c r e = (contract c.𝓤 c.𝓛 c.mem c.run c.κs c.arguments).ensures c.ghost r e

    abbrev pub ensured_of : (c : Calling) → Ending c → SProp c.𝓤
    ensured_of c o = ensured c o.0 (at_exit T c.κs c.arguments o.1)

    -- one result, whatever is seen at exit
    pub record OneResult : Type 2 where
      pub only : (c : Calling) (e : Seen c) → Only c.𝓤 (λ r. ensured c r e)

    -- one content of the slice that is the result, where something holds of the call
    pub record OneContent (slice : (c : Calling) → Bor (List ℕ) → Result c) (Where : Calling → Type 0) : Type 2 where
      pub only : (c : Calling) (s : Bor (List ℕ)) (e : Seen c) → Where c → Only c.𝓤 (λ l. ensured c (slice c (showing s l)) e)

    -- one outcome
    pub record OneOutcome : Type 2 where
      pub only : (c : Calling) → Only c.𝓤 (ensured_of c)

module _ {M : Type 1} {T : Ended} {contract : Generated M T} where
  -- of a contract that states what the result is
  pub result_is : (f : (c : Calling M T contract) → Result M T contract c)
      → ◌≡◌ {A = (c : Calling M T contract) → Result M T contract c → Seen M T contract c → SProp c.𝓤} (ensured M T contract) (λ c r e. fact c.𝓤 (r ≡ f c))
      → OneResult M T contract
  result_is f says = record { only = λ c e. only_this c.𝓤 _ (type_at T.signature.result c.κs).coded (f c) (λ r. ap (λ h. h c r e) says) }

  -- of a contract that states what a slice holds, and how many entries
  pub content_is : {slice : (c : Calling M T contract) → Bor (List ℕ) → Result M T contract c} {Where : Calling M T contract → Type 0}
      → (f : Calling M T contract → List ℕ) (n : Calling M T contract → ℕ) → ((c : Calling M T contract) → Where c → length (f c) ≡ n c)
      → ◌≡◌ {A = (c : Calling M T contract) → Bor (List ℕ) → Seen M T contract c → SProp c.𝓤}
      (λ c s e. ensured M T contract c (slice c s) e) (λ c s e. fact c.𝓤 ((s.now ≡ f c) × (length s.now ≡ n c)))
      → OneContent M T contract slice Where
  content_is f n many says =
      record {
        only = λ c s e h. record {
          coded = coded_list coded_ℕ;
          outcome = f c;
          Says = λ l. (l ≡ f c) × (length l ≡ n c);
          says = λ l. ap (λ t. t c (showing s l) e) says;
          there = (refl, many c h);
          alone = λ l p. p.0;
        };
      }

  -- of a contract that states what the outcome is, written as an X
  pub outcome_is : {X : Type 0} → Coded X → (to : (c : Calling M T contract) → Ending M T contract c → X) (from : (c : Calling M T contract) → X → Ending M T contract c)
      → ((c : Calling M T contract) (o : Ending M T contract c) → from c (to c o) ≡ o) → ((c : Calling M T contract) (x : X) → to c (from c x) ≡ x)
      → (f : Calling M T contract → X)
      → ◌≡◌ {A = (c : Calling M T contract) → Ending M T contract c → SProp c.𝓤} (ensured_of M T contract) (λ c o. fact c.𝓤 (to c o ≡ f c))
      → OneOutcome M T contract
  outcome_is coded to from back forth f says =
      record {
        only = λ c. record {
          coded = coded_via coded (to c) (λ o p e. sym (back c o) ∙ (ap (from c) e ∙ back c p));
          outcome = from c (f c);
          Says = λ o. to c o ≡ f c;
          says = λ o. ap (λ h. h c o) says;
          there = forth c (f c);
          alone = λ o e. sym (back c o) ∙ ap (from c) e;
        };
      }
