-- The contracts of `fill` and `nth` each allow one outcome and no other. Assumes nothing.
use mathlib.Core.Path.{◌≡◌, refl, subst}
use mathlib.Core.Bool.{Bool, true, false}
use mathlib.Core.List.{List, [], ◌∷◌}
use Prim.Native.Nat.{ℕ, ◌<◌, ◌≤◌}
use native.Mathlib.Omega.{arith}
use seplogic.Ra.Ura.{Ura}
use base.Logic.{SProp}
use base.Stored.{coded_ℕ, coded_list}
use prog.Memory.{Memory}
use prog.Routine.{Routine}
use types.Logic.{Logic}
use contract.Lifetimes.{Lfts}
use contract.Monad.{Fun}
use denote.Bor.{Bor}
use denote.Ref.{MutBor, at_last}
use denote.Triple.Clauses.{AtExit}
use lib.ListN.{length, get_or}
use Rattle.only.specs.Only.{Only}
use Rattle.lists.proofs.Overlaid.{Overlaid, overlaid, overlaid_once}
use Rattle.masks.specs.Bit.{width, bit}
use Rattle.masks.proofs.Told.{same_bits}
use Rattle.masks.proofs.Made.{mask_of, mask_passes, passes_mask}
use Rattle.chains.specs.Chain.{LeadsOn}
use Rattle.chains.specs.Tells.{Tells}
use Rattle.chains.proofs.Bools.{told_same, test_tells}
use Rattle.chains.proofs.Walks.{walk_last}
use Rattle.chains.proofs.Reach.{reach, reach_leads, leads_reach}
use Rattle.reach.specs.declared.NumberedRoutes.{NumberedRoutes}
use Rattle.reach.specs.Led.{Numbers, Led, OnwardFilled, turn}
use Rattle.reach.specs.contracts.nth as nth
use Rattle.reach.specs.contracts.fill as fill

module _ (starts ends : List ℕ) where
  -- the mask m says of each number whether route i leads on to it
  abbrev Leads : ℕ → ℕ → Type 0
  Leads i m = (x : ℕ) → Tells (LeadsOn starts ends i x) (bit m x)

  leads_once : (i m n : ℕ) → Leads i m → Leads i n → m ≡ n
  leads_once i m n f g = same_bits m n (λ x. told_same (LeadsOn starts ends i x) (bit m x) (bit n x) (f x) (g x))

  -- a route leads on to numbers that a mask can have
  low : Numbers starts ends → (i x : ℕ) → i < length starts → LeadsOn starts ends i x → x < width
  low ns i x l ([], e) = subst (λ (y : ℕ). y < width) e (ns.to.low i (omega (arith, ns.same)))
  low ns i x l (j ∷ c, w) = let r = walk_last starts ends (get_or ends i 0) j c x w in subst (λ (y : ℕ). y < width) r.2 (ns.to.low r.0 (omega (arith, ns.same, r.1)))

  leads_there : Numbers starts ends → (i : ℕ) → i < length starts → (m : ℕ) × Leads i m
  leads_there ns i l =
      let test = reach starts ends (length starts) i in
      let m = mask_of test width in (
        m,
        λ x. test_tells (bit m x) (λ e. reach_leads starts ends i x (mask_passes test width (omega arith) x e))
            (λ on. passes_mask test width (omega arith) x (low ns i x l on) (leads_reach starts ends i x on)),
      )

  module _ (lent : List ℕ) where
    laid_over : (l : List ℕ) → OnwardFilled starts ends lent l → Overlaid Leads (length starts) lent l
    unfolding Led
    laid_over l f = record { each = λ i b x. f.led i x b; long = f.long; rest = f.rest }

    filled_there : Numbers starts ends → length starts ≤ length lent → (l : List ℕ) × OnwardFilled starts ends lent l
    unfolding Led
    filled_there ns h = let r = overlaid Leads (length starts) lent h (leads_there ns) in (r.0, record { led = λ i x b. r.1.each i b x; long = r.1.long; rest = r.1.rest })

    filled_once : (l m : List ℕ) → OnwardFilled starts ends lent l → OnwardFilled starts ends lent m → l ≡ m
    filled_once l m f g = overlaid_once Leads (length starts) lent (λ i b. leads_once i) l m (laid_over l f) (laid_over m g)

-- the turn of a route is one of the routes
turn_low : (n t : ℕ) (down : Bool) → t < n → turn n down t < n
turn_low n t true h = omega arith
turn_low n t false h = h

-- each where its `requires` holds
module _ {M : Type 1} {𝓤 : Ura M} (𝓛 : Logic 𝓤) (mem : Memory → SProp 𝓤) (run : Routine → Fun 𝓤) where
  pub one_nth : (t n : ℕ) (down : Bool) → t < n → (e : AtExit nth.ended tt) → Only 𝓤 (λ r. (nth.clauses 𝓛 mem run tt (t, (n, (down, tt)))).ensures tt r e)
  one_nth t n down l e = record { coded = coded_ℕ; outcome = turn n down t; Says = λ r. (r ≡ turn n down t) × (r < n); says = λ r. refl; there = (refl, turn_low n t down l); alone = λ r h. h.0 }

  -- the masks at exit
  pub one_fill : (κs : Lfts 3) (table : Bor NumberedRoutes) (onward : MutBor (List ℕ)) → length table.now.starts.now ≤ length onward.now
      → Only 𝓤 (λ (x : List ℕ). (fill.clauses 𝓛 mem run κs (table, (onward, tt))).ensures tt tt (table, (at_last onward x, tt)))
  one_fill κs table onward room =
      let starts = table.now.starts.now in
      let ends = table.now.ends.now in
      let ns = table.now.numbers in
      let r = filled_there starts ends onward.now ns room in
      record {
        coded = coded_list coded_ℕ;
        outcome = r.0;
        Says = OnwardFilled starts ends onward.now;
        says = λ x. refl;
        there = r.1;
        alone = λ x f. filled_once starts ends onward.now x r.0 f r.1;
      }
