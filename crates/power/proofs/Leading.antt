-- Where a step leads: the state kept, off, fault, or a step of the list whose picture shows; and to on only from both. Assumes nothing.
use mathlib.Core.Path.{◌≡◌, refl, sym, ◌∙◌, subst}
use mathlib.Core.Bool.{Bool, true, false, cond, not, ◌&&◌, ◌||◌}
use mathlib.Core.List.{List, [], ◌∷◌, Memᴰ}
use mathlib.Core.Logic.{◌⊎◌, inl, inr, ⊎_elim}
use mir.Facts.{and_yes}
use borrow.Author.Tests.{eqb-true}
use lib.Dec.{T, eqb, eqb→eq}
use Rattle.power.specs.declared.Observation.{Observation}
use Rattle.power.specs.declared.State.{State}
use Rattle.power.specs.declared.State.TheVariants.{Off, Rising, Precharge, Both, On, Falling, Fault}
use Rattle.power.specs.Observed.{all_open_spec, commanded, urgent}
use Rattle.power.specs.Pictures.{picture}
use Rattle.power.specs.States.{state_number, same_state}
use Rattle.power.specs.Rules.{PowerStep, rule3, rule4, steps, step_else, first_step_spec, by_rules, next_state_spec, ByStep, Leads}
use Rattle.power.specs.Refusals.{power_refusal, step_of}
use Rattle.power.proofs.Numbers.{number_tells}
use Rattle.power.proofs.Answers.{kept_or_next}

first_step : (list : List PowerStep) (state : State) (seen : Observation) → (first_step_spec list state seen ≡ Fault) ⊎ ByStep list state seen (first_step_spec list state seen)
unfolding step_else
first_step [] state seen = inl refl
first_step (t ∷ more) state seen = go (same_state t.from state) (picture t.to seen) (t.when seen) refl refl refl (first_step_spec more state seen) (first_step more state seen)
  where
    later : (next : State) → (next ≡ Fault) ⊎ ByStep more state seen next → (next ≡ Fault) ⊎ ByStep (t ∷ more) state seen next
    later next =
        ⊎_elim (λ e. inl e) (λ b. inr (record { step = b.step; listed = Memᴰ.tail b.listed; from = b.from; to = b.to; shown = b.shown; allowed = b.allowed }))

    go : (f p w : Bool) → same_state t.from state ≡ f → picture t.to seen ≡ p → t.when seen ≡ w → (next : State) → (next ≡ Fault) ⊎ ByStep more state seen next
        → (cond (f && (p && w)) t.to next ≡ Fault) ⊎ ByStep (t ∷ more) state seen (cond (f && (p && w)) t.to next)
    go true true true a b c next rest =
        inr (record { step = t; listed = Memᴰ.head refl; from = number_tells t.from state (eqb-true _ _ a); to = refl; shown = b; allowed = c })
    go true true false a b c next rest = later next rest
    go true false w a b c next rest = later next rest
    go false p w a b c next rest = later next rest

by_rules_law : (state : State) (seen : Observation) → Leads state seen (by_rules state seen)
by_rules_law state seen = go (picture state seen) (urgent seen && all_open_spec seen)
  where
    go : (own drops : Bool) → Leads state seen (cond own state (cond drops Off (first_step_spec steps state seen)))
    go true drops = inl refl
    go false true = inr (inl refl)
    go false false = inr (inr (first_step steps state seen))

next_state : (state : State) (seen : Observation) → Leads state seen (next_state_spec state seen)
unfolding next_state_spec
next_state Off seen = by_rules_law Off seen
next_state Rising seen = by_rules_law Rising seen
next_state Precharge seen = by_rules_law Precharge seen
next_state Both seen = by_rules_law Both seen
next_state On seen = by_rules_law On seen
next_state Falling seen = by_rules_law Falling seen
next_state Fault seen = go (all_open_spec seen && (commanded 0 seen || commanded 2 seen))
  where
    go : (left : Bool) → Leads Fault seen (cond left Off Fault)
    go true = inr (inl refl)
    go false = inl refl

-- the next state is the old one, off, fault, or where a step of the list leads; refused steps included
pub step_leads : (state : State) (seen : Observation) → Leads state seen (step_of state seen).state
step_leads state seen = rw kept_or_next (go (eqb (power_refusal (step_of state seen).answer) 0))
  where
    go : (taken : Bool) → Leads state seen (cond taken (next_state_spec state seen) state)
    go true = next_state state seen
    go false = inl refl

-- what a test of each step of a list says of one of them
every_step : (PowerStep → Bool) → List PowerStep → Bool
every_step test [] = true
every_step test (t ∷ more) = test t && every_step test more

of_each : (test : PowerStep → Bool) {t : PowerStep} {list : List PowerStep} → Memᴰ t list → T (every_step test list) → T (test t)
unfolding every_step
of_each test {t} (Memᴰ.head {x} {xs} e) h = rw e (and_yes (test x) (every_step test xs) h).0
of_each test (Memᴰ.tail {x} {xs} m) h = of_each test m (and_yes (test x) (every_step test xs) h).1

abbrev to_on_from_both : PowerStep → Bool
to_on_from_both t = not (same_state t.to On) || same_state t.from Both

only_both : (t : PowerStep) → Memᴰ t steps → t.to ≡ On → t.from ≡ Both
unfolding every_step rule3 rule4
only_both t listed e =
    number_tells t.from Both (eqb→eq (state_number t.from) 3 (subst (λ (s : State). T (not (same_state s On) || same_state t.from Both)) e (of_each to_on_from_both listed tt)))

not_on : (a next : State) → next ≡ a → next ≡ On → T (not (same_state a On)) → ⊥
not_on a next e f h = subst (λ (s : State). T (not (same_state s On))) (sym e ∙ f) h

-- on is entered only from both
pub on_only_from_both : (state : State) (seen : Observation) → (step_of state seen).state ≡ On → (state ≡ Both) ⊎ (state ≡ On)
on_only_from_both state seen e = go (step_of state seen).state e (step_leads state seen)
  where
    go : (next : State) → next ≡ On → Leads state seen next → (state ≡ Both) ⊎ (state ≡ On)
    go next e (inl stays) = inr (sym stays ∙ e)
    go next e (inr (inl f)) = absurd (not_on Off next f e tt)
    go next e (inr (inr (inl f))) = absurd (not_on Fault next f e tt)
    go next e (inr (inr (inr b))) = inl (sym b.from ∙ only_both b.step b.listed (b.to ∙ e))
