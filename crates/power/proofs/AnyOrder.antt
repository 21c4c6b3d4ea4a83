-- The order of rules 1 and 2, that of rules 3 and 4, and which of the two pairs comes first, changes nothing: the pictures that they ask
-- for never show at once, but for all open, which leads to off by each. Assumes nothing.
use mathlib.Core.Path.{◌≡◌, refl, ap, ◌∙◌}
use mathlib.Core.Bool.{Bool, true, false, cond, ◌&&◌, ◌||◌}
use mathlib.Core.List.{◌++◌}
use Prim.Native.Nat.{ℕ}
use native.Mathlib.Omega.{arith}
use borrow.Author.Tests.{eqb-true}
use lib.Dec.{eqb}
use Rattle.power.specs.declared.Observation.{Observation}
use Rattle.power.specs.declared.State.{State}
use Rattle.power.specs.declared.State.TheVariants.{Off, Rising, Precharge, Both, On, Falling, Fault}
use Rattle.power.specs.Observed.{open_relay, closed_relay, shows, all_open_spec, commanded, urgent, precharge_complete_spec, under10_a}
use Rattle.power.specs.Pictures.{picture}
use Rattle.power.specs.Rules.{rule3, rule4, steps, step_else, first_step_spec, by_rules}
use Rattle.power.proofs.Ands.{left, right}

-- of two cases that don't both hold, either may be asked for first
either_first : (p q : Bool) (x y z : State) → (p ≡ true → q ≡ true → ⊥) → cond p x (cond q y z) ≡ cond q y (cond p x z)
either_first true true x y z never = absurd (never refl refl)
either_first true false x y z never = refl
either_first false true x y z never = refl
either_first false false x y z never = refl

module _ (seen : Observation) where
  -- what an observation that shows three relays has in the first two
  pub first_relay : (n p m : ℕ) → shows n p m seen ≡ true → seen.main_negative.0 ≡ n
  first_relay n p m e = eqb-true seen.main_negative.0 n (left (eqb seen.main_negative.0 n) (eqb seen.precharge.0 p) (left (eqb seen.main_negative.0 n && eqb seen.precharge.0 p) (eqb seen.main_positive.0 m) e))

  pub second_relay : (n p m : ℕ) → shows n p m seen ≡ true → seen.precharge.0 ≡ p
  second_relay n p m e = eqb-true seen.precharge.0 p (right (eqb seen.main_negative.0 n) (eqb seen.precharge.0 p) (left (eqb seen.main_negative.0 n && eqb seen.precharge.0 p) (eqb seen.main_positive.0 m) e))

  pub third_relay : (n p m : ℕ) → shows n p m seen ≡ true → seen.main_positive.0 ≡ m
  third_relay n p m e = eqb-true seen.main_positive.0 m (right (eqb seen.main_negative.0 n && eqb seen.precharge.0 p) (eqb seen.main_positive.0 m) e)

  up : Bool
  up = commanded 1 seen && precharge_complete_spec seen.inside seen.outside seen.share

  down : Bool
  down = commanded 2 seen || urgent seen

  pub rules_3_and_4 : (state : State) → first_step_spec (rule4 ++ rule3) state seen ≡ first_step_spec steps state seen
  unfolding step_else rule3 rule4 picture up down
  rules_3_and_4 Off = refl
  rules_3_and_4 Rising =
      either_first (shows 1 1 1 seen && commanded 2 seen) (shows 2 2 1 seen && commanded 1 seen) Off Precharge Fault
      (λ p q. absurd (omega (arith, first_relay 1 1 1 (left (shows 1 1 1 seen) (commanded 2 seen) p), first_relay 2 2 1 (left (shows 2 2 1 seen) (commanded 1 seen) q))))
  rules_3_and_4 Precharge =
      either_first (shows 2 1 1 seen && down) (shows 2 2 2 seen && up) Falling Both Fault
      (λ p q. absurd (omega (arith, second_relay 2 1 1 (left (shows 2 1 1 seen) down p), second_relay 2 2 2 (left (shows 2 2 2 seen) up q))))
  rules_3_and_4 Both = refl
  rules_3_and_4 On = refl
  rules_3_and_4 Falling = refl
  rules_3_and_4 Fault = refl

off_either_way : (u o : Bool) (next : State) → cond (u && o) Off (cond o Off next) ≡ cond o Off (cond (u && o) Off next)
off_either_way true true next = refl
off_either_way true false next = refl
off_either_way false true next = refl
off_either_way false false next = refl

module _ (seen : Observation) (next : State) where
  -- all open, and a picture that has main negative closed
  apart : (p m : ℕ) (state : State)
      → cond (urgent seen && all_open_spec seen) Off (cond (shows closed_relay p m seen) state next) ≡ cond (shows closed_relay p m seen) state (cond (urgent seen && all_open_spec seen) Off next)
  apart p m state =
      either_first (urgent seen && all_open_spec seen) (shows closed_relay p m seen) Off state next
      (λ e f. absurd (omega (arith, first_relay seen 1 1 1 (right (urgent seen) (all_open_spec seen) e), first_relay seen 2 p m f)))

  -- rule 2 before rule 1, whatever comes after them
  pub rules_1_and_2 : (state : State)
      → cond (urgent seen && all_open_spec seen) Off (cond (picture state seen) state next) ≡ cond (picture state seen) state (cond (urgent seen && all_open_spec seen) Off next)
  unfolding picture
  rules_1_and_2 Off = off_either_way (urgent seen) (all_open_spec seen) next
  rules_1_and_2 Rising = apart open_relay open_relay Rising
  rules_1_and_2 Precharge = apart closed_relay open_relay Precharge
  rules_1_and_2 Both = apart closed_relay closed_relay Both
  rules_1_and_2 On = apart open_relay closed_relay On
  rules_1_and_2 Falling = apart open_relay open_relay Falling
  rules_1_and_2 Fault = refl

-- a step may be asked for before rules 1 and 2: its picture is not the state's own, and where rule 2 applies it leads to off too
step_first : (step own drops : Bool) (to state next : State) → (step ≡ true → own ≡ true → ⊥) → (step ≡ true → drops ≡ true → to ≡ Off)
    → cond step to (cond own state (cond drops Off next)) ≡ cond own state (cond drops Off (cond step to next))
step_first true true d to state next never off = absurd (never refl refl)
step_first true false true to state next never off = off refl refl
step_first true false false to state next never off = refl
step_first false own drops to state next never off = refl

module _ (seen : Observation) where
  -- observations that show two pictures, told apart by a relay
  by_first : (n p m a b c : ℕ) (w : Bool) → (n ≡ a → ⊥) → shows n p m seen && w ≡ true → shows a b c seen ≡ true → ⊥
  by_first n p m a b c w ne e f =
      ne (let x = first_relay seen n p m (left (shows n p m seen) w e) in let y = first_relay seen a b c f in omega arith)

  by_second : (n p m a b c : ℕ) (w : Bool) → (p ≡ b → ⊥) → shows n p m seen && w ≡ true → shows a b c seen ≡ true → ⊥
  by_second n p m a b c w ne e f =
      ne (let x = second_relay seen n p m (left (shows n p m seen) w e) in let y = second_relay seen a b c f in omega arith)

  by_third : (n p m a b c : ℕ) (w : Bool) → (m ≡ c → ⊥) → shows n p m seen && w ≡ true → shows a b c seen ≡ true → ⊥
  by_third n p m a b c w ne e f =
      ne (let x = third_relay seen n p m (left (shows n p m seen) w e) in let y = third_relay seen a b c f in omega arith)

  -- a step to a picture with main negative closed is none where all are open
  never_off : (p m : ℕ) (w : Bool) (to : State) → shows 2 p m seen && w ≡ true → urgent seen && all_open_spec seen ≡ true → to ≡ Off
  never_off p m w to e f = absurd (by_first 2 p m 1 1 1 w (λ q. omega arith) e (right (urgent seen) (all_open_spec seen) f))

  drops : Bool
  drops = urgent seen && all_open_spec seen

  -- rules 3 and 4 before rules 1 and 2
  pub steps_first : (state : State) → step_else (cond (picture state seen) state (cond (urgent seen && all_open_spec seen) Off Fault)) steps state seen ≡ by_rules state seen
  unfolding step_else rule3 rule4 picture drops up down
  steps_first Off =
      step_first (shows 2 1 1 seen && commanded 1 seen) (shows 1 1 1 seen) drops Rising Off Fault
      (by_first 2 1 1 1 1 1 (commanded 1 seen) (λ q. omega arith)) (never_off 1 1 (commanded 1 seen) Rising)
  steps_first Rising =
      let to-off = shows 1 1 1 seen && commanded 2 seen in
      ap (cond (shows 2 2 1 seen && commanded 1 seen) Precharge)
      (step_first to-off (shows 2 1 1 seen) drops Off Rising Fault (by_first 1 1 1 2 1 1 (commanded 2 seen) (λ q. omega arith)) (λ e f. refl))
      ∙ step_first (shows 2 2 1 seen && commanded 1 seen) (shows 2 1 1 seen) drops Precharge Rising (cond to-off Off Fault)
      (by_second 2 2 1 2 1 1 (commanded 1 seen) (λ q. omega arith)) (never_off 2 1 (commanded 1 seen) Precharge)
  steps_first Precharge =
      ap (cond (shows 2 2 2 seen && up seen) Both)
      (step_first (shows 2 1 1 seen && down seen) (shows 2 2 1 seen) drops Falling Precharge Fault
      (by_second 2 1 1 2 2 1 (down seen) (λ q. omega arith)) (never_off 1 1 (down seen) Falling))
      ∙ step_first (shows 2 2 2 seen && up seen) (shows 2 2 1 seen) drops Both Precharge (cond (shows 2 1 1 seen && down seen) Falling Fault)
      (by_third 2 2 2 2 2 1 (up seen) (λ q. omega arith)) (never_off 2 2 (up seen) Both)
  steps_first Both =
      step_first (shows 2 1 2 seen && true) (shows 2 2 2 seen) drops On Both Fault
      (by_second 2 1 2 2 2 2 true (λ q. omega arith)) (never_off 1 2 true On)
  steps_first On =
      step_first (shows 2 1 1 seen && calm) (shows 2 1 2 seen) drops Falling On Fault
      (by_third 2 1 1 2 1 2 calm (λ q. omega arith)) (never_off 1 1 calm Falling)
    where
      calm : Bool
      calm = urgent seen || (commanded 2 seen && under10_a seen.current)
  steps_first Falling =
      step_first (shows 1 1 1 seen && true) (shows 2 1 1 seen) drops Off Falling Fault
      (by_first 1 1 1 2 1 1 true (λ q. omega arith)) (λ e f. refl)
  steps_first Fault = refl
