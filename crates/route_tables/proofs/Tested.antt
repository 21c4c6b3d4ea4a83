-- What the test of the route tables asks is what a taken book has. Assumes nothing.
use mathlib.Core.Path.{◌≡◌, sym, ap, ◌∙◌, subst}
use mathlib.Core.Bool.{Bool, true, false}
use Prim.Native.Nat.{ℕ, ◌-◌, ◌≤◌}
use native.Mathlib.Omega.{arith}
use mathlib.Core.List.{List}
use lib.ListN.{length, take, drop, replicate, length-drop}
use Rattle.record.specs.Limits.{route_limit}
use Rattle.record.specs.Columns.{route_count_of, froms_of, tos_of}
use Rattle.zeros.specs.Zeros.{zeros}
use Rattle.zeros.proofs.Gathering.{zeros_are, are_zeros}
use Rattle.chains.specs.Chain.{IsSound}
use Rattle.chains.specs.Tells.{Tells}
use Rattle.books.specs.Words.{froms, tos, routes_of}
use Rattle.route_tables.specs.Tables.{RoutesTaken}
use Rattle.route_tables.proofs.Shown.{NoMore, few_counted, no_more_froms, no_more_tos, froms_shown, tos_shown, stand_shown}

-- one column, of which n entries count
module _ (entries wanted : List ℕ) (n count : ℕ) (same : entries ≡ wanted) (counted : n ≡ count) where
  past : length entries ≡ route_limit → zeros (drop n entries) ≡ true → NoMore count wanted
  past l z =
      subst (λ (m : ℕ). NoMore m wanted) counted
      (subst (λ (c : List ℕ). NoMore n c) same
      (zeros_are (drop n entries) z ∙ ap (λ (k : ℕ). replicate k 0) (length-drop n entries ∙ ap (λ (k : ℕ). k - n) l)))

  past_back : NoMore count wanted → zeros (drop n entries) ≡ true
  past_back e =
      ap zeros
      (subst (λ (c : List ℕ). drop n c ≡ replicate (route_limit - count) 0) (sym same) (subst (λ (m : ℕ). drop m wanted ≡ replicate (route_limit - count) 0) (sym counted) e))
      ∙ are_zeros (route_limit - count)

  part : take n entries ≡ take count wanted
  part = ap (λ (c : List ℕ). take n c) same ∙ ap (λ (m : ℕ). take m wanted) counted

-- a taken book has no more routes than it may have
pub few_taken : (w : List ℕ) (n : ℕ) → n ≡ route_count_of w → RoutesTaken w → n ≤ route_limit
few_taken w n counted r = omega (arith, few_counted w r.stand)

-- the tests, each of which a taken book passes
module _ (w f t : List ℕ) (n : ℕ) (counted : n ≡ route_count_of w) (from : f ≡ froms_of w) (to : t ≡ tos_of w) where
  pub froms_past : RoutesTaken w → zeros (drop n f) ≡ true
  froms_past r = past_back f (froms_of w) n (route_count_of w) from counted (no_more_froms w r.stand)

  pub tos_past : RoutesTaken w → zeros (drop n t) ≡ true
  tos_past r = past_back t (tos_of w) n (route_count_of w) to counted (no_more_tos w r.stand)

  module _ (few : n ≤ route_limit) (from-long : length f ≡ route_limit) (to-long : length t ≡ route_limit) where
    -- what is lent on are the routes that the words show
    pub lent_froms : take n f ≡ froms (routes_of w)
    lent_froms =
        part f (froms_of w) n (route_count_of w) from counted ∙
        sym (froms_shown w (ap length (sym from) ∙ from-long) (ap length (sym to) ∙ to-long) (omega arith))

    pub lent_tos : take n t ≡ tos (routes_of w)
    lent_tos =
        part t (tos_of w) n (route_count_of w) to counted ∙
        sym (tos_shown w (ap length (sym from) ∙ from-long) (ap length (sym to) ∙ to-long) (omega arith))

    sound_same : (P : Type 0) → (IsSound (froms (routes_of w)) (tos (routes_of w)) → P) → IsSound (take n f) (take n t) → P
    sound_same P k s = k (subst (λ (ts : List ℕ). IsSound (froms (routes_of w)) ts) lent_tos (subst (λ (fs : List ℕ). IsSound fs (take n t)) lent_froms s))

    -- with nothing past the count, the tables are taken just where they are sound
    pub tells : zeros (drop n f) ≡ true → zeros (drop n t) ≡ true → (r : Bool) → Tells (IsSound (take n f) (take n t)) r → Tells (RoutesTaken w) r
    tells zf zt true s = sound_same (RoutesTaken w) (λ x. record {
      stand = stand_shown w (ap length (sym from) ∙ from-long) (ap length (sym to) ∙ to-long) (omega arith)
          (past f (froms_of w) n (route_count_of w) from counted from-long zf) (past t (tos_of w) n (route_count_of w) to counted to-long zt);
      sound = x;
    }) s
    tells zf zt false s = λ r. s (subst (λ (ts : List ℕ). IsSound (take n f) ts) (sym lent_tos) (subst (λ (fs : List ℕ). IsSound fs (tos (routes_of w))) (sym lent_froms) r.sound))
