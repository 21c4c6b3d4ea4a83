-- The search for routes that fork. Assumes nothing.
use mathlib.Core.Path.{◌≡◌, sym, ap, ◌∙◌, subst}
use mathlib.Core.Logic.{◌⊎◌, inl, inr, ⊎_elim}
use mathlib.Core.Bool.{Bool, true, false, ◌||◌, true≢false}
use Prim.Native.Nat.{ℕ, ◌+◌, ◌*◌, ◌<◌, ◌≤◌}
use native.Mathlib.Omega.{arith}
use native.Mathlib.Nat.{eq-or-lt_of_le}
use native.Mathlib.Decide.{ℕ_discrete}
use mathlib.Core.List.{List}
use lib.ListN.{length, get_or, set, replicate, length-set, length-replicate}
use lib.Seq.{get_or-set_same, get_or-set_other}
use lib.Dec.{eqb}
use borrow.Author.Tests.{eqb-true, eq-eqb}
use Rattle.masks.specs.Bit.{width, bit, meeting}
use Rattle.masks.proofs.Bits.{bit_zero, meeting_some}
use Rattle.chains.specs.Tells.{Tells}
use Rattle.chains.proofs.Bools.{or_cases, or_left, or_right, test_tells}
use Rattle.reach.specs.Led.{turn}
use Rattle.gateway_checker.specs.Searches.{ForksEarlier}
use Rattle.reach.proofs.Leading.{bit_empty}
use Rattle.gateway_checker.proofs.Meeting.{meets_at}

module _ (starts onward : List ℕ) (down : Bool) where
  abbrev route : ℕ → ℕ
  route t = turn (length starts) down t

  -- one of the first t routes starts at g and leads on to y
  abbrev Leads : ℕ → ℕ → ℕ → Type 0
  Leads t g y = (u : ℕ) × (u < t) × (get_or starts (route u) 0 ≡ g) × (bit (get_or onward (route u) 0) y ≡ true)

  -- `seen` has what the first t routes lead on to, by where they start, and `forks` those of them that fork with an earlier one
  pub record Gathering (t : ℕ) (seen : List ℕ) (forks : ℕ) : Type 0 where
    pub within : t ≤ length starts
    pub long : length seen ≡ 2 * width
    pub seen_leads : (g y : ℕ) → bit (get_or seen g 0) y ≡ true → Leads t g y
    pub leads_seen : (g y : ℕ) → Leads t g y → bit (get_or seen g 0) y ≡ true
    pub fork_is : (a : ℕ) → bit forks a ≡ true → ForksEarlier starts onward down t a
    pub is_fork : (a : ℕ) → ForksEarlier starts onward down t a → bit forks a ≡ true

  pub gathering_start : Gathering 0 (replicate (2 * width) 0) 0
  gathering_start = record {
    within = omega arith;
    long = length-replicate {A = ℕ} (2 * width) 0;
    seen_leads = λ g y h. absurd (true≢false (sym h ∙ bit_empty (2 * width) g y));
    leads_seen = λ g y l. let z = l.1 in absurd (omega (arith, z));
    fork_is = λ a h. absurd (true≢false (sym h ∙ bit_zero a));
    is_fork = λ a f. let z = f.2 in absurd (omega (arith, z));
  }

  pub gathering_end : (t : ℕ) (seen : List ℕ) (forks : ℕ) → Gathering t seen forks → length starts ≤ t
      → (a : ℕ) → Tells (ForksEarlier starts onward down (length starts) a) (bit forks a)
  gathering_end t seen forks inv h a =
      let e : t ≡ length starts = omega (arith, inv.within) in
      test_tells (bit forks a) (λ b. subst (λ (m : ℕ). ForksEarlier starts onward down m a) e (inv.fork_is a b))
      (λ f. inv.is_fork a (subst (λ (m : ℕ). ForksEarlier starts onward down m a) (sym e) f))

  -- one route more, a, that starts at s
  module _ (t : ℕ) (seen : List ℕ) (forks : ℕ) (inv : Gathering t seen forks) (l : t < length starts) (a s : ℕ)
      (is : a ≡ route t) (from : s ≡ get_or starts a 0) (low : s < 2 * width) where
    earlier : (g y : ℕ) → Leads t g y → Leads (t + 1) g y
    earlier g y (u, b, e, h) = (u, omega arith, e, h)

    own : (y : ℕ) → bit (get_or onward a 0) y ≡ true → Leads (t + 1) s y
    own y h = (t, omega arith, ap (λ (x : ℕ). get_or starts x 0) (sym is) ∙ sym from, ap (λ (x : ℕ). bit (get_or onward x 0) y) (sym is) ∙ h)

    split : (g y : ℕ) → Leads (t + 1) g y → Leads t g y ⊎ ((s ≡ g) × (bit (get_or onward a 0) y ≡ true))
    split g y (u, b, e, h) =
        ⊎_elim
        (λ q. let r : a ≡ route u = is ∙ ap route (sym q) in inr (from ∙ ap (λ (x : ℕ). get_or starts x 0) r ∙ e, ap (λ (x : ℕ). bit (get_or onward x 0) y) r ∙ h))
        (λ c. inl (u, c, e, h))
        (eq-or-lt_of_le (omega arith))

    module _ (v : ℕ) (gets : (y : ℕ) → bit v y ≡ bit (get_or seen s 0) y || bit (get_or onward a 0) y) where
      at_start : get_or (set seen s v) s 0 ≡ v
      at_start = get_or-set_same seen s v 0 (omega (arith, inv.long))

      seen_leads : (g y : ℕ) → bit (get_or (set seen s v) g 0) y ≡ true → Leads (t + 1) g y
      seen_leads g y h = go (ℕ_discrete g s)
        where
          go : Dec (g ≡ s) → Leads (t + 1) g y
          go (yes q) =
              subst (λ (x : ℕ). Leads (t + 1) x y) (sym q)
              (⊎_elim (λ b. earlier s y (inv.seen_leads s y b)) (own y)
              (or_cases (bit (get_or seen s 0) y) (bit (get_or onward a 0) y)
              (sym (gets y) ∙ ap (λ (x : ℕ). bit x y) (sym at_start) ∙ ap (λ (x : ℕ). bit (get_or (set seen s v) x 0) y) (sym q) ∙ h)))
          go (no n) = earlier g y (inv.seen_leads g y (ap (λ (x : ℕ). bit x y) (sym (get_or-set_other seen s g v 0 n)) ∙ h))

      leads_seen : (g y : ℕ) → Leads (t + 1) g y → bit (get_or (set seen s v) g 0) y ≡ true
      leads_seen g y h = go (ℕ_discrete g s) (split g y h)
        where
          here : bit (get_or seen s 0) y || bit (get_or onward a 0) y ≡ true → g ≡ s → bit (get_or (set seen s v) g 0) y ≡ true
          here b q = ap (λ (x : ℕ). bit (get_or (set seen s v) x 0) y) q ∙ ap (λ (x : ℕ). bit x y) at_start ∙ gets y ∙ b

          go : Dec (g ≡ s) → Leads t g y ⊎ ((s ≡ g) × (bit (get_or onward a 0) y ≡ true)) → bit (get_or (set seen s v) g 0) y ≡ true
          go (yes q) (inl k) = here (or_left (bit (get_or seen s 0) y) (bit (get_or onward a 0) y) (ap (λ (x : ℕ). bit (get_or seen x 0) y) (sym q) ∙ inv.leads_seen g y k)) q
          go (no n) (inl k) = ap (λ (x : ℕ). bit x y) (get_or-set_other seen s g v 0 n) ∙ inv.leads_seen g y k
          go d (inr (e, k)) = here (or_right (bit (get_or seen s 0) y) (bit (get_or onward a 0) y) k) (sym e)

      before : (b : ℕ) → ForksEarlier starts onward down t b → ForksEarlier starts onward down (t + 1) b
      before b (i, u, li, lu, e, q, m) = (i, u, omega arith, lu, e, q, m)

      -- it forks where what was seen at its start meets what it leads on to
      meets_forks : meeting (get_or seen s 0) (get_or onward a 0) ≡ true → ForksEarlier starts onward down (t + 1) a
      meets_forks m =
          let k = meeting_some (get_or seen s 0) (get_or onward a 0) m in
          let w = inv.seen_leads s k.0 k.1 in
          (t, w.0, omega arith, w.1, is, w.2 ∙ from, meets_at (get_or onward (route w.0) 0) (get_or onward a 0) k.0 w.3 k.2)

      forks_meets : (b u : ℕ) → u < t → b ≡ a → get_or starts (route u) 0 ≡ get_or starts b 0 → meeting (get_or onward (route u) 0) (get_or onward b 0) ≡ true
          → meeting (get_or seen s 0) (get_or onward a 0) ≡ true
      forks_meets b u lu q e m =
          let k = meeting_some (get_or onward (route u) 0) (get_or onward b 0) m in
          meets_at (get_or seen s 0) (get_or onward a 0) k.0
          (inv.leads_seen s k.0 (u, lu, e ∙ ap (λ (x : ℕ). get_or starts x 0) q ∙ sym from, k.1))
          (ap (λ (x : ℕ). bit (get_or onward x 0) k.0) (sym q) ∙ k.2)

      -- a route that forks among one turn more did so before, or is a
      either : (b : ℕ) → ForksEarlier starts onward down (t + 1) b
          → ForksEarlier starts onward down t b ⊎ ((b ≡ a) × (meeting (get_or seen s 0) (get_or onward a 0) ≡ true))
      either b (i, u, li, lu, e, q, m) =
          ⊎_elim (λ z. let r : b ≡ a = e ∙ ap route z ∙ sym is in inr (r, forks_meets b u (omega arith) r q m)) (λ c. inl (i, u, c, lu, e, q, m)) (eq-or-lt_of_le (omega arith))

      pub gathering_fork : (f : ℕ) → meeting (get_or seen s 0) (get_or onward a 0) ≡ true → ((b : ℕ) → bit f b ≡ bit forks b || eqb b a) → Gathering (t + 1) (set seen s v) f
      gathering_fork f m bits = record {
        within = omega arith;
        long = length-set seen s v ∙ inv.long;
        seen_leads = seen_leads;
        leads_seen = leads_seen;
        fork_is = λ b h.
            ⊎_elim (λ x. before b (inv.fork_is b x))
            (λ x. subst (λ (y : ℕ). ForksEarlier starts onward down (t + 1) y) (sym (eqb-true b a x)) (meets_forks m))
            (or_cases (bit forks b) (eqb b a) (sym (bits b) ∙ h));
        is_fork = λ b h. bits b ∙ ⊎_elim (λ x. or_left (bit forks b) (eqb b a) (inv.is_fork b x)) (λ x. or_right (bit forks b) (eqb b a) (eq-eqb b a x.0)) (either b h);
      }

      pub gathering_keep : meeting (get_or seen s 0) (get_or onward a 0) ≡ false → Gathering (t + 1) (set seen s v) forks
      gathering_keep m = record {
        within = omega arith;
        long = length-set seen s v ∙ inv.long;
        seen_leads = seen_leads;
        leads_seen = leads_seen;
        fork_is = λ b h. before b (inv.fork_is b h);
        is_fork = λ b h. ⊎_elim (λ x. inv.is_fork b x) (λ x. absurd (true≢false (sym x.1 ∙ m))) (either b h);
      }
