-- The search for a place's slot. Assumes nothing.
use mathlib.Core.Path.{◌≡◌, refl, sym, ap, ◌∙◌}
use mathlib.Core.Bool.{Bool, true, ◌||◌, or-true}
use Prim.Native.Nat.{ℕ, suc, ◌+◌, ◌-◌, ◌%◌, ◌<◌, ◌≤◌}
use native.Mathlib.Omega.{arith}
use mathlib.Core.List.{List}
use lib.ListN.{get_or}
use lib.Dec.{eqb}
use borrow.Author.Count.{below_more}
use borrow.Author.Tests.{eq-eqb, ne_eqb}
use Rattle.numbering.specs.Slots.{slot_count, slot_of, stops_at, seek_from, seek_end, Stops, Laid}
use Rattle.numbering.proofs.Empties.{empties_none}

module _ (places slots : List ℕ) (place : ℕ) where
  -- the search has not stopped, and stops from here on where it stops at all
  pub record Seeking (at tries : ℕ) : Type 0 where
    pub within : tries ≤ slot_count
    pub low : at < slot_count
    pub turned : at ≡ (slot_of place + tries) % slot_count
    pub rest : seek_from places slots place (slot_count - tries) at ≡ seek_end places slots place
    pub full : (t : ℕ) → t < tries → get_or slots ((slot_of place + t) % slot_count) 0 ≡ 0 → ⊥

  pub seeking_start : (at : ℕ) → at ≡ slot_of place → at < slot_count → Seeking at 0
  unfolding seek_end
  seeking_start at e l = record {
    within = omega arith;
    low = l;
    turned = omega arith;
    rest = ap (λ (a : ℕ). seek_from places slots place slot_count a) e;
    full = λ t h. absurd (omega arith);
  }

  module _ (at tries : ℕ) (inv : Seeking at tries) where
    -- after every slot none would be empty
    pub seeking_vain : (i : ℕ) → Laid places slots i → i < slot_count → slot_count ≤ tries → ⊥
    seeking_vain i laid l h =
        let none = empties_none slots (λ x b. every x (omega (arith, laid.long)) (slot_of place) (omega arith) inv.full) in
        omega (arith, none, laid.room)
      where
        every : (x : ℕ) → x < slot_count → (s : ℕ) → s < slot_count → ((t : ℕ) → t < tries → get_or slots ((s + t) % slot_count) 0 ≡ 0 → ⊥) → get_or slots x 0 ≡ 0 → ⊥
        every x b s k f =
            let e : (s + (x + slot_count - s) % slot_count) % slot_count ≡ x = omega arith in
            λ z. f ((x + slot_count - s) % slot_count) (omega arith) (ap (λ (y : ℕ). get_or slots y 0) e ∙ z)

    module _ (l : tries < slot_count) where
      one : seek_from places slots place (suc (slot_count - (tries + 1))) at ≡ seek_end places slots place
      one = let e : slot_count - tries ≡ suc (slot_count - (tries + 1)) = omega arith in ap (λ (t : ℕ). seek_from places slots place t at) (sym e) ∙ inv.rest

      stop : stops_at places slots place at ≡ true → Stops places slots place at
      unfolding seek_from
      stop s = record { end = rw s at one; low = inv.low; stops = s }

      pub seeking_empty : (key : ℕ) → key ≡ get_or slots at 0 → key ≡ 0 → Stops places slots place at
      seeking_empty key is z = stop (rw (eq-eqb (get_or slots at 0) 0 (sym is ∙ z)) refl)

      pub seeking_met : (key : ℕ) → key ≡ get_or slots at 0 → get_or places (key - 1) 0 ≡ place → Stops places slots place at
      seeking_met key is e =
          stop
          (ap (λ (b : Bool). eqb (get_or slots at 0) 0 || b) (eq-eqb (get_or places (get_or slots at 0 - 1) 0) place (ap (λ (k : ℕ). get_or places (k - 1) 0) (sym is) ∙ e))
          ∙ or-true (eqb (get_or slots at 0) 0))

      pub seeking_on : (key : ℕ) → key ≡ get_or slots at 0 → (key ≡ 0 → ⊥) → (get_or places (key - 1) 0 ≡ place → ⊥) → Seeking ((at + 1) % slot_count) (tries + 1)
      unfolding seek_from
      seeking_on key is nz ne = record {
        within = omega arith;
        low = omega arith;
        turned = let t = inv.turned in omega arith;
        rest = rw (
          ne_eqb (get_or slots at 0) 0 (λ z. nz (is ∙ z)),
          ne_eqb (get_or places (get_or slots at 0 - 1) 0) place (λ e. ne (ap (λ (k : ℕ). get_or places (k - 1) 0) is ∙ e)),
        ) at one;
        full = below_more (λ (t : ℕ). get_or slots ((slot_of place + t) % slot_count) 0 ≡ 0 → ⊥) tries inv.full
            (λ z. nz (is ∙ ap (λ (y : ℕ). get_or slots y 0) inv.turned ∙ z));
      }
