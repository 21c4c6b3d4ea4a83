-- One place more is laid. Assumes nothing.
use mathlib.Core.Path.{◌≡◌, refl, sym, ap, ◌∙◌}
use mathlib.Core.Logic.{◌⊎◌, inl, inr, ⊎_elim}
use mathlib.Core.Bool.{Bool, true, false, ◌||◌, or-true}
use Prim.Native.Nat.{ℕ, zero, suc, ◌+◌, ◌-◌, ◌%◌, ◌<◌, ◌≤◌}
use native.Mathlib.Omega.{arith}
use native.Mathlib.Nat.{eq-or-lt_of_le}
use native.Mathlib.Decide.{ℕ_discrete}
use mathlib.Core.List.{List}
use lib.ListN.{length, get_or, set, replicate, length-set}
use lib.Seq.{get_or-set_same, get_or-set_other}
use lib.Dec.{eqb}
use borrow.Author.Count.{below_more}
use borrow.Author.Tests.{eqb-true, eq-eqb, ne_eqb}
use Rattle.zeros.proofs.Gathering.{zero_at}
use Rattle.numbering.specs.Numbers.{FirstAt, Numbered, NumbersOf}
use Rattle.numbering.specs.Slots.{slot_count, slot_of, stops_at, seek_from, seek_end, Stops, Laid}
use Rattle.numbering.proofs.Empties.{empties_set, empties_all}
use Rattle.numbering.proofs.Firsts.{first_at_law, first_moved}

laid_start : (places : List ℕ) → Laid places (replicate slot_count 0) 0
laid_start places = record {
  long = refl;
  low = λ x. omega (arith, zero_at slot_count x);
  room = omega (arith, empties_all slot_count);
  found = λ k r l. absurd (omega arith);
}

seek_stop : (places slots : List ℕ) (place t at : ℕ) → stops_at places slots place at ≡ true → seek_from places slots place (suc t) at ≡ at
unfolding seek_from
seek_stop places slots place t at e = rw e refl

seek_on : (places slots : List ℕ) (place t at : ℕ) → stops_at places slots place at ≡ false
    → seek_from places slots place (suc t) at ≡ seek_from places slots place t ((at + 1) % slot_count)
unfolding seek_from
seek_on places slots place t at e = rw e refl

seek_none : (places slots : List ℕ) (place at : ℕ) → seek_from places slots place 0 at ≡ at
unfolding seek_from
seek_none places slots place at = refl

module _ (places slots : List ℕ) (i : ℕ) (laid : Laid places slots i) where
  -- a place that stood before is found
  again : (m r : ℕ) → m < i → get_or places m 0 ≡ get_or places i 0 → FirstAt places i r → get_or slots (seek_end places slots (get_or places i 0)) 0 ≡ r + 1
  again m r l e f = ap (λ (p : ℕ). get_or slots (seek_end places slots p) 0) (sym e) ∙ laid.found m r l (first_moved places i m r f e)

  module _ (at key place : ℕ) (here : place ≡ get_or places i 0) (stop : Stops places slots place at) (is : key ≡ get_or slots at 0) where
    ends : at ≡ seek_end places slots (get_or places i 0)
    ends = stop.end ∙ ap (seek_end places slots) here

    key_is : key ≡ get_or slots (seek_end places slots (get_or places i 0)) 0
    key_is = is ∙ ap (λ (x : ℕ). get_or slots x 0) ends

    -- its slot holds where it stands first
    pub laid_met : (key ≡ 0 → ⊥) → FirstAt places i (key - 1) × Laid places slots (i + 1)
    laid_met nz = go (first_at_law places i)
      where
        e : get_or places (key - 1) 0 ≡ get_or places i 0
        e = ap (λ (k : ℕ). get_or places (k - 1) 0) is ∙ eqb-true _ _ (sym (rw (ne_eqb (get_or slots at 0) 0 (λ z. nz (is ∙ z)))) ∙ stop.stops) ∙ here

        before : key - 1 < i
        before = omega (arith, laid.low at, is, nz)

        one : (k r : ℕ) → (k ≡ i) ⊎ (k < i) → FirstAt places k r → get_or slots (seek_end places slots (get_or places k 0)) 0 ≡ r + 1
        one k r (inl q) f =
            ap (λ (x : ℕ). get_or slots (seek_end places slots (get_or places x 0)) 0) q
            ∙ again (key - 1) r before e (first_moved places k i r f (ap (λ (x : ℕ). get_or places x 0) (sym q)))
        one k r (inr l) f = laid.found k r l f

        go : (r : ℕ) × FirstAt places i r → FirstAt places i (key - 1) × Laid places slots (i + 1)
        go (r, f) =
            let q : r ≡ key - 1 = omega (arith, key_is, again (key - 1) r before e f) in (
              rw q at f,
              record {
                long = laid.long;
                low = λ x. omega (arith, laid.low x);
                room = omega (arith, laid.room);
                found = λ k r l. one k r (eq-or-lt_of_le (omega arith));
              },
            )

    module _ (z : key ≡ 0) where
      new : (m : ℕ) → m < i → get_or places m 0 ≡ get_or places i 0 → ⊥
      new m l e = let f = first_at_law places i in omega (arith, key_is, z, again m f.0 l e f.1)

      abbrev more : List ℕ
      more = set slots at (i + 1)

      other : (x : ℕ) → (x ≡ at → ⊥) → get_or more x 0 ≡ get_or slots x 0
      other x n = get_or-set_other slots at x (i + 1) 0 n

      -- the searches for the places that are laid, and for the new one, stop where they did
      same_end : (place t a : ℕ) → (get_or slots (seek_from places slots place t a) 0 ≡ 0 → get_or places i 0 ≡ place) → at < length slots
          → seek_from places more place t a ≡ seek_from places slots place t a
      same_end place zero a h l = seek_none places more place a ∙ sym (seek_none places slots place a)
      same_end place (suc t) a h l = go (λ k. same_end place t ((a + 1) % slot_count) k l) (ℕ_discrete a at) (stops_at places slots place a) refl
        where
          go : ((get_or slots (seek_from places slots place t ((a + 1) % slot_count)) 0 ≡ 0 → get_or places i 0 ≡ place)
              → seek_from places more place t ((a + 1) % slot_count) ≡ seek_from places slots place t ((a + 1) % slot_count))
              → Dec (a ≡ at) → (b : Bool) → stops_at places slots place a ≡ b → seek_from places more place (suc t) a ≡ seek_from places slots place (suc t) a
          go rest (yes q) b s =
              let zero_here : get_or slots a 0 ≡ 0 = ap (λ (x : ℕ). get_or slots x 0) q ∙ sym is ∙ z in
              let stops : stops_at places slots place a ≡ true = rw (eq-eqb (get_or slots a 0) 0 zero_here) refl in
              let here : get_or more a 0 ≡ i + 1 = ap (λ (x : ℕ). get_or more x 0) q ∙ get_or-set_same slots at (i + 1) 0 l in
              let back : get_or more a 0 - 1 ≡ i = omega (arith, here) in
              let p : get_or places i 0 ≡ place = h (ap (λ (x : ℕ). get_or slots x 0) (seek_stop places slots place t a stops) ∙ zero_here) in
              let met : eqb (get_or places (get_or more a 0 - 1) 0) place ≡ true = eq-eqb _ _ (ap (λ (x : ℕ). get_or places x 0) back ∙ p) in
              seek_stop places more place t a (ap (λ (c : Bool). eqb (get_or more a 0) 0 || c) met ∙ or-true (eqb (get_or more a 0) 0))
              ∙ sym (seek_stop places slots place t a stops)
          go rest (no n) true s = seek_stop places more place t a (rw (other a n) s) ∙ sym (seek_stop places slots place t a s)
          go rest (no n) false s =
              let on = seek_on places slots place t a s in
              seek_on places more place t a (rw (other a n) s)
              ∙ rest (λ y. h (ap (λ (x : ℕ). get_or slots x 0) on ∙ y))
              ∙ sym on

      end_same : (place : ℕ) → (get_or slots (seek_end places slots place) 0 ≡ 0 → get_or places i 0 ≡ place) → at < length slots
          → seek_end places more place ≡ seek_end places slots place
      unfolding seek_end
      end_same place h l = same_end place slot_count (slot_of place) h l

      -- it is laid in the empty slot where its search stopped
      pub laid_new : FirstAt places i i × Laid places more (i + 1)
      laid_new = (
        record { within = omega arith; same = refl; none_before = new },
        record {
          long = length-set slots at (i + 1) ∙ laid.long;
          low = λ x. low x (ℕ_discrete x at);
          room = omega (arith, laid.room, empties_set slots at (i + 1));
          found = λ k r l. found k r (eq-or-lt_of_le (omega arith));
        },
      )
        where
          l : at < length slots
          l = omega (arith, laid.long, stop.low)

          low : (x : ℕ) → Dec (x ≡ at) → get_or more x 0 ≤ i + 1
          low x (yes q) = omega (arith, ap (λ (y : ℕ). get_or more y 0) q, get_or-set_same slots at (i + 1) 0 l)
          low x (no n) = omega (arith, other x n, laid.low x)

          found : (k r : ℕ) → (k ≡ i) ⊎ (k < i) → FirstAt places k r → get_or more (seek_end places more (get_or places k 0)) 0 ≡ r + 1
          found k r (inl q) f =
              let r_is : r ≡ i = ⊎_elim (λ e. e) (λ b. absurd (new r b (f.same ∙ ap (λ (x : ℕ). get_or places x 0) q))) (eq-or-lt_of_le (omega (arith, f.within))) in
              ap (λ (x : ℕ). get_or more (seek_end places more (get_or places x 0)) 0) q
              ∙ ap (λ (x : ℕ). get_or more x 0) (end_same (get_or places i 0) (λ y. refl) l ∙ sym ends)
              ∙ get_or-set_same slots at (i + 1) 0 l
              ∙ ap (λ (x : ℕ). x + 1) (sym r_is)
          found k r (inr b) f =
              let old = laid.found k r b f in
              ap (λ (x : ℕ). get_or more x 0) (end_same (get_or places k 0) (λ y. absurd (omega (arith, y, old))) l)
              ∙ other (seek_end places slots (get_or places k 0)) (λ q. absurd (omega (arith, ap (λ (x : ℕ). get_or slots x 0) q, old, is, z)))
              ∙ old

-- of the m places the first i are laid and have their numbers
pub record Numbering (places numbers₀ : List ℕ) (m i : ℕ) (slots numbers : List ℕ) : Type 0 where
  pub within : i ≤ m
  pub laid : Laid places slots i
  pub long : length numbers ≡ length numbers₀
  pub rest : (x : ℕ) → m ≤ x → get_or numbers x 0 ≡ get_or numbers₀ x 0
  pub done : (x : ℕ) → x < i → FirstAt places x (get_or numbers x 0)

pub numbering_start : (places numbers : List ℕ) (m : ℕ) → Numbering places numbers m 0 (replicate slot_count 0) numbers
numbering_start places numbers m = record { within = omega arith; laid = laid_start places; long = refl; rest = λ x l. refl; done = λ x l. absurd (omega arith) }

pub numbering_more : (places numbers₀ : List ℕ) (m i : ℕ) (slots numbers : List ℕ) → Numbering places numbers₀ m i slots numbers → i < m → i < length numbers
    → (r : ℕ) (slots' : List ℕ) → FirstAt places i r → Laid places slots' (i + 1) → Numbering places numbers₀ m (i + 1) slots' (set numbers i r)
numbering_more places numbers₀ m i slots numbers inv l il r slots' f laid = record {
  within = omega arith;
  laid = laid;
  long = length-set numbers i r ∙ inv.long;
  rest = λ x b. get_or-set_other numbers i x r 0 (λ z. absurd (omega arith)) ∙ inv.rest x b;
  done = below_more (λ (x : ℕ). FirstAt places x (get_or (set numbers i r) x 0)) i
      (λ x b. rw (get_or-set_other numbers i x r 0 (λ z. absurd (omega arith))) (inv.done x b))
      (rw (get_or-set_same numbers i r 0 il) f);
}

pub numbering_end : (places numbers₀ : List ℕ) (m i : ℕ) (slots numbers : List ℕ) → Numbering places numbers₀ m i slots numbers
    → length places ≡ m → m ≤ i → NumbersOf places numbers₀ numbers
unfolding Numbered
numbering_end places numbers₀ m i slots numbers inv e h = record {
  numbered = λ x l. inv.done x (omega arith);
  long = inv.long;
  rest = λ x l. inv.rest x (omega arith);
}
