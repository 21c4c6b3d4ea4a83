-- The signals of a message, passed one after the other. Assumes nothing.
use mathlib.Core.Path.{◌≡◌, refl, sym, ap, ◌∙◌, subst}
use mathlib.Core.Bool.{Bool, true, false, cond, ◌&&◌, ◌||◌, not, true≢false}
use mathlib.Core.List.{List, [], ◌∷◌, ◌++◌}
use Prim.Native.Nat.{ℕ, suc, ◌+◌, ◌-◌, ◌≤◌, ◌<◌}
use native.Mathlib.Omega.{arith}
use native.Mathlib.Numerals.{add-one}
use lib.Dec.{eqb}
use lib.ListN.{length, take, drop, get_or, set, drop_of_length-le}
use lib.Seq.{drop-cons, take-suc, length-take-le}
use borrow.Author.Tests.{eq-eqb, ne_eqb}
use Rattle.catalogue.specs.Find.{bits_of_spec}
use Rattle.catalogue.specs.Places.{place_of, no_place_spec}
use Rattle.catalogue.proofs.Placed.{no_bits}
use Rattle.books.specs.Book.{Placement, numbers, placement}
use Rattle.books.specs.Lines.{is_in, unknown_or_over, misplaced, meets_earlier, frame_bits}
use Rattle.books.specs.Good.{fits_after, good_after}
use Rattle.books.specs.Belonging.{in_run, bit_belongs, covers}
use Rattle.books.specs.Words.{side_by_side}
use Rattle.books.proofs.Tests.{neither}
use Rattle.books.proofs.Sides.{side_numbers}
use Rattle.masks.specs.Bit.{bit, meeting}
use Rattle.masks.proofs.Bits.{bit_zero}
use Rattle.placing.specs.Placing.{stands_alone}
use Rattle.placing.specs.Stamps.{fixed_place, at_fixed_start, fixed_stamp, Stamped, Below, stamped_at, stamped_after, stamped_test}
use Rattle.placing.proofs.Placing.{alone_past, unknown}
use Rattle.placing.proofs.Covering.{covers_none, covers_more, same_meeting}
use Rattle.placing.proofs.Fixed.{EachAlone, no_signal, alone_more, alone_wide, fixed_there, fixed_alone, others_alone, again_meets}
use Rattle.placing.proofs.Stamped.{stamped_none, stamped_more, below_next, below_more}

-- the signals before `at`, and those from it on
abbrev pub earlier : List ℕ → List ℕ → ℕ → List Placement
earlier ns ss at = side_by_side (take at ns) (take at ss)

abbrev later : List ℕ → List ℕ → ℕ → List Placement
later ns ss at = side_by_side (drop at ns) (drop at ss)

-- the signal at `at` has this number and this start
pub record Turn (ns ss : List ℕ) (at n s : ℕ) : Type 0 where
  pub within : at < length ns
  pub number : n ≡ get_or ns at 0
  pub start : s ≡ get_or ss at 0

side_more : (ns ss : List ℕ) (n s : ℕ) → length ss ≡ length ns → side_by_side (ns ++ (n ∷ [])) (ss ++ (s ∷ [])) ≡ side_by_side ns ss ++ (placement n s ∷ [])
unfolding side_by_side
side_more [] [] n s e = refl
side_more [] (x ∷ ss) n s e = let z : suc (length ss) ≡ 0 = e in absurd (omega arith)
side_more (x ∷ ns) [] n s e = let z : 0 ≡ suc (length ns) = e in absurd (omega arith)
side_more (x ∷ ns) (y ∷ ss) n s e = ap (◌∷◌ (placement x y)) (side_more ns ss n s (omega (arith, e)))

-- ---- what a signal has to pass

alone_fails : (u i m e : Bool) → not (u || m) ≡ false → not (u || (i || (m || e))) ≡ false
alone_fails true i m e h = refl
alone_fails false true m e h = refl
alone_fails false false true e h = refl
alone_fails false false false e h = let z : true ≡ false = h in let y : ◌≡◌ {A = ℕ} 0 1 = cc in absurd (omega arith)

meet_fails : (u i m e : Bool) → e ≡ true → not (u || (i || (m || e))) ≡ false
meet_fails true i m e h = refl
meet_fails false true m e h = refl
meet_fails false false true e h = refl
meet_fails false false false e h = ap not h

again_fails : (u i m e : Bool) → i ≡ true → not (u || (i || (m || e))) ≡ false
again_fails true i m e h = refl
again_fails false i m e h = rw h

all_pass : (u i m e : Bool) → not (u || m) ≡ true → i ≡ false → e ≡ false → not (u || (i || (m || e))) ≡ true
all_pass u i m e h f g = let n = neither u m h in rw (n.0, n.1, f, g)

module _ (others : List Placement) (p : Placement) where
  not_alone : stands_alone p ≡ false → fits_after others p ≡ false
  not_alone = alone_fails (unknown_or_over p) (is_in p.number (numbers others)) (misplaced p) (meets_earlier others p)

  not_apart : meets_earlier others p ≡ true → fits_after others p ≡ false
  not_apart = meet_fails (unknown_or_over p) (is_in p.number (numbers others)) (misplaced p) (meets_earlier others p)

  not_new : is_in p.number (numbers others) ≡ true → fits_after others p ≡ false
  not_new = again_fails (unknown_or_over p) (is_in p.number (numbers others)) (misplaced p) (meets_earlier others p)

  well : stands_alone p ≡ true → is_in p.number (numbers others) ≡ false → meets_earlier others p ≡ false → fits_after others p ≡ true
  well = all_pass (unknown_or_over p) (is_in p.number (numbers others)) (misplaced p) (meets_earlier others p)

-- ---- the loop

pub record Passed (ns ss lent : List ℕ) (filled : ℕ) (stamps : List ℕ) (stamp at : ℕ) : Type 0 where
  pub same : good_after (side_by_side (take at ns) (take at ss)) (side_by_side (drop at ns) (drop at ss)) ≡ good_after [] (side_by_side ns ss)
  pub alone : EachAlone (side_by_side (take at ns) (take at ss))
  pub bits : (k : ℕ) → bit filled k ≡ covers (side_by_side (take at ns) (take at ss)) k
  pub left : stamped_after (side_by_side (take at ns) (take at ss)) (side_by_side (drop at ns) (drop at ss)) stamp stamps ≡ stamped_after [] (side_by_side ns ss) stamp lent
  pub stamped : Stamped stamps stamp (take at ns)
  pub below : Below stamps (stamp + 1)

pub begin : (ns ss stamps : List ℕ) (stamp : ℕ) → Below stamps stamp → Passed ns ss stamps 0 stamps stamp 0
unfolding side_by_side
begin ns ss stamps stamp b = record {
  same = refl;
  alone = no_signal;
  bits = λ k. bit_zero k ∙ sym (covers_none k);
  left = refl;
  stamped = stamped_none stamps stamp b;
  below = below_next stamps stamp b;
}

module _ (ns ss lent : List ℕ) (filled : ℕ) (stamps : List ℕ) (stamp at : ℕ) (e : length ss ≡ length ns) (w : Passed ns ss lent filled stamps stamp at) where
  -- the answer, with the stamps as they are, is what the test of all gives
  abbrev Answers : Bool → Type 0
  Answers b = ◌≡◌ {A = Bool × List ℕ} (b, stamps) (stamped_test (side_by_side ns ss) stamp lent)

  both : (b : Bool) → b ≡ good_after [] (side_by_side ns ss) → stamps ≡ stamped_after [] (side_by_side ns ss) stamp lent → Answers b
  both b p q i = (p i, q i)

  pub end : length ns ≤ at → Answers true
  unfolding good_after stamped_after side_by_side
  end h =
      both true (sym (ap (λ (l : List ℕ). good_after (earlier ns ss at) (side_by_side l (drop at ss))) (drop_of_length-le ns h)) ∙ w.same)
      (sym (ap (λ (l : List ℕ). stamped_after (earlier ns ss at) (side_by_side l (drop at ss)) stamp stamps) (drop_of_length-le ns h)) ∙ w.left)

  module _ (n s : ℕ) (u : Turn ns ss at n s) where
    one : later ns ss at ≡ placement n s ∷ later ns ss (at + 1)
    unfolding side_by_side
    one = let h = u.within in let g : at < length ss = omega arith in rw (u.number, u.start, drop-cons ns at 0 h, drop-cons ss at 0 g, add-one at)

    rest : Bool
    rest = good_after (earlier ns ss at ++ (placement n s ∷ [])) (later ns ss (at + 1))

    step : fits_after (earlier ns ss at) (placement n s) && rest ≡ good_after [] (side_by_side ns ss)
    unfolding good_after rest
    step = sym (ap (good_after (earlier ns ss at)) one) ∙ w.same

    further : List ℕ
    further = stamped_after (earlier ns ss at ++ (placement n s ∷ [])) (later ns ss (at + 1)) stamp (stamped_at stamps (place_of n) stamp)

    left_step : cond (fits_after (earlier ns ss at) (placement n s)) further stamps ≡ stamped_after [] (side_by_side ns ss) stamp lent
    unfolding stamped_after further
    left_step = sym (ap (λ (l : List Placement). stamped_after (earlier ns ss at) l stamp stamps) one) ∙ w.left

    fail : fits_after (earlier ns ss at) (placement n s) ≡ false → Answers false
    fail f = both false (ap (λ (t : Bool). t && rest) (sym f) ∙ step) (ap (λ (t : Bool). cond t further stamps) (sym f) ∙ left_step)

    long : length (take at ss) ≡ length (take at ns)
    long = let h = u.within in length-take-le at ss (omega arith) ∙ sym (length-take-le at ns (omega arith))

    listed : numbers (earlier ns ss at) ≡ take at ns
    listed = side_numbers (take at ns) (take at ss) long

    pub refuse_alone : stands_alone (placement n s) ≡ false → Answers false
    refuse_alone f = fail (not_alone (earlier ns ss at) (placement n s) f)

    -- the catalogue has no such signal
    pub refuse_unknown : place_of n ≡ no_place_spec → Answers false
    refuse_unknown f = refuse_alone (ap (λ (t : Bool). not (t || misplaced (placement n s))) (unknown n s (no_bits n f)))

    module _ (p : ℕ) (place : (p ≡ place_of n) × (p < no_place_spec)) (last : ℕ) (room : (last < 64) × (64 - last ≡ bits_of_spec n)) where
      known_bits : (0 < 64 - last) × (64 - last ≡ bits_of_spec n)
      known_bits = let l = room.0 in (omega arith, room.1)

      pub refuse_over : last < s → Answers false
      refuse_over l = let i = room.0 in refuse_alone (sym (alone_past n s (64 - last) known_bits (omega arith)))

      module _ (g : s ≤ last) where
        inside : s ≤ frame_bits - (64 - last)
        inside = let i = room.0 in omega arith

        there : place_of n < no_place_spec
        there = subst (λ (q : ℕ). q < no_place_spec) place.0 place.1

        told : fixed_place p ≡ false → eqb (get_or stamps p 0) stamp ≡ is_in n (numbers (earlier ns ss at))
        told f =
            ap (λ (q : ℕ). eqb (get_or stamps q 0) stamp) place.0
            ∙ w.stamped n there (ap fixed_place (sym place.0) ∙ f)
            ∙ sym (ap (is_in n) listed)

        fixed_told : fixed_place p ≡ true → at_fixed_start p s ≡ stands_alone (placement n s)
        fixed_told f =
            ap (λ (q : ℕ). at_fixed_start q s) place.0
            ∙ fixed_alone n s (64 - last) known_bits inside (ap fixed_place (sym place.0) ∙ f)

        -- it stands where it may not, or comes again
        pub refuse_again : stamp ≤ get_or stamps p 0 → at_fixed_start p s ≡ false → Answers false
        refuse_again k f = go (fixed_place p) refl
          where
            go : (t : Bool) → fixed_place p ≡ t → Answers false
            go true e = refuse_alone (sym (fixed_told e) ∙ f)
            go false e = let l = w.below.below p e in fail (not_new (earlier ns ss at) (placement n s) (sym (told e) ∙ eq-eqb (get_or stamps p 0) stamp (omega (arith, k, l))))

        module _ (run : ℕ) (filled-here : (k : ℕ) → bit run k ≡ in_run s (64 - last) k) where
          own : (k : ℕ) → bit run k ≡ bit_belongs (placement n s) k
          own k = filled-here k ∙ ap (λ (b : ℕ). in_run s b k) room.1

          same_bits : meeting filled run ≡ meets_earlier (earlier ns ss at) (placement n s)
          same_bits = same_meeting (earlier ns ss at) (placement n s) filled run w.bits own (alone_wide w.alone) (omega (arith, known_bits.0, known_bits.1))

          pub refuse_meeting : meeting filled run ≡ true → Answers false
          refuse_meeting f = fail (not_apart (earlier ns ss at) (placement n s) (sym same_bits ∙ f))

          module _ (apart : meeting filled run ≡ false) (more : ℕ) (wider : (k : ℕ) → bit more k ≡ bit filled k || bit run k) (stamps' : List ℕ) where
            next : stands_alone (placement n s) ≡ true → is_in n (numbers (earlier ns ss at)) ≡ false → stamps' ≡ stamped_at stamps (place_of n) stamp
                → Passed ns ss lent more stamps' stamp (at + 1)
            unfolding rest further
            next alone new put =
                let passes = well (earlier ns ss at) (placement n s) alone new (sym same_bits ∙ apart) in
                let h = u.within in
                let gs : at < length ss = omega arith in
                let longer : earlier ns ss (at + 1) ≡ earlier ns ss at ++ (placement n s ∷ []) =
                rw (add-one at, take-suc ns at 0 h, take-suc ss at 0 gs, ← u.number, ← u.start) (side_more (take at ns) (take at ss) n s long)
                in
                record {
                  same = ap (λ (l : List Placement). good_after l (later ns ss (at + 1))) longer ∙ sym (ap (λ (t : Bool). t && rest) passes) ∙ step;
                  alone = subst EachAlone (sym longer) (alone_more (placement n s) w.alone alone);
                  bits = λ k. wider k ∙ ap (λ (t : Bool). t || bit run k) (w.bits k) ∙ ap (λ (t : Bool). covers (earlier ns ss at) k || t) (own k) ∙
                      sym (covers_more (earlier ns ss at) (placement n s) k) ∙ ap (λ (l : List Placement). covers l k) (sym longer);
                  left = ap (λ (l : List Placement). stamped_after l (later ns ss (at + 1)) stamp stamps') longer ∙
                      ap (stamped_after (earlier ns ss at ++ (placement n s ∷ [])) (later ns ss (at + 1)) stamp) put ∙
                      sym (ap (λ (t : Bool). cond t further stamps) passes) ∙ left_step;
                  stamped = rw (put, add-one at, take-suc ns at 0 h, ← u.number) (stamped_more stamps stamp (take at ns) n w.below.each there w.stamped);
                  below = rw put (below_more stamps stamp (place_of n) w.below);
                }

            -- a signal that may stand anywhere comes for the first time
            pub next_other : stamp ≤ fixed_stamp → get_or stamps p 0 < stamp → stamps' ≡ set stamps p stamp → Passed ns ss lent more stamps' stamp (at + 1)
            next_other most i put = go (fixed_place p) refl
              where
                go : (t : Bool) → fixed_place p ≡ t → Passed ns ss lent more stamps' stamp (at + 1)
                go true e = let v = w.below.fixed p e in absurd (omega (arith, v, i, most))
                go false e =
                    let f : fixed_place (place_of n) ≡ false = ap fixed_place (sym place.0) ∙ e in
                    next (sym (others_alone n s (64 - last) known_bits inside f)) (sym (told e) ∙ ne_eqb (get_or stamps p 0) stamp (λ z. omega (arith, z, i)))
                    (put ∙ ap (λ (q : ℕ). set stamps q stamp) place.0 ∙ ap (λ (t : Bool). cond t stamps (set stamps (place_of n) stamp)) (sym f))

            -- one of the two that have a start of their own stands there
            pub next_fixed : at_fixed_start p s ≡ true → stamps' ≡ stamps → Passed ns ss lent more stamps' stamp (at + 1)
            next_fixed i put =
                let e = fixed_there p s i in
                let f : fixed_place (place_of n) ≡ true = ap fixed_place (sym place.0) ∙ e in
                let alone = sym (fixed_told e) ∙ i in
                next alone (go alone f (is_in n (numbers (earlier ns ss at))) refl)
                (put ∙ ap (λ (t : Bool). cond t stamps (set stamps (place_of n) stamp)) (sym f))
              where
                go : stands_alone (placement n s) ≡ true → fixed_place (place_of n) ≡ true → (t : Bool) → is_in n (numbers (earlier ns ss at)) ≡ t
                    → is_in n (numbers (earlier ns ss at)) ≡ false
                go alone f true z =
                    absurd (true≢false (sym (again_meets (earlier ns ss at) (placement n s) w.alone alone f z) ∙ sym same_bits ∙ apart))
                go alone f false z = z
