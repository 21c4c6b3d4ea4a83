-- Placements parted among messages, one message after the other. Assumes nothing.
use mathlib.Core.Path.{◌≡◌, refl, sym, ap, ◌∙◌}
use mathlib.Core.Bool.{Bool, true, false, ◌&&◌, ◌||◌, not, and-eq-true_iff}
use mathlib.Core.List.{List, [], ◌∷◌, ◌++◌}
use Prim.Native.Nat.{ℕ, zero, suc, ◌+◌, ◌-◌, ◌≤◌, ◌<◌}
use native.Mathlib.Omega.{arith}
use native.Mathlib.Numerals.{add-one}
use lib.Dec.{eqb, leb}
use lib.ListN.{length, take, drop, get_or, length-append, length-drop, take-append-drop, drop_of_length-le}
use lib.Seq.{drop-cons, drop-drop, length-take-le, take_at, drop_at}
use borrow.Author.Tests.{le-leb, lt-leb, leb-true, eq-eqb, ne_eqb, eqb-true, eqb-false}
use Rattle.books.specs.Book.{Placement, Message, identifiers, all_placements}
use Rattle.books.specs.Good.{good_after, good_from}
use Rattle.books.specs.Lines.{is_in, identifier_limit}
use Rattle.books.specs.Words.{ends_after, side_by_side, shown}
use Rattle.books.proofs.Sides.{side_length}
use Rattle.columns.specs.Identifiers.{distinct_after}
use Rattle.tables.specs.Testing.{parted}

-- ---- parts of two columns side by side

side_take : (n : ℕ) (ns ss : List ℕ) → side_by_side (take n ns) (take n ss) ≡ take n (side_by_side ns ss)
unfolding side_by_side
side_take zero ns ss = refl
side_take (suc n) [] ss = refl
side_take (suc n) (x ∷ ns) [] = refl
side_take (suc n) (x ∷ ns) (y ∷ ss) = ap (◌∷◌ (record { number = x; start = y })) (side_take n ns ss)

side_drop : (n : ℕ) (ns ss : List ℕ) → side_by_side (drop n ns) (drop n ss) ≡ drop n (side_by_side ns ss)
unfolding side_by_side
side_drop zero ns ss = refl
side_drop (suc n) [] ss = refl
side_drop (suc n) (x ∷ ns) [] = none (drop n ns)
  where
    none : (l : List ℕ) → side_by_side l [] ≡ []
    none [] = refl
    none (z ∷ l) = refl
side_drop (suc n) (x ∷ ns) (y ∷ ss) = side_drop n ns ss

-- ---- the loop over the ends

pub record Reached (ends ns ss : List ℕ) (begin at : ℕ) : Type 0 where
  pub within : begin ≤ length ns
  pub same : parted begin (drop at ends) (drop begin (side_by_side ns ss)) ≡ parted 0 ends (side_by_side ns ss)

pub begin_parted : (ends ns ss : List ℕ) → Reached ends ns ss 0 0
begin_parted ends ns ss = record { within = omega arith; same = refl }

module _ (ends ns ss : List ℕ) (begin at : ℕ) (e : length ss ≡ length ns) (r : Reached ends ns ss begin at) where
  left : length (drop begin (side_by_side ns ss)) ≡ length ns - begin
  left = length-drop begin (side_by_side ns ss) ∙ ap (λ (n : ℕ). n - begin) (side_length ns ss e)

  pub end_parted : length ends ≤ at → eqb begin (length ns) ≡ parted 0 ends (side_by_side ns ss)
  unfolding parted
  end_parted h =
      go (eqb begin (length ns)) refl ∙ sym (ap (λ (l : List ℕ). parted begin l (drop begin (side_by_side ns ss))) (drop_of_length-le ends h)) ∙ r.same
    where
      go : (t : Bool) → eqb begin (length ns) ≡ t → eqb begin (length ns) ≡ eqb (length (drop begin (side_by_side ns ss))) 0
      go true f = f ∙ sym (eq-eqb _ 0 (left ∙ (let g = eqb-true begin (length ns) f in omega arith)))
      go false f = f ∙ sym (ne_eqb (length (drop begin (side_by_side ns ss))) 0 (λ z. eqb-false begin (length ns) f (omega (arith, r.within, left, z))))

  module _ (end : ℕ) (h : at < length ends) (ee : end ≡ get_or ends at 0) where
    -- the signals that are left, and what is left of the test after this message
    rest : List Placement
    rest = drop begin (side_by_side ns ss)

    after : Bool
    after = good_after [] (take (end - begin) rest) && parted end (drop (at + 1) ends) (drop (end - begin) rest)

    one : drop at ends ≡ end ∷ drop (at + 1) ends
    one = drop-cons ends at 0 h ∙ (cc (add-one at))

    step : leb begin end && (leb (end - begin) (length rest) && after) ≡ parted 0 ends (side_by_side ns ss)
    unfolding parted rest after
    step = sym (ap (λ (l : List ℕ). parted begin l (drop begin (side_by_side ns ss))) one) ∙ r.same

    pub refuse_back : end < begin → false ≡ parted 0 ends (side_by_side ns ss)
    refuse_back l = ap (λ (t : Bool). t && (leb (end - begin) (length rest) && after)) (sym (lt-leb begin end l)) ∙ step

    module _ (l : begin ≤ end) where
      second : leb (end - begin) (length rest) && after ≡ parted 0 ends (side_by_side ns ss)
      second = ap (λ (t : Bool). t && (leb (end - begin) (length rest) && after)) (sym (le-leb begin end l)) ∙ step

      pub refuse_past : length ns < end → false ≡ parted 0 ends (side_by_side ns ss)
      unfolding rest
      refuse_past g = ap (λ (t : Bool). t && after) (sym (lt-leb (end - begin) (length rest) (omega (arith, left, r.within)))) ∙ second

      module _ (g : end ≤ length ns) where
        third : after ≡ parted 0 ends (side_by_side ns ss)
        unfolding rest
        third = ap (λ (t : Bool). t && after) (sym (le-leb (end - begin) (length rest) (omega (arith, left, r.within)))) ∙ second

        -- the message's own numbers and starts
        module _ (own own' : List ℕ) (eo : own ≡ take (end - begin) (drop begin ns)) (eo' : own' ≡ take (end - begin) (drop begin ss)) where
          its : side_by_side own own' ≡ take (end - begin) rest
          unfolding rest
          its = rw (eo, eo') (side_take (end - begin) (drop begin ns) (drop begin ss) ∙ ap (take (end - begin)) (side_drop begin ns ss))

          pub refuse_message : good_after [] (side_by_side own own') ≡ false → false ≡ parted 0 ends (side_by_side ns ss)
          unfolding after
          refuse_message f =
              ap (λ (t : Bool). t && parted end (drop (at + 1) ends) (drop (end - begin) rest)) (sym (sym (ap (good_after []) its) ∙ f)) ∙ third

          pub next_parted : good_after [] (side_by_side own own') ≡ true → Reached ends ns ss end (at + 1)
          unfolding after rest
          next_parted f =
              let k : begin + (end - begin) ≡ end = omega arith in
              let d : drop (end - begin) (drop begin (side_by_side ns ss)) ≡ drop end (side_by_side ns ss) = drop-drop (end - begin) begin (side_by_side ns ss) ∙ ap (λ (n : ℕ). drop n (side_by_side ns ss)) k in
              record {
                within = g;
                same = ap (parted end (drop (at + 1) ends)) (sym d) ∙
                    ap (λ (t : Bool). t && parted end (drop (at + 1) ends) (drop (end - begin) rest)) (sym (sym (ap (good_after []) its) ∙ f)) ∙ third;
              }

-- ---- messages shown by ends that part all placements

record Split (n e : ℕ) (es : List ℕ) (ps : List Placement) : Type 0 where
  rises : n ≤ e
  fits : e - n ≤ length ps
  stands : good_after [] (take (e - n) ps) ≡ true
  others : parted e es (drop (e - n) ps) ≡ true

split : (n e : ℕ) (es : List ℕ) (ps : List Placement) → parted n (e ∷ es) ps ≡ true → Split n e es ps
unfolding parted
split n e es ps h =
    let a = (and-eq-true_iff (leb n e) _).0 h in
    let b = (and-eq-true_iff (leb (e - n) (length ps)) _).0 a.1 in
    let c = (and-eq-true_iff (good_after [] (take (e - n) ps)) _).0 b.1 in
    record { rises = leb-true _ _ a.0; fits = leb-true _ _ b.0; stands = c.0; others = c.1 }

pub shown_ids : (n : ℕ) (is es : List ℕ) (ps : List Placement) → length is ≡ length es → identifiers (shown n is es ps) ≡ is
unfolding shown
shown_ids n [] es ps l = refl
shown_ids n (i ∷ is) [] ps l = let z : suc (length is) ≡ 0 = l in absurd (omega arith)
shown_ids n (i ∷ is) (e ∷ es) ps l = ap (◌∷◌ i) (shown_ids e is es (drop (e - n) ps) (omega (arith, l)))

pub shown_ends : (n : ℕ) (is es : List ℕ) (ps : List Placement) → length is ≡ length es → parted n es ps ≡ true → ends_after n (shown n is es ps) ≡ es
unfolding shown ends_after
shown_ends n [] [] ps l h = refl
shown_ends n [] (e ∷ es) ps l h = let z : 0 ≡ suc (length es) = l in absurd (omega arith)
shown_ends n (i ∷ is) [] ps l h = let z : suc (length is) ≡ 0 = l in absurd (omega arith)
shown_ends n (i ∷ is) (e ∷ es) ps l h =
    let s = split n e es ps h in
    let k : n + length (take (e - n) ps) ≡ e = omega (arith, length-take-le (e - n) ps s.fits, s.rises) in
    rw k (ap (◌∷◌ e) (shown_ends e is es (drop (e - n) ps) (omega (arith, l)) s.others))

pub shown_all : (n : ℕ) (is es : List ℕ) (ps : List Placement) → length is ≡ length es → parted n es ps ≡ true → all_placements (shown n is es ps) ≡ ps
unfolding shown all_placements parted
shown_all n [] [] ps l h = none ps (eqb-true (length ps) 0 h)
  where
    none : (qs : List Placement) → length qs ≡ 0 → [] ≡ qs
    none [] z = refl
    none (q ∷ qs) z = absurd (omega arith)
shown_all n [] (e ∷ es) ps l h = let z : 0 ≡ suc (length es) = l in absurd (omega arith)
shown_all n (i ∷ is) [] ps l h = let z : suc (length is) ≡ 0 = l in absurd (omega arith)
shown_all n (i ∷ is) (e ∷ es) ps l h =
    let s = split n e es ps h in
    ap (λ (qs : List Placement). take (e - n) ps ++ qs) (shown_all e is es (drop (e - n) ps) (omega (arith, l)) s.others) ∙ take-append-drop (e - n) ps

pub shown_good : (before : List ℕ) (n : ℕ) (is es : List ℕ) (ps : List Placement) → length is ≡ length es → parted n es ps ≡ true → distinct_after before is ≡ true → good_from before (shown n is es ps) ≡ true
unfolding shown good_from distinct_after
shown_good before n [] es ps l h d = refl
shown_good before n (i ∷ is) [] ps l h d = refl
shown_good before n (i ∷ is) (e ∷ es) ps l h d =
    let s = split n e es ps h in
    let t = (and-eq-true_iff (not (leb identifier_limit i || is_in i before)) _).0 d in
    (and-eq-true_iff _ _).1 (t.0, (and-eq-true_iff _ _).1 (s.stands, shown_good (before ++ (i ∷ [])) e is es (drop (e - n) ps) (omega (arith, l)) s.others t.1))

-- ---- and back

pub good_parted : (before : List ℕ) (n : ℕ) (ms : List Message) → good_from before ms ≡ true → parted n (ends_after n ms) (all_placements ms) ≡ true
unfolding good_from parted ends_after all_placements
good_parted before n [] g = refl
good_parted before n (m ∷ ms) g =
    let a = (and-eq-true_iff (not (leb identifier_limit m.identifier || is_in m.identifier before)) _).0 g in
    let b = (and-eq-true_iff (good_after [] m.placements) _).0 a.1 in
    let k : (n + length m.placements) - n ≡ length m.placements = omega arith in
    rw (k, take_at m.placements (all_placements ms) (length m.placements) refl, drop_at m.placements (all_placements ms) (length m.placements) refl)
    ((and-eq-true_iff _ _).1 (
      le-leb n (n + length m.placements) (omega arith),
      (and-eq-true_iff _ _).1 (
        le-leb (length m.placements) (length (m.placements ++ all_placements ms)) (omega (arith, length-append m.placements (all_placements ms))),
        (and-eq-true_iff _ _).1 (b.0, good_parted (before ++ (m.identifier ∷ [])) (n + length m.placements) ms b.1),
      ),
    ))

pub good_distinct : (before : List ℕ) (ms : List Message) → good_from before ms ≡ true → distinct_after before (identifiers ms) ≡ true
unfolding good_from distinct_after
good_distinct before [] g = refl
good_distinct before (m ∷ ms) g =
    let a = (and-eq-true_iff (not (leb identifier_limit m.identifier || is_in m.identifier before)) _).0 g in
    let b = (and-eq-true_iff (good_after [] m.placements) _).0 a.1 in
    (and-eq-true_iff _ _).1 (a.0, good_distinct (before ++ (m.identifier ∷ [])) ms b.1)
