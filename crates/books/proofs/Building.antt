-- Messages that pass the test are those that lines build. Assumes nothing.
use mathlib.Core.Path.{◌≡◌, refl, sym, ap, ◌∙◌, subst}
use mathlib.Core.Bool.{Bool, true, false, ◌&&◌, ◌||◌, not, and-true, and_assoc, and-eq-true_iff}
use Prim.Native.Nat.{ℕ, ◌+◌, ◌≤◌, ◌<◌}
use native.Mathlib.Omega.{arith}
use mathlib.Core.List.{List, [], ◌∷◌, ◌++◌, append_assoc, append-nil}
use lib.Dec.{leb, eqb}
use lib.ListN.{length, length-append}
use borrow.Author.Tests.{leb-true, leb-false, le-leb, lt-leb, eqb-false, ne_eqb}
use Rattle.books.specs.Book.{Placement, Message, identifiers, numbers, all_placements, fresh, with_placement, in_last, last_placements}
use Rattle.books.specs.Lines.{is_in, unknown_or_over, misplaced, meets_earlier, message_refusal, after_refusal, signal_refusal, identifier_limit, message_limit, signal_limit}
use Rattle.books.specs.Built.{Built, none, message, signal}
use Rattle.books.specs.Good.{fits_after, good_after, good_from, good}
use Rattle.books.proofs.Tests.{neither, nor, not_refused, no_refusal}
use Rattle.books.proofs.Ends.{map-append, all_append, all_one, count_last, length_more, in_last_law, last_placements_law, Last, last}

abbrev Fresh : List ℕ → ℕ → Bool
Fresh before i = not (leb identifier_limit i || is_in i before)

-- one placement more at the end
after_more : (before ps : List Placement) (p : Placement) → good_after before (ps ++ (p ∷ [])) ≡ good_after before ps && fits_after (before ++ ps) p
unfolding good_after
after_more before [] p = rw append-nil (and-true (fits_after before p))
after_more before (q ∷ ps) p =
    ap (λ (t : Bool). fits_after before q && t)
    (after_more (before ++ (q ∷ [])) ps p ∙ ap (λ (l : List Placement). good_after (before ++ (q ∷ [])) ps && fits_after l p) (append_assoc before (q ∷ []) ps)) ∙
    sym (and_assoc (fits_after before q) (good_after (before ++ (q ∷ [])) ps) (fits_after (before ++ (q ∷ ps)) p))

-- one message more at the end
from_more : (before : List ℕ) (ms : List Message) (m : Message)
    → good_from before (ms ++ (m ∷ [])) ≡ good_from before ms && (Fresh (before ++ identifiers ms) m.identifier && good_after [] m.placements)
unfolding good_from
from_more before [] m = rw append-nil (ap (λ (t : Bool). Fresh before m.identifier && t) (and-true (good_after [] m.placements)))
from_more before (x ∷ ms) m =
    ap (λ (t : Bool). Fresh before x.identifier && (good_after [] x.placements && t))
    (from_more (before ++ (x.identifier ∷ [])) ms m ∙
    ap (λ (l : List ℕ). good_from (before ++ (x.identifier ∷ [])) ms && (Fresh l m.identifier && good_after [] m.placements))
    (append_assoc before (x.identifier ∷ []) (identifiers ms))) ∙
    go (Fresh before x.identifier) (good_after [] x.placements) (good_from (before ++ (x.identifier ∷ [])) ms)
    (Fresh (before ++ (x.identifier ∷ identifiers ms)) m.identifier && good_after [] m.placements)
  where
    go : (a b c d : Bool) → a && (b && (c && d)) ≡ (a && (b && c)) && d
    go a b c d = ap (λ (t : Bool). a && t) (sym (and_assoc b c d)) ∙ sym (and_assoc a (b && c) d)

-- the last message with one placement more
last_more : (before : List Message) (m : Message) (p : Placement)
    → good_from [] (before ++ (m ∷ [])) ≡ true → fits_after m.placements p ≡ true → good_from [] (before ++ (with_placement m p ∷ [])) ≡ true
last_more before m p h f =
    let a = (and-eq-true_iff (good_from [] before) (Fresh (identifiers before) m.identifier && good_after [] m.placements)).0 (sym (from_more [] before m) ∙ h) in
    let b = (and-eq-true_iff (Fresh (identifiers before) m.identifier) (good_after [] m.placements)).0 a.1 in
    let c = after_more [] m.placements p ∙ (and-eq-true_iff (good_after [] m.placements) (fits_after m.placements p)).1 (b.1, f) in
    from_more [] before (with_placement m p) ∙
    (and-eq-true_iff (good_from [] before) (Fresh (identifiers before) m.identifier && good_after [] (m.placements ++ (p ∷ [])))).1
    (a.0, (and-eq-true_iff (Fresh (identifiers before) m.identifier) (good_after [] (m.placements ++ (p ∷ [])))).1 (b.0, c))

-- what holds of messages that lines build
record Kept (ms : List Message) : Type 0 where
  each : good_from [] ms ≡ true
  few : length ms ≤ message_limit
  room : length (all_placements ms) ≤ signal_limit

-- a test of two parts that both fail
none_of : (a b : Bool) → a ≡ false → b ≡ false → not (a || b) ≡ true
none_of a b e f = rw (e, f) refl

-- what an `M` line that is taken tells, and an `S` line
pub record MessageTaken (ms : List Message) (i : ℕ) : Type 0 where
  pub fresh_one : Fresh (identifiers ms) i ≡ true
  pub few : length ms < message_limit

pub message_taken : (ms : List Message) (i : ℕ) → message_refusal ms i ≡ 0 → MessageTaken ms i
unfolding message_refusal
message_taken ms i e =
    let a = not_refused (leb identifier_limit i) 2 _ e in
    let b = not_refused (is_in i (identifiers ms)) 4 _ a.1 in
    let c = not_refused (leb message_limit (length ms)) 8 0 b.1 in
    record { fresh_one = none_of _ _ a.0 b.0; few = leb-false _ _ c.0 }

taken_message : (ms : List Message) (i : ℕ) → MessageTaken ms i → message_refusal ms i ≡ 0
unfolding message_refusal
taken_message ms i t =
    let n = neither (leb identifier_limit i) (is_in i (identifiers ms)) t.fresh_one in
    no_refusal _ 3 _ n.0 (no_refusal _ 5 _ n.1 (no_refusal _ 9 0 (lt-leb _ _ t.few) refl))

pub record SignalTaken (ms : List Message) (p : Placement) : Type 0 where
  pub there : length ms ≡ 0 → ⊥
  pub fits : fits_after (last_placements ms) p ≡ true
  pub room : length (all_placements ms) < signal_limit

pub signal_taken : (ms : List Message) (p : Placement) → signal_refusal ms p ≡ 0 → SignalTaken ms p
unfolding signal_refusal after_refusal
signal_taken ms p e =
    let a = not_refused (unknown_or_over p) 2 _ e in
    let b = not_refused (eqb (length ms) 0) 3 _ a.1 in
    let c = not_refused (is_in p.number (numbers (last_placements ms))) 5 _ b.1 in
    let d = not_refused (misplaced p) 6 _ c.1 in
    let f = not_refused (meets_earlier (last_placements ms) p) 7 _ d.1 in
    let g = not_refused (leb signal_limit (length (all_placements ms))) 8 0 f.1 in
    record {
      there = eqb-false _ _ b.0;
      fits = none_of _ _ a.0 (nor _ _ c.0 (nor _ _ d.0 f.0));
      room = leb-false _ _ g.0;
    }

taken_signal : (ms : List Message) (p : Placement) → SignalTaken ms p → signal_refusal ms p ≡ 0
unfolding signal_refusal after_refusal
taken_signal ms p t =
    let before = last_placements ms in
    let a = neither (unknown_or_over p) _ t.fits in
    let rest : not (is_in p.number (numbers before) || (misplaced p || meets_earlier before p)) ≡ true = ap not a.1 in
    let b = neither (is_in p.number (numbers before)) (misplaced p || meets_earlier before p) rest in
    let last : not (misplaced p || meets_earlier before p) ≡ true = ap not b.1 in
    let c = neither (misplaced p) (meets_earlier before p) last in
    no_refusal _ 3 _ a.0
    (no_refusal _ 4 _ (ne_eqb _ _ t.there)
    (no_refusal _ 6 _ b.0 (no_refusal _ 7 _ c.0 (no_refusal _ 8 _ c.1 (no_refusal _ 9 0 (lt-leb _ _ t.room) refl)))))

kept_message : (ms : List Message) (i : ℕ) → Kept ms → MessageTaken ms i → Kept (ms ++ (fresh i ∷ []))
unfolding good_after
kept_message ms i k t = record {
  each = from_more [] ms (fresh i) ∙ (and-eq-true_iff (good_from [] ms) (Fresh (identifiers ms) i && true)).1 (k.each, (and-eq-true_iff (Fresh (identifiers ms) i) true).1 (t.fresh_one, refl));
  few = omega (arith, length_more ms (fresh i), k.few, t.few);
  room = omega (arith, count_last ms (fresh i), k.room);
}

kept_signal : (ms : List Message) (p : Placement) → Kept ms → SignalTaken ms p → Kept (in_last ms p)
kept_signal [] p k t = absurd (t.there refl)
kept_signal (m ∷ ms) p k t = go (last m ms)
  where
    at : (x : List Message) (l : Message) → Kept (x ++ (l ∷ [])) → SignalTaken (x ++ (l ∷ [])) p → Kept (in_last (x ++ (l ∷ [])) p)
    at x l k t = rw in_last_law record {
      each = last_more x l p k.each (rw last_placements_law at t.fits);
      few = omega (arith, length_more x (with_placement l p), length_more x l, k.few);
      room = omega (arith, count_last x (with_placement l p), count_last x l, length_more l.placements p, t.room);
    }

    go : Last (m ∷ ms) → Kept (in_last (m ∷ ms) p)
    go r = subst (λ (l : List Message). Kept l → SignalTaken l p → Kept (in_last l p)) (sym r.whole) (at r.before r.last) k t

kept : {ms : List Message} → Built ms → Kept ms
unfolding good_from all_placements
kept none = record { each = refl; few = omega arith; room = omega arith }
kept (message {ms} i b e) = kept_message ms i (kept b) (message_taken ms i e)
kept (signal {ms} p b e) = kept_signal ms p (kept b) (signal_taken ms p e)

pub built_good : {ms : List Message} → Built ms → good ms ≡ true
unfolding good
built_good {ms} b =
    let k = kept b in
    (and-eq-true_iff (good_from [] ms) _).1 (k.each, (and-eq-true_iff (leb (length ms) message_limit) _).1 (le-leb _ _ k.few, le-leb _ _ k.room))

-- the placements of a message, one after the other
build_placements : (ms : List Message) (i : ℕ) (before ps : List Placement)
    → Built (ms ++ (record { identifier = i; placements = before } ∷ [])) → good_after before ps ≡ true
    → length (all_placements ms) + (length before + length ps) ≤ signal_limit
    → Built (ms ++ (record { identifier = i; placements = before ++ ps } ∷ []))
unfolding good_after
build_placements ms i before [] b g r = rw append-nil b
build_placements ms i before (p ∷ ps) b g r =
    let m : Message = record { identifier = i; placements = before } in
    let h = (and-eq-true_iff (fits_after before p) (good_after (before ++ (p ∷ [])) ps)).0 g in
    let t : SignalTaken (ms ++ (m ∷ [])) p = record {
      there = λ z. omega (arith, length_more ms m, z);
      fits = rw last_placements_law h.0;
      room = omega (arith, count_last ms m, r);
    } in
    let one : Built (ms ++ (with_placement m p ∷ [])) = subst Built (in_last_law ms m p) (signal p b (taken_signal (ms ++ (m ∷ [])) p t)) in
    subst (λ (l : List Placement). Built (ms ++ (record { identifier = i; placements = l } ∷ []))) (append_assoc before (p ∷ []) ps)
    (build_placements ms i (before ++ (p ∷ [])) ps one h.1 (omega (arith, length_more before p, r)))

build_from : (ms ns : List Message) → Built ms → good_from (identifiers ms) ns ≡ true
    → length ms + length ns ≤ message_limit → length (all_placements ms) + length (all_placements ns) ≤ signal_limit → Built (ms ++ ns)
unfolding good_from
build_from ms [] b g l r = rw append-nil b
build_from ms (m ∷ ns) b g l r =
    let h = (and-eq-true_iff (Fresh (identifiers ms) m.identifier) _).0 g in
    let k = (and-eq-true_iff (good_after [] m.placements) _).0 h.1 in
    let t : MessageTaken ms m.identifier = record { fresh_one = h.0; few = omega arith } in
    let count : length (all_placements (m ∷ ns)) ≡ length m.placements + length (all_placements ns) = count_first m ns in
    let one = build_placements ms m.identifier [] m.placements (message m.identifier b (taken_message ms m.identifier t)) k.0 (omega (arith, count, r)) in
    subst Built (append_assoc ms (m ∷ []) ns)
    (build_from (ms ++ (m ∷ [])) ns one (subst (λ (l : List ℕ). good_from l ns ≡ true) (sym (map-append (λ (x : Message). x.identifier) ms (m ∷ []))) k.1)
    (omega (arith, length_more ms m, l))
    (omega (arith, count_last ms m, count, r)))
  where
    count_first : (m : Message) (ns : List Message) → length (all_placements (m ∷ ns)) ≡ length m.placements + length (all_placements ns)
    count_first m ns = ap length (all_append (m ∷ []) ns) ∙ length-append (all_placements (m ∷ [])) (all_placements ns) ∙ ap (λ (l : List Placement). length l + length (all_placements ns)) (all_one m)

pub good_built : (ms : List Message) → good ms ≡ true → Built ms
unfolding good all_placements
good_built ms g =
    let a = (and-eq-true_iff (good_from [] ms) _).0 g in
    let b = (and-eq-true_iff (leb (length ms) message_limit) _).0 a.1 in
    build_from [] ms none a.0 (omega (arith, leb-true (length ms) message_limit b.0)) (omega (arith, leb-true (length (all_placements ms)) signal_limit b.1))
