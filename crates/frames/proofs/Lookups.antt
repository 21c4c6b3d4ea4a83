-- The message of an identifier stands in the columns where its end and the end before it say. Assumes nothing.
use mathlib.Core.Path.{◌≡◌, refl, sym, ap, ◌∙◌, subst⁻¹}
use mathlib.Core.Bool.{Bool, true, false, cond}
use mathlib.Core.List.{List, [], ◌∷◌}
use mathlib.Core.Option.{none, some}
use Prim.Native.Nat.{ℕ, suc, ◌+◌, ◌≤◌, ◌<◌}
use native.Mathlib.Nat.{not-suc-le-zero, le_of_suc-le-suc, add-suc}
use native.Mathlib.Omega.{arith}
use lib.Dec.{eqb}
use lib.ListN.{length, get_or, take, drop, length-map, drop_of_length-le}
use borrow.Author.Tests.{eqb-true, eq-eqb, ne_eqb}
use Rattle.books.specs.Book.{Placement, Message, identifiers, numbers, all_placements}
use Rattle.books.specs.Lines.{message_limit, signal_limit}
use Rattle.books.specs.Good.{good}
use Rattle.books.specs.Words.{placement_starts, side_by_side, messages_of, messages_taken_spec, Stands}
use Rattle.books.proofs.Sides.{side_back}
use Rattle.books.proofs.Columns.{taken_stands, within, take_column, ids_stand, ends_stand, numbers_stand, starts_stand}
use Rattle.books.proofs.Parts.{begin_of, end_of, placements_at, order, inside, part_long, part_stands, begin_stands, end_stands}
use Rattle.framing.specs.Messages.{message_with}
use Rattle.framing.proofs.WellPlaced.{WellPlaced, sound_message}
use Rattle.record.specs.Columns.{message_count_of, ids_of, ends_of, numbers_of, starts_of}
use Rattle.messages.specs.Signals.{AllFit}
use Rattle.frames.specs.Lookup.{first_at, before, part, Spans}
use Rattle.messages.proofs.Steps.{from}

-- ---- the first place of a number

module _ (n : ℕ) (l : List ℕ) (i : ℕ) where
  pub first_here : i < length l → n ≡ get_or l i 0 → first_at n (drop i l) ≡ 0
  unfolding first_at
  first_here h e = ap (first_at n) (from l i h) ∙ rw (eq-eqb n (get_or l i 0) e) refl

  pub first_later : i < length l → (n ≡ get_or l i 0 → ⊥) → first_at n (drop i l) ≡ suc (first_at n (drop (i + 1) l))
  unfolding first_at
  first_later h e = ap (first_at n) (from l i h) ∙ rw (ne_eqb n (get_or l i 0) e) refl

  pub first_none : length l ≤ i → first_at n (drop i l) ≡ 0
  unfolding first_at
  first_none h = ap (first_at n) (drop_of_length-le l h)

  pub first_counts : i + first_at n (drop i l) ≡ first_at n l → first_at n (drop i l) ≡ suc (first_at n (drop (i + 1) l)) → i + 1 + first_at n (drop (i + 1) l) ≡ first_at n l
  first_counts a b = omega (arith, add-suc i (first_at n (drop (i + 1) l)))

first_within : (n : ℕ) (l : List ℕ) → first_at n l ≤ length l
unfolding first_at
first_within n [] = omega arith
first_within n (x ∷ l) = go (eqb n x) (first_within n l)
  where
    go : (b : Bool) → first_at n l ≤ length l → cond b 0 (suc (first_at n l)) ≤ suc (length l)
    go true h = omega arith
    go false h = omega arith

-- ---- the message at that place

-- the message with an identifier is the first that has it
message_there : (identifier : ℕ) (ms : List Message) → first_at identifier (identifiers ms) < length ms
    → message_with identifier ms ≡ some (record { identifier = identifier; placements = placements_at ms (first_at identifier (identifiers ms)) })
unfolding message_with first_at
message_there identifier [] h = absurd (not-suc-le-zero h)
message_there identifier (m ∷ ms) h = go (eqb identifier m.identifier) refl h (message_there identifier ms)
  where
    go : (b : Bool) → eqb identifier m.identifier ≡ b → cond b 0 (suc (first_at identifier (identifiers ms))) < length (m ∷ ms)
        → (first_at identifier (identifiers ms) < length ms → message_with identifier ms ≡ some (record { identifier = identifier; placements = placements_at ms (first_at identifier (identifiers ms)) }))
        → cond b (some m) (message_with identifier ms) ≡ some (record { identifier = identifier; placements = placements_at (m ∷ ms) (cond b 0 (suc (first_at identifier (identifiers ms)))) })
    go true e h rest = ap (λ (i : ℕ). some (record { identifier = i; placements = m.placements })) (sym (eqb-true identifier m.identifier e))
    go false e h rest = rest (le_of_suc-le-suc h)

message_nowhere : (identifier : ℕ) (ms : List Message) → length ms ≤ first_at identifier (identifiers ms) → message_with identifier ms ≡ none
unfolding message_with first_at
message_nowhere identifier [] h = refl
message_nowhere identifier (m ∷ ms) h = go (eqb identifier m.identifier) h (message_nowhere identifier ms)
  where
    go : (b : Bool) → length (m ∷ ms) ≤ cond b 0 (suc (first_at identifier (identifiers ms))) → (length ms ≤ first_at identifier (identifiers ms) → message_with identifier ms ≡ none)
        → cond b (some m) (message_with identifier ms) ≡ none
    go true h rest = absurd (not-suc-le-zero h)
    go false h rest = rest (le_of_suc-le-suc h)

fit_all : {ps : List Placement} → WellPlaced ps → AllFit ps
fit_all WellPlaced.none = AllFit.none
fit_all (WellPlaced.more s b r) = AllFit.more s.fits (fit_all r)

-- ---- in words that pass the test

module _ (w : List ℕ) (t : messages_taken_spec w ≡ true) where
  abbrev Ms : List Message
  Ms = messages_of w

  stand : Stands w Ms
  stand = (taken_stands w t).0

  is_good : good Ms ≡ true
  is_good = (taken_stands w t).1

  few : length Ms ≤ message_limit
  few = (within Ms is_good).few

  roomy : length (all_placements Ms) ≤ signal_limit
  roomy = (within Ms is_good).room

  count_is_law : message_count_of w ≡ length Ms
  count_is_law = stand.messages

  pub count_few : message_count_of w ≤ message_limit
  count_few = omega (arith, count_is_law, few)

  pub ids_are : take (message_count_of w) (ids_of w) ≡ identifiers Ms
  ids_are =
      ap (λ (l : List ℕ). take (message_count_of w) l) (ids_stand w Ms few roomy stand)
      ∙ take_column message_limit (message_count_of w) (identifiers Ms) (length-map Ms (λ (m : Message). m.identifier) ∙ sym count_is_law)

  -- what a search of the first entries finds
  pub first_is : (identifier at count : ℕ) (ids : List ℕ) → count ≡ message_count_of w → ids ≡ ids_of w → at ≡ first_at identifier (take count ids) → at ≡ first_at identifier (identifiers Ms)
  first_is identifier at count ids c i e = e ∙ ap (λ (k : ℕ). first_at identifier (take k ids)) c ∙ ap (λ (l : List ℕ). first_at identifier (take (message_count_of w) l)) i ∙ ap (first_at identifier) ids_are

  pub there_is : (identifier at : ℕ) → at ≡ first_at identifier (identifiers Ms) → (at ≡ message_count_of w → ⊥) → at < length Ms
  there_is identifier at e n = let h = first_within identifier (identifiers Ms) in omega (arith, length-map Ms (λ (m : Message). m.identifier), count_is_law)

  pub at_few : (identifier at : ℕ) → at ≡ first_at identifier (identifiers Ms) → (at ≡ message_count_of w → ⊥) → at < message_limit
  at_few identifier at e n = let h = there_is identifier at e n in omega (arith, few)

  -- no message has the identifier
  pub nothing : (identifier at : ℕ) → at ≡ first_at identifier (identifiers Ms) → at ≡ message_count_of w → message_with identifier Ms ≡ none
  nothing identifier at e f = message_nowhere identifier Ms (omega (arith, count_is_law))

  module _ (identifier at : ℕ) (first : at ≡ first_at identifier (identifiers Ms)) (there : at < length Ms) where
    abbrev From : ℕ
    From = begin_of 0 Ms at

    abbrev To : ℕ
    To = end_of 0 Ms at

    abbrev Ps : List Placement
    Ps = placements_at Ms at

    numbers_are : part From To (numbers_of w) ≡ numbers Ps
    numbers_are = ap (λ (l : List ℕ). part From To l) (numbers_stand w Ms few roomy stand) ∙ part_stands Ms at there (λ (p : Placement). p.number)

    starts_are : part From To (starts_of w) ≡ placement_starts Ps
    starts_are = ap (λ (l : List ℕ). part From To l) (starts_stand w Ms few roomy stand) ∙ part_stands Ms at there (λ (p : Placement). p.start)

    here : message_with identifier Ms ≡ some (record { identifier = identifier; placements = Ps })
    here =
        message_there identifier Ms (omega arith)
        ∙ ap (λ (i : ℕ). some (record { identifier = identifier; placements = placements_at Ms i })) (sym first)

    both_are : side_by_side (part From To (numbers_of w)) (part From To (starts_of w)) ≡ Ps
    both_are = ap (λ (l : List ℕ). side_by_side l (part From To (starts_of w))) numbers_are ∙ ap (side_by_side (numbers Ps)) starts_are ∙ side_back Ps

    -- the ends that stand in the words say where its signals are
    begins_so : get_or (0 ∷ ends_of w) at 0 ≡ From
    begins_so = ap (λ (l : List ℕ). get_or (0 ∷ l) at 0) (ends_stand w Ms few roomy stand) ∙ begin_stands Ms at there

    ends_so : get_or (ends_of w) at 0 ≡ To
    ends_so = ap (λ (l : List ℕ). get_or l at 0) (ends_stand w Ms few roomy stand) ∙ end_stands Ms at there

    at_is : at ≡ before w identifier
    at_is = first ∙ sym (ap (first_at identifier) ids_are)

    spans_so : Spans w identifier From To
    spans_so =
        record {
          begins = sym begins_so ∙ ap (λ (i : ℕ). get_or (0 ∷ ends_of w) i 0) at_is;
          ends = sym ends_so ∙ ap (λ (i : ℕ). get_or (ends_of w) i 0) at_is;
          order = order Ms at there;
          inside = omega (arith, inside Ms at there, roomy);
          found = here ∙ ap (λ (ps : List Placement). some (record { identifier = identifier; placements = ps })) (sym both_are);
          many = ap length both_are ∙ part_long Ms at there;
          same = ap length starts_are ∙ length-map Ps (λ (p : Placement). p.start) ∙ sym (length-map Ps (λ (p : Placement). p.number)) ∙ sym (ap length numbers_are);
          fit = subst⁻¹ AllFit both_are (fit_all (sound_message identifier Ms (record { identifier = identifier; placements = Ps }) is_good here));
        }

    pub spans : Spans w identifier (get_or (0 ∷ ends_of w) at 0) (get_or (ends_of w) at 0)
    spans = subst⁻¹ (λ (x : ℕ). Spans w identifier x (get_or (ends_of w) at 0)) begins_so (subst⁻¹ (λ (x : ℕ). Spans w identifier From x) ends_so spans_so)
