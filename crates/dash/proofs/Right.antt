-- What the call answers is right by P1's sentences, and no other answer is. Assumes nothing.
use mathlib.Core.Path.{◌≡◌, refl, sym, ap, ◌∙◌, subst}
use mathlib.Core.Bool.{cond}
use mathlib.Core.Option.{Option, none, some}
use Prim.Native.Nat.{ℕ}
use lib.Dec.{eqb}
use lib.Ieee.{Float}
use Rattle.catalogue.specs.declared.Raw.{Raw}
use Rattle.catalogue.specs.declared.Thousandths.{Thousandths}
use Rattle.catalogue.specs.declared.Class.{Class}
use Rattle.catalogue.specs.declared.Class.TheVariants as old
use Rattle.catalogue.specs.declared.NoClass.{NoClass}
use Rattle.catalogue.specs.declared.NoClass.TheVariants.{NotInCatalogue, TooWide}
use Rattle.std.specs.Prelude.{Result, Ok, Err}
use Rattle.catalogue.specs.Class.{class_of_spec, class_number}
use Rattle.doubles.specs.Doubles.{in_units_spec}
use Rattle.doubles.proofs.Values.{value_without_loss, value_rounded_once, value_whole}
use Rattle.dash.specs.declared.Dash.{Dash}
use Rattle.dash.specs.declared.Dash.TheVariants.{Value, Invalid, Absent, Error, Reserved, Outside}
use Rattle.dash.specs.Answer.{dash_for, dash_of, dash_number, ClassName, value, invalid, absent, error, reserved, outside, no_reading, shown_reading, answer_class, old_class}
use Rattle.dash.specs.Right.{ReadingShown, DashRight}

-- the reading in an answer; 0 where there is none
reading_in : Result Dash NoClass → Float
reading_in (Ok d) = shown_reading d
reading_in (Err e) = no_reading

-- an answer that has no reading
NoReading : Result Dash NoClass → Type 0
NoReading (Ok (Value x)) = ⊥
NoReading (Ok Invalid) = Unit
NoReading (Ok Absent) = Unit
NoReading (Ok Error) = Unit
NoReading (Ok Reserved) = Unit
NoReading (Ok Outside) = Unit
NoReading (Err e) = Unit

module _ (number : ℕ) (raw : Raw) where
  -- ---- the answer is right

  of_value : (t : Thousandths) → class_of_spec number raw ≡ Ok (old.Value t) → ReadingShown number raw (in_units_spec t)
  unfolding in_units_spec
  of_value t is =
      record {
        thousandths = t;
        read = is;
        without_loss = value_without_loss number raw t is;
        divided = refl;
        rounded = value_rounded_once number raw t is;
        whole = value_whole number raw t is;
      }

  -- an answer without a reading has none to show
  no_reading_law : (answer : Result Dash NoClass) → NoReading answer → (x : Float) → answer ≡ Ok (Value x) → ReadingShown number raw x
  unfolding NoReading
  no_reading_law answer h x e = absurd (subst NoReading e h)

  same_reading : (t : Thousandths) → class_of_spec number raw ≡ Ok (old.Value t) → (x : Float) → ◌≡◌ {A = Result Dash NoClass} (Ok (Value (in_units_spec t))) (Ok (Value x)) → ReadingShown number raw x
  unfolding reading_in
  same_reading t is x e = subst (ReadingShown number raw) (ap reading_in e) (of_value t is)

  by_class : (c : Result Class NoClass) → class_of_spec number raw ≡ c → DashRight number raw (dash_for c)
  unfolding NoReading
  by_class (Ok (old.Value t)) e = record { class = sym (ap old_class e); refusal = sym (ap class_number e); reading = same_reading t e }
  by_class (Ok (old.Invalid r)) e = record { class = sym (ap old_class e); refusal = sym (ap class_number e); reading = no_reading_law (Ok Invalid) tt }
  by_class (Ok (old.Absent r)) e = record { class = sym (ap old_class e); refusal = sym (ap class_number e); reading = no_reading_law (Ok Absent) tt }
  by_class (Ok (old.Error r)) e = record { class = sym (ap old_class e); refusal = sym (ap class_number e); reading = no_reading_law (Ok Error) tt }
  by_class (Ok (old.Reserved r)) e = record { class = sym (ap old_class e); refusal = sym (ap class_number e); reading = no_reading_law (Ok Reserved) tt }
  by_class (Ok (old.Outside r)) e = record { class = sym (ap old_class e); refusal = sym (ap class_number e); reading = no_reading_law (Ok Outside) tt }
  by_class (Err why) e = record { class = sym (ap old_class e); refusal = sym (ap class_number e); reading = no_reading_law (Err why) tt }

  pub dash_right : DashRight number raw (dash_of number raw)
  unfolding dash_of
  dash_right = by_class (class_of_spec number raw) refl

  -- ---- and no other is

  -- an answer from its class, its number and its reading
  made : Option ClassName → ℕ → Float → Result Dash NoClass
  made (some value) n x = Ok (Value x)
  made (some invalid) n x = Ok Invalid
  made (some absent) n x = Ok Absent
  made (some error) n x = Ok Error
  made (some reserved) n x = Ok Reserved
  made (some outside) n x = Ok Outside
  made none n x = cond (eqb n 3) (Err NotInCatalogue) (Err TooWide)

  made_again : (answer : Result Dash NoClass) (x : Float) → NoReading answer → made (answer_class answer) (dash_number answer) x ≡ answer
  unfolding made NoReading
  made_again (Ok (Value y)) x h = absurd h
  made_again (Ok Invalid) x h = refl
  made_again (Ok Absent) x h = refl
  made_again (Ok Error) x h = refl
  made_again (Ok Reserved) x h = refl
  made_again (Ok Outside) x h = refl
  made_again (Err NotInCatalogue) x h = refl
  made_again (Err TooWide) x h = refl

  made_for : (c : Result Class NoClass) → made (old_class c) (class_number c) (reading_in (dash_for c)) ≡ dash_for c
  unfolding made reading_in
  made_for (Ok (old.Value t)) = refl
  made_for (Ok (old.Invalid r)) = refl
  made_for (Ok (old.Absent r)) = refl
  made_for (Ok (old.Error r)) = refl
  made_for (Ok (old.Reserved r)) = refl
  made_for (Ok (old.Outside r)) = refl
  made_for (Err NotInCatalogue) = refl
  made_for (Err TooWide) = refl

  without_reading : (answer : Result Dash NoClass) → NoReading answer → DashRight number raw answer → answer ≡ dash_of number raw
  unfolding dash_of
  without_reading answer h right =
      let x = reading_in (dash_for (class_of_spec number raw)) in
      sym (made_again answer x h)
      ∙ ap (λ (c : Option ClassName). made c (dash_number answer) x) right.class
      ∙ ap (λ (n : ℕ). made (old_class (class_of_spec number raw)) n x) right.refusal
      ∙ made_for (class_of_spec number raw)

  with_reading : (x : Float) → ReadingShown number raw x → Ok (Value x) ≡ dash_of number raw
  unfolding dash_of in_units_spec
  with_reading x shown = ap (λ (y : Float). Ok (Value y)) shown.divided ∙ sym (ap dash_for shown.read)

  pub right_only : (answer : Result Dash NoClass) → DashRight number raw answer → answer ≡ dash_of number raw
  unfolding NoReading
  right_only (Ok (Value x)) right = with_reading x (right.reading x refl)
  right_only (Ok Invalid) right = without_reading (Ok Invalid) tt right
  right_only (Ok Absent) right = without_reading (Ok Absent) tt right
  right_only (Ok Error) right = without_reading (Ok Error) tt right
  right_only (Ok Reserved) right = without_reading (Ok Reserved) tt right
  right_only (Ok Outside) right = without_reading (Ok Outside) tt right
  right_only (Err why) right = without_reading (Err why) tt right
