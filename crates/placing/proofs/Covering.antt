-- The frame bits of several signals in one mask: it has a bit of a further signal just where the signal meets one of them. Assumes nothing.
use mathlib.Core.Path.{◌≡◌, refl, sym, ap, ◌∙◌}
use mathlib.Core.Bool.{Bool, true, false, ◌||◌, or-false, or_assoc}
use mathlib.Core.List.{List, [], ◌∷◌, ◌++◌}
use Prim.Native.Nat.{ℕ, ◌<◌}
use Rattle.catalogue.specs.Find.{bits_of_spec}
use Rattle.books.specs.Book.{Placement}
use Rattle.books.specs.Lines.{meets_earlier}
use Rattle.books.specs.Belonging.{bit_belongs, covers, HaveBits}
use Rattle.books.proofs.Meeting.{shared_earlier, earlier_shared}
use Rattle.masks.specs.Bit.{bit, meeting}
use Rattle.masks.proofs.Bits.{meeting_some, meeting_none}

pub covers_none : (k : ℕ) → covers [] k ≡ false
unfolding covers
covers_none k = refl

pub covers_more : (qs : List Placement) (p : Placement) (k : ℕ) → covers (qs ++ (p ∷ [])) k ≡ covers qs k || bit_belongs p k
unfolding covers
covers_more [] p k = or-false (bit_belongs p k)
covers_more (q ∷ qs) p k = ap (λ (t : Bool). bit_belongs q k || t) (covers_more qs p k) ∙ sym (or_assoc (bit_belongs q k) (covers qs k) (bit_belongs p k))

-- the masks meet just where the signals do
pub same_meeting : (qs : List Placement) (p : Placement) (mask run : ℕ) → ((k : ℕ) → bit mask k ≡ covers qs k) → ((k : ℕ) → bit run k ≡ bit_belongs p k)
    → HaveBits qs → 0 < bits_of_spec p.number → meeting mask run ≡ meets_earlier qs p
same_meeting qs p mask run c r w h = go (meeting mask run) refl (meets_earlier qs p) refl
  where
    go : (t : Bool) → meeting mask run ≡ t → (u : Bool) → meets_earlier qs p ≡ u → meeting mask run ≡ meets_earlier qs p
    go true e u f =
        let s = meeting_some mask run e in
        e ∙ sym (shared_earlier qs p (s.0, sym (c s.0) ∙ s.1, sym (r s.0) ∙ s.2))
    go false e true f =
        let s = earlier_shared qs p w h f in
        absurd (meeting_none mask run e s.0 (c s.0 ∙ s.1) (r s.0 ∙ s.2))
    go false e false f = e ∙ sym f
