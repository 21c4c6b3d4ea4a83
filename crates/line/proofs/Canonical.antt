-- A well formed line's text is the text of its meaning. Assumes nothing.
use mathlib.Core.Path.{◌≡◌, refl, sym, ap, ◌∙◌}
use mathlib.Core.Logic.{◌⊎◌, inl, inr}
use mathlib.Core.Bool.{Bool, true, false, cond}
use mathlib.Core.List.{List, [], ◌∷◌}
use Prim.Native.Nat.{ℕ}
use lib.Dec.{eqb}
use borrow.Author.Tests.{eqb-true}
use Rattle.std.specs.Prelude.{Option, Some, None}
use Rattle.numerals.specs.Numeral.{identifier, decimal}
use Rattle.numerals.proofs.Identifiers.{identifier_written}
use Rattle.numerals.proofs.Decimals.{decimal_written}
use Rattle.parts.specs.Parts.{fields}
use Rattle.parts.specs.Joined.{join}
use Rattle.parts.proofs.Joins.{join_split}
use Rattle.line.specs.declared.Line.{Line}
use Rattle.line.specs.declared.Line.TheVariants.{IllFormed}
use Rattle.line.specs.Meaning.{message_of, signal_of, route_of, of_message, of_signal, of_route, of_kind, of_fields, line_meaning}
use Rattle.line.specs.Written.{fields_of, line_text, Writable, Canonical}
use Rattle.numerals.specs.Written.{DecimalWritten, IdentifierWritten}

-- fields that say m are the fields of m
pub record Says (fs : List (List ℕ)) (m : Line) : Type 0 where
  pub writable : Writable m
  pub same : fs ≡ fields_of m

-- a result that is ill formed or written so
SaidOrIll : List (List ℕ) → Line → Type 0
SaidOrIll fs m = (m ≡ IllFormed) ⊎ Says fs m

ill : (fs : List (List ℕ)) → SaidOrIll fs IllFormed
unfolding SaidOrIll
ill fs = inl refl

message_said : (i : List ℕ) (n : Option ℕ) → identifier i ≡ n → SaidOrIll ((77 ∷ []) ∷ i ∷ []) (message_of n)
unfolding SaidOrIll fields_of
message_said i (Some x) e = let h : IdentifierWritten i x = identifier_written i x e in inr (record { writable = h.small; same = rw h.text })
message_said i None e = inl refl

signal_said : (n s : List ℕ) (x y : Option ℕ) → decimal n ≡ x → decimal s ≡ y → SaidOrIll ((83 ∷ []) ∷ n ∷ s ∷ []) (signal_of x y)
unfolding SaidOrIll fields_of
signal_said n s (Some x) (Some y) e f =
    let h : DecimalWritten n x = decimal_written n x e in
    let k : DecimalWritten s y = decimal_written s y f in
    inr (record { writable = (h.small, k.small); same = rw (h.text, k.text) })
signal_said n s (Some x) None e f = inl refl
signal_said n s None y e f = inl refl

route_said : (a i b j : List ℕ) (w x y z : Option ℕ) → decimal a ≡ w → identifier i ≡ x → decimal b ≡ y → identifier j ≡ z
    → SaidOrIll ((82 ∷ []) ∷ a ∷ i ∷ b ∷ j ∷ []) (route_of w x y z)
unfolding SaidOrIll fields_of
route_said a i b j (Some w) (Some x) (Some y) (Some z) p q r s =
    let h : DecimalWritten a w = decimal_written a w p in
    let k : IdentifierWritten i x = identifier_written i x q in
    let l : DecimalWritten b y = decimal_written b y r in
    let m : IdentifierWritten j z = identifier_written j z s in
    inr
    (record { writable = ((h.small, k.small), (l.small, m.small)); same = rw (h.text, k.text, l.text, m.text) })
route_said a i b j (Some w) (Some x) (Some y) None p q r s = inl refl
route_said a i b j (Some w) (Some x) None z p q r s = inl refl
route_said a i b j (Some w) None y z p q r s = inl refl
route_said a i b j None x y z p q r s = inl refl

of_message_law : (fs : List (List ℕ)) → SaidOrIll ((77 ∷ []) ∷ fs) (of_message fs)
unfolding SaidOrIll of_message
of_message_law [] = inl refl
of_message_law (i ∷ []) = message_said i (identifier i) refl
of_message_law (i ∷ x ∷ fs) = inl refl

of_signal_law : (fs : List (List ℕ)) → SaidOrIll ((83 ∷ []) ∷ fs) (of_signal fs)
unfolding SaidOrIll of_signal
of_signal_law [] = inl refl
of_signal_law (n ∷ []) = inl refl
of_signal_law (n ∷ s ∷ []) = signal_said n s (decimal n) (decimal s) refl refl
of_signal_law (n ∷ s ∷ x ∷ fs) = inl refl

of_route_law : (fs : List (List ℕ)) → SaidOrIll ((82 ∷ []) ∷ fs) (of_route fs)
unfolding SaidOrIll of_route
of_route_law [] = inl refl
of_route_law (a ∷ []) = inl refl
of_route_law (a ∷ i ∷ []) = inl refl
of_route_law (a ∷ i ∷ b ∷ []) = inl refl
of_route_law (a ∷ i ∷ b ∷ j ∷ []) = route_said a i b j (decimal a) (identifier i) (decimal b) (identifier j) refl refl refl refl
of_route_law (a ∷ i ∷ b ∷ j ∷ x ∷ fs) = inl refl

of_kind_law : (k : ℕ) (fs : List (List ℕ)) → SaidOrIll ((k ∷ []) ∷ fs) (of_kind k fs)
unfolding of_kind
of_kind_law k fs = go (eqb k 77) (eqb k 83) (eqb k 82) refl refl refl
  where
    go : (m s r : Bool) → eqb k 77 ≡ m → eqb k 83 ≡ s → eqb k 82 ≡ r
        → SaidOrIll ((k ∷ []) ∷ fs) (cond m (of_message fs) (cond s (of_signal fs) (cond r (of_route fs) IllFormed)))
    go true s r p q t = rw (eqb-true k 77 p) (of_message_law fs)
    go false true r p q t = rw (eqb-true k 83 q) (of_signal_law fs)
    go false false true p q t = rw (eqb-true k 82 t) (of_route_law fs)
    go false false false p q t = ill ((k ∷ []) ∷ fs)

of_fields_law : (fs : List (List ℕ)) → SaidOrIll fs (of_fields fs)
unfolding SaidOrIll of_fields
of_fields_law [] = inl refl
of_fields_law ([] ∷ fs) = inl refl
of_fields_law ((k ∷ []) ∷ fs) = of_kind_law k fs
of_fields_law ((k ∷ b ∷ l) ∷ fs) = inl refl

pub canonical : (l : List ℕ) → (line_meaning l ≡ IllFormed) ⊎ Canonical l (line_meaning l)
unfolding line_meaning line_text SaidOrIll
canonical l = go (of_fields_law (fields l))
  where
    go : SaidOrIll (fields l) (of_fields (fields l)) → (of_fields (fields l) ≡ IllFormed) ⊎ Canonical l (of_fields (fields l))
    go (inl e) = inl e
    go (inr s) = inr (record { writable = s.writable; text = sym (join_split 9 l) ∙ ap (join 9) s.same })
