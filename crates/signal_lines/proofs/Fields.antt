-- A printed line, field by field. Assumes nothing.
use mathlib.Core.Path.{◌≡◌, refl, subst⁻¹}
use mathlib.Core.List.{List, [], ◌∷◌, ◌++◌, append_assoc}
use Prim.Native.Nat.{ℕ}
use Rattle.parts.specs.Parts.{tab, newline}
use Rattle.parts.specs.Joined.{join}
use Rattle.printing.specs.Put.{Put}
use Rattle.printing.proofs.Puts.{and_then}
use Rattle.signal_lines.specs.Printed.{printed_line}

-- a field, a tab, and the rest of the line
pub field_more : (a b : List ℕ) (fs : List (List ℕ)) → printed_line (a ∷ b ∷ fs) ≡ a ++ ((tab ∷ []) ++ printed_line (b ∷ fs))
unfolding printed_line join
field_more a b fs = append_assoc a (tab ∷ join tab (b ∷ fs)) (newline ∷ [])

pub field_last : (a : List ℕ) → printed_line (a ∷ []) ≡ a ++ (newline ∷ [])
unfolding printed_line join
field_last a = refl

module _ {old one two new : List ℕ} {at m n next : ℕ} {a : List ℕ} where
  pub put_more : (b : List ℕ) (fs : List (List ℕ)) → Put old at a one m → Put one m (tab ∷ []) two n → Put two n (printed_line (b ∷ fs)) new next
      → Put old at (printed_line (a ∷ b ∷ fs)) new next
  put_more b fs p t q = subst⁻¹ (λ (l : List ℕ). Put old at l new next) (field_more a b fs) (and_then p (and_then t q))

pub put_last : {old one new : List ℕ} {at m next : ℕ} {a : List ℕ} → Put old at a one m → Put one m (newline ∷ []) new next
    → Put old at (printed_line (a ∷ [])) new next
put_last {old} {one} {new} {at} {m} {next} {a} p q = subst⁻¹ (λ (l : List ℕ). Put old at l new next) (field_last a) (and_then p q)
