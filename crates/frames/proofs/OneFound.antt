-- In words that pass the test, looking for a message finds one thing and no other. Assumes nothing.
use mathlib.Core.Path.{◌≡◌, refl, sym, ap, ◌∙◌, subst}
use mathlib.Core.Bool.{Bool, true, false}
use mathlib.Core.List.{List}
use mathlib.Core.Option.{IsSome}
use Prim.Native.Nat.{ℕ}
use lib.Dec.{eqb}
use borrow.Author.Tests.{eqb-true, eqb-false}
use Rattle.books.specs.Book.{identifiers}
use Rattle.books.specs.Words.{messages_of, messages_taken_spec}
use Rattle.record.specs.Columns.{message_count_of}
use Rattle.frames.specs.Lookup.{first_at, before, Finds}
use Rattle.std.specs.Prelude.{Option, Some, None}
use Rattle.frames.proofs.Lookups.{ids_are, there_is, nothing, spans}

pub alone : (w : List ℕ) (identifier : ℕ) (f g : Option (ℕ × ℕ)) → Finds w identifier f → Finds w identifier g → f ≡ g
alone w identifier (Some (a, b)) (Some (c, d)) p q =
    ap (λ (x : ℕ). Some (x, b)) (p.begins ∙ sym q.begins) ∙ ap (λ (x : ℕ). Some (c, x)) (p.ends ∙ sym q.ends)
alone w identifier (Some (a, b)) None p q = absurd (subst IsSome (sym p.found ∙ q) tt)
alone w identifier None (Some (c, d)) p q = absurd (subst IsSome (sym q.found ∙ p) tt)
alone w identifier None None p q = refl

pub record There (w : List ℕ) (identifier : ℕ) : Type 0 where
  pub found : Option (ℕ × ℕ)
  pub finds : Finds w identifier found

pub there : (w : List ℕ) → messages_taken_spec w ≡ true → (identifier : ℕ) → There w identifier
there w t identifier = go (eqb at (message_count_of w)) refl
  where
    at : ℕ
    at = before w identifier

    first : at ≡ first_at identifier (identifiers (messages_of w))
    first = ap (first_at identifier) (ids_are w t)

    go : (b : Bool) → eqb at (message_count_of w) ≡ b → There w identifier
    go true e = record { found = None; finds = nothing w t identifier at first (eqb-true at (message_count_of w) e) }
    go false e =
        let inside = there_is w t identifier at first (eqb-false at (message_count_of w) e) in
        record { found = Some (_, _); finds = spans w t identifier at first inside }
