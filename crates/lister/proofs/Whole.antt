-- The loop over a text ends where no whole line is left, by what each call answers. Assumes nothing.
use mathlib.Core.Path.{◌≡◌, refl, ap, ◌∙◌, subst}
use mathlib.Core.Bool.{Bool, cond}
use mathlib.Core.List.{List, []}
use Prim.Native.Nat.{ℕ, ◌≤◌}
use native.Mathlib.Omega.{arith}
use lib.ListN.{length, drop}
use Rattle.parts.proofs.LineEnds.{lines_none}
use Rattle.signal_lines.specs.declared.figures.Figures.{Figures}
use Rattle.listing.specs.declared.Listed.{Listed}
use Rattle.listing.specs.declared.ListRefusal.{ListRefusal}
use Rattle.listing.specs.declared.ListRefusal.TheVariants.{NotABook}
use Rattle.std.specs.Prelude.{Result, Ok, Err}
use Rattle.listing.specs.Listing.{listed_number, listing}
use Rattle.listing.specs.Together.{ended_lines, whole_lines}
use Rattle.listing.proofs.AsRead.{refused_12}
use Rattle.listing.proofs.GoesOn.{takes_a_line}
use Rattle.lister.specs.Whole.{WholeUsed}

number_12 : (why : ListRefusal) → 12 ≡ listed_number (Err why)
number_12 NotABook = refl

module _ (figures : Figures) {words text room : List ℕ} (out : List ℕ) {used : ℕ} (within : used ≤ length text) (size : length out ≡ length room) where
  -- a call that used nothing of the rest
  pub none_used : {rest : List ℕ} → rest ≡ drop used text → {listed : Listed} {new : List ℕ} → ◌≡◌ {A = Result Listed ListRefusal × List ℕ} (Ok listed, new) (listing figures words rest out)
      → listed.used ≡ 0 → WholeUsed words text room used
  none_used {rest} x {listed} {new} e z =
      record {
        within = within;
        none_left = λ t h. subst (λ (l : List ℕ). whole_lines l ≡ []) x (takes_a_line figures words rest out t (omega (arith, h, size)) listed new e z);
      }

  -- a call that found no book
  pub no_book_law : (rest : List ℕ) {why : ListRefusal} {new : List ℕ} → ◌≡◌ {A = Result Listed ListRefusal × List ℕ} (Err why, new) (listing figures words rest out) → WholeUsed words text room used
  no_book_law rest {why} e =
      record {
        within = within;
        none_left = λ t h. absurd (let z : ◌≡◌ {A = ℕ} 12 0 = number_12 why ∙ ap (λ (l : Result Listed ListRefusal × List ℕ). listed_number l.0) e ∙ refused_12 figures words rest out ∙ ap (λ (b : Bool). cond b 0 12) t in omega arith);
      }

-- the end of the text
pub all_used : {words text room : List ℕ} {used : ℕ} → used ≤ length text → length text ≤ used → WholeUsed words text room used
unfolding ended_lines
all_used {words} {text} {room} {used} within h = record { within = within; none_left = λ t k. ap ended_lines (lines_none text used h) }
