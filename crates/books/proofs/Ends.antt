-- One message or one placement more at the end of a book's messages. Assumes nothing.
use mathlib.Core.Path.{◌≡◌, refl, sym, ap, ◌∙◌, subst}
use Prim.Native.Nat.{◌+◌, ◌<◌}
use native.Mathlib.Omega.{arith}
use mathlib.Core.List.{List, [], ◌∷◌, ◌++◌, map, append_assoc, append-nil}
use lib.ListN.{length, length-append}
use Rattle.books.specs.Book.{Placement, Message, all_placements, with_placement, in_last, last_placements}

pub map-append {ℓ ℓ'} : {A : Type ℓ} {B : Type ℓ'} (f : A → B) (s t : List A) → map f (s ++ t) ≡ map f s ++ map f t
map-append f [] t = refl
map-append f (x ∷ s) t = ap (◌∷◌ (f x)) (map-append f s t)

pub all_append : (ms ns : List Message) → all_placements (ms ++ ns) ≡ all_placements ms ++ all_placements ns
unfolding all_placements
all_append [] ns = refl
all_append (m ∷ ms) ns = ap (λ (l : List Placement). m.placements ++ l) (all_append ms ns) ∙ sym (append_assoc m.placements (all_placements ms) (all_placements ns))

pub all_one : (m : Message) → all_placements (m ∷ []) ≡ m.placements
unfolding all_placements
all_one m = append-nil _

-- the number of placements of messages that end with m
pub count_last : (ms : List Message) (m : Message) → length (all_placements (ms ++ (m ∷ []))) ≡ length (all_placements ms) + length m.placements
count_last ms m = ap length (all_append ms (m ∷ [])) ∙ length-append (all_placements ms) (all_placements (m ∷ [])) ∙ ap (λ (l : List Placement). length (all_placements ms) + length l) (all_one m)

pub length_more {ℓ} : {A : Type ℓ} (l : List A) (x : A) → length (l ++ (x ∷ [])) ≡ length l + 1
length_more l x = length-append l (x ∷ [])

-- the last message of a list that ends with it
pub in_last_law : (ms : List Message) (m : Message) (p : Placement) → in_last (ms ++ (m ∷ [])) p ≡ ms ++ (with_placement m p ∷ [])
unfolding in_last
in_last_law [] m p = refl
in_last_law (x ∷ []) m p = refl
in_last_law (x ∷ y ∷ ms) m p = ap (◌∷◌ x) (in_last_law (y ∷ ms) m p)

pub last_placements_law : (ms : List Message) (m : Message) → last_placements (ms ++ (m ∷ [])) ≡ m.placements
unfolding last_placements
last_placements_law [] m = refl
last_placements_law (x ∷ []) m = refl
last_placements_law (x ∷ y ∷ ms) m = last_placements_law (y ∷ ms) m

-- messages that are there end with one
pub record Last (ms : List Message) : Type 0 where
  pub before : List Message
  pub last : Message
  pub whole : ms ≡ before ++ (last ∷ [])

pub last : (m : Message) (ms : List Message) → Last (m ∷ ms)
last m [] = record { before = []; last = m; whole = refl }
last m (n ∷ ms) = let r = last n ms in record { before = m ∷ r.before; last = r.last; whole = ap (◌∷◌ m) r.whole }

-- one signal more, in the last message
pub one_more : (ms : List Message) (p : Placement) → 0 < length ms
    → (length (in_last ms p) ≡ length ms) × (length (all_placements (in_last ms p)) ≡ length (all_placements ms) + 1)
one_more [] p h = absurd (omega arith)
one_more (x ∷ xs) p h =
    let r = last x xs in
    subst (λ (ms : List Message). (length (in_last ms p) ≡ length ms) × (length (all_placements (in_last ms p)) ≡ length (all_placements ms) + 1)) (sym r.whole)
    (rw (in_last_law r.before r.last p) (
      omega (arith, length_more r.before (with_placement r.last p), length_more r.before r.last),
      omega (arith, count_last r.before (with_placement r.last p), count_last r.before r.last, length_more r.last.placements p),
    ))

pub last_longer : (ms : List Message) (p : Placement) → 0 < length ms → last_placements (in_last ms p) ≡ last_placements ms ++ (p ∷ [])
last_longer [] p h = absurd (omega arith)
last_longer (x ∷ xs) p h =
    let l = last x xs in
    subst (λ (ms : List Message). last_placements (in_last ms p) ≡ last_placements ms ++ (p ∷ [])) (sym l.whole)
    (ap last_placements (in_last_law l.before l.last p) ∙ last_placements_law l.before (with_placement l.last p) ∙
    ap (λ (ps : List Placement). ps ++ (p ∷ [])) (sym (last_placements_law l.before l.last)))
