-- What stands after the kind and its tab in a text that starts with a line. Assumes nothing.
use mathlib.Core.Path.{◌≡◌, refl, ap, ◌∙◌}
use mathlib.Core.Logic.{◌⊎◌, inl, inr}
use mathlib.Core.List.{List, [], ◌∷◌, ◌++◌, append_assoc}
use Prim.Native.Nat.{ℕ, ◌-◌, ◌≤◌, ◌<◌}
use native.Mathlib.Omega.{arith}
use lib.ListN.{length, take, drop, get_or}
use Rattle.std.proofs.lemmas.List.{take_rest}
use Rattle.std.specs.Prelude.{Option}
use Rattle.numerals.specs.Written.{identifier_text, decimal_text, hexadecimal_limit, decimal_limit}
use Rattle.parts.specs.Joined.{join}
use Rattle.line.specs.declared.Line.{Line}
use Rattle.line.specs.declared.Line.TheVariants.{Message, Signal, Route, IllFormed}
use Rattle.line.specs.Written.{fields_of, line_text}
use Rattle.line.specs.declared.ReadLine.{ReadLine}
use Rattle.line.specs.LineAt.{first_line}
use Rattle.line.specs.First.{FirstOrIll, ill_formed_spec}
use Rattle.line.proofs.Starts.{Starts, Started, first_starts}

-- the numbers of a message, a signal, a route, from the front of a text
pub record MessageAt (text : List ℕ) : Type 0 where
  pub id : ℕ
  pub rest : List ℕ
  pub small : id < hexadecimal_limit
  pub same : text ≡ identifier_text id ++ 10 ∷ rest

pub record SignalAt (text : List ℕ) : Type 0 where
  pub number : ℕ
  pub start : ℕ
  pub rest : List ℕ
  pub small : (number < decimal_limit) × (start < decimal_limit)
  pub same : text ≡ decimal_text number ++ 9 ∷ (decimal_text start ++ 10 ∷ rest)

pub record RouteAt (text : List ℕ) : Type 0 where
  pub a : ℕ
  pub i : ℕ
  pub b : ℕ
  pub j : ℕ
  pub rest : List ℕ
  pub small : ((a < decimal_limit) × (i < hexadecimal_limit)) × ((b < decimal_limit) × (j < hexadecimal_limit))
  pub same : text ≡ decimal_text a ++ 9 ∷ (identifier_text i ++ 9 ∷ (decimal_text b ++ 9 ∷ (identifier_text j ++ 10 ∷ rest)))

-- the first byte tells the kind
other : {A : Type 0} {j k : ℕ} {s t : List ℕ} → j ∷ s ≡ k ∷ t → (j ≡ k → ⊥) → A
other e n = absurd (n (ap (λ (l : List ℕ). get_or l 0 0) e))

module _ (fields : List ℕ) where
  after : {a b c d : ℕ} {t : List ℕ} → a ∷ b ∷ fields ≡ c ∷ d ∷ t → fields ≡ t
  after e = ap (drop 2) e

  -- what follows from every line that a text of a kind may start with
  started : {A : Type 0} (k : ℕ) → ((l : Line) (rest : List ℕ) → Starts (k ∷ 9 ∷ fields) l rest → A)
      → (ill_formed_spec (k ∷ 9 ∷ fields) ≡ first_line (k ∷ 9 ∷ fields)) ⊎ A
  started {A} k at = by (first_starts (k ∷ 9 ∷ fields))
    where
      by : (ill_formed_spec (k ∷ 9 ∷ fields) ≡ first_line (k ∷ 9 ∷ fields)) ⊎ Started (k ∷ 9 ∷ fields)
          → (ill_formed_spec (k ∷ 9 ∷ fields) ≡ first_line (k ∷ 9 ∷ fields)) ⊎ A
      by (inl e) = inl e
      by (inr s) = inr (at s.line s.rest s.starts)

  pub message_or : (ill_formed_spec (77 ∷ 9 ∷ fields) ≡ first_line (77 ∷ 9 ∷ fields)) ⊎ MessageAt fields
  unfolding line_text fields_of join
  message_or = started 77 at
    where
      at : (l : Line) (rest : List ℕ) → Starts (77 ∷ 9 ∷ fields) l rest → MessageAt fields
      at (Message i) rest s = record { id = i; rest = rest; small = s.writable; same = after s.same }
      at (Signal n t) rest s = other s.same (λ e. omega arith)
      at (Route a i b j) rest s = other s.same (λ e. omega arith)
      at IllFormed rest s = absurd s.writable

  pub signal_or : (ill_formed_spec (83 ∷ 9 ∷ fields) ≡ first_line (83 ∷ 9 ∷ fields)) ⊎ SignalAt fields
  unfolding line_text fields_of join
  signal_or = started 83 at
    where
      at : (l : Line) (rest : List ℕ) → Starts (83 ∷ 9 ∷ fields) l rest → SignalAt fields
      at (Signal n t) rest s =
          record { number = n; start = t; rest = rest; small = s.writable; same = after s.same ∙ simp append_assoc }
      at (Message i) rest s = other s.same (λ e. omega arith)
      at (Route a i b j) rest s = other s.same (λ e. omega arith)
      at IllFormed rest s = absurd s.writable

  pub route_or : (ill_formed_spec (82 ∷ 9 ∷ fields) ≡ first_line (82 ∷ 9 ∷ fields)) ⊎ RouteAt fields
  unfolding line_text fields_of join
  route_or = started 82 at
    where
      at : (l : Line) (rest : List ℕ) → Starts (82 ∷ 9 ∷ fields) l rest → RouteAt fields
      at (Route a i b j) rest s =
          record { a = a; i = i; b = b; j = j; rest = rest; small = s.writable; same = after s.same ∙ simp append_assoc }
      at (Message i) rest s = other s.same (λ e. omega arith)
      at (Signal n t) rest s = other s.same (λ e. omega arith)
      at IllFormed rest s = absurd s.writable

-- a line begins with its kind and a tab
data Kind (k : ℕ) : Type 0 where
  M : k ≡ 77 → Kind k
  S : k ≡ 83 → Kind k
  R : k ≡ 82 → Kind k

record Begun (text : List ℕ) : Type 0 where
  pub long : 2 ≤ length text
  pub tab : get_or text 1 0 ≡ 9
  pub kind : Kind (get_or text 0 0)

begun : (text : List ℕ) (l : Line) (rest : List ℕ) → Starts text l rest → Begun text
unfolding line_text fields_of join
begun text (Message i) rest s = rw s.same (record { long = omega arith; tab = refl; kind = M refl })
begun text (Signal n t) rest s = rw s.same (record { long = omega arith; tab = refl; kind = S refl })
begun text (Route a i b j) rest s = rw s.same (record { long = omega arith; tab = refl; kind = R refl })
begun text IllFormed rest s = absurd s.writable

-- what begins otherwise is ill formed
pub otherwise : (text : List ℕ) → (2 ≤ length text → get_or text 1 0 ≡ 9 → get_or text 0 0 ≡ 83 → ⊥)
    → (2 ≤ length text → get_or text 1 0 ≡ 9 → get_or text 0 0 ≡ 77 → ⊥)
    → (2 ≤ length text → get_or text 1 0 ≡ 9 → get_or text 0 0 ≡ 82 → ⊥) → ill_formed_spec text ≡ first_line text
otherwise text s m r = by (first_starts text)
  where
    no : 2 ≤ length text → get_or text 1 0 ≡ 9 → Kind (get_or text 0 0) → ⊥
    no l t (M e) = m l t e
    no l t (S e) = s l t e
    no l t (R e) = r l t e

    by : (ill_formed_spec text ≡ first_line text) ⊎ Started text → ill_formed_spec text ≡ first_line text
    by (inl e) = e
    by (inr s) = let b : Begun text = begun text s.line s.rest s.starts in absurd (no b.long b.tab b.kind)

-- a text by its kind, its tab and what is after them
whole : (text : List ℕ) {k : ℕ} → 2 ≤ length text → get_or text 0 0 ≡ k → get_or text 1 0 ≡ 9 → k ∷ 9 ∷ drop 2 text ≡ text
whole [] h e f = absurd (omega arith)
whole (a ∷ []) h e f = absurd (omega arith)
whole (a ∷ b ∷ t) h e f = rw (e, f) refl

pub of_kind : (text : List ℕ) (k : ℕ) (r : Option ReadLine) → FirstOrIll (k ∷ 9 ∷ take (length text - 2) (drop 2 text)) r
    → 2 ≤ length text → get_or text 0 0 ≡ k → get_or text 1 0 ≡ 9 → FirstOrIll text r
of_kind text k r s h e f = rw (take_rest text 2, whole text h e f) at s
