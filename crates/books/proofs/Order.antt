-- What a line is refused with is the lowest number that it deserves. Assumes nothing.
use mathlib.Core.Path.{◌≡◌, refl}
use mathlib.Core.Logic.{◌⊎◌, inl, inr, ⊎_elim}
use Prim.Native.Nat.{ℕ, zero, suc, ◌≤◌, ◌<◌}
use native.Mathlib.Omega.{arith}
use mathlib.Core.Bool.{Bool, true, false, cond, ◌||◌}
use mathlib.Core.List.{List}
use lib.Dec.{eqb, leb}
use lib.ListN.{length}
use borrow.Author.Tests.{eqb-true, eq-eqb, leb-true, le-leb}
use Rattle.catalogue.specs.Find.{bits_of_spec, HasRow}
use Rattle.catalogue.proofs.Found.{zero_bits, none_has_zero}
use Rattle.books.specs.Book.{Placement, Message, Route, identifiers, numbers, all_placements, last_placements}
use Rattle.books.specs.Lines.{is_in, unknown_or_over, misplaced, meets_earlier, message_refusal, after_refusal, signal_refusal, route_refusal, message_limit, signal_limit, route_limit, bus_limit, identifier_limit, start_limit}
use Rattle.books.specs.Built.{Built}
use Rattle.books.specs.Due.{MessageDue, SignalDue, RouteDue, LowestDue}
use Rattle.books.proofs.Meeting.{bits_meet, shared_earlier}

-- a number above 0, and no higher than n
abbrev pub UpTo : ℕ → ℕ → Type 0
UpTo r n = (0 < r) × (r ≤ n)

-- a test with a number that is no higher, before what is so too
lower : (t : Bool) (k r n : ℕ) → suc k ≤ n → UpTo r n → UpTo (cond t (suc k) r) n
lower true k r n h g = (omega arith, h)
lower false k r n h g = g

-- and one that holds
here : (t : Bool) (k r n : ℕ) → n ≡ suc k → t ≡ true → UpTo (cond t (suc k) r) n
here true k r n h e = (omega arith, omega arith)
here false k r n h e = absurd (let z : ◌≡◌ {A = ℕ} 0 1 = cc in omega arith)

-- what comes of tests, each with a number that is due where it holds, is due
first : (Due : ℕ → Type 0) (t : Bool) (k r : ℕ) → (t ≡ true → Due k) → ((j : ℕ) → r ≡ suc j → Due r) → (j : ℕ) → cond t k r ≡ suc j → Due (cond t k r)
first Due true k r f g j e = f refl
first Due false k r f g j e = g j e

none : (Due : ℕ → Type 0) (j : ℕ) → 0 ≡ suc j → Due 0
none Due j e = absurd (omega arith)

-- one of two tests holds
either_true : (a b : Bool) → a || b ≡ true → (a ≡ true) ⊎ (b ≡ true)
either_true true b e = inl refl
either_true false b e = inr e

true_either : (a b : Bool) → (a ≡ true) ⊎ (b ≡ true) → a || b ≡ true
true_either true b h = refl
true_either false b (inl e) = absurd (let z : ◌≡◌ {A = ℕ} 0 1 = cc in omega arith)
true_either false b (inr e) = e

-- a bus or an identifier over its limit
over_told : (bus identifier : ℕ) → leb bus_limit bus || leb identifier_limit identifier ≡ true → (bus_limit ≤ bus) ⊎ (identifier_limit ≤ identifier)
over_told bus identifier e = ⊎_elim (λ z. inl (leb-true _ _ z)) (λ z. inr (leb-true _ _ z)) (either_true (leb bus_limit bus) (leb identifier_limit identifier) e)

told_over : (bus identifier : ℕ) → (bus_limit ≤ bus) ⊎ (identifier_limit ≤ identifier) → leb bus_limit bus || leb identifier_limit identifier ≡ true
told_over bus identifier h =
    true_either (leb bus_limit bus) (leb identifier_limit identifier) (⊎_elim (λ z. inl (le-leb _ _ z)) (λ z. inr (le-leb _ _ z)) h)

-- ---- an `M` line
-- what holds of every number that has one before it holds of every number above 0
above : (Due : ℕ → Type 0) (r : ℕ) → ((k : ℕ) → r ≡ suc k → Due r) → 0 < r → Due r
above Due zero f h = absurd (omega arith)
above Due (suc k) f h = f k refl

module _ (ms : List Message) (i : ℕ) where
  abbrev m3 : Bool
  m3 = leb identifier_limit i

  abbrev m5 : Bool
  m5 = is_in i (identifiers ms)

  abbrev m9 : Bool
  m9 = leb message_limit (length ms)

  message_due : (j : ℕ) → message_refusal ms i ≡ suc j → MessageDue ms i (message_refusal ms i)
  unfolding message_refusal
  message_due =
      first (MessageDue ms i) m3 3 _ (λ e. MessageDue.over refl (leb-true _ _ e))
      (first (MessageDue ms i) m5 5 _ (MessageDue.again refl)
      (first (MessageDue ms i) m9 9 0 (λ e. MessageDue.full refl (leb-true _ _ e)) (none (MessageDue ms i))))

  message_least : (n : ℕ) → MessageDue ms i n → UpTo (message_refusal ms i) n
  unfolding message_refusal
  message_least n (MessageDue.over e h) = here m3 2 _ n e (le-leb _ _ h)
  message_least n (MessageDue.again e h) = lower m3 2 _ n (omega arith) (here m5 4 _ n e h)
  message_least n (MessageDue.full e h) = lower m3 2 _ n (omega arith) (lower m5 4 _ n (omega arith) (here m9 8 0 n e (le-leb _ _ h)))

  pub message_lowest : LowestDue (MessageDue ms i) (message_refusal ms i)
  message_lowest = record { due = above (MessageDue ms i) _ message_due; lowest = message_least }

-- ---- an `S` line
module _ (ms : List Message) (p : Placement) where
  abbrev s3 : Bool
  s3 = unknown_or_over p

  abbrev s4 : Bool
  s4 = eqb (length ms) 0

  abbrev s6 : Bool
  s6 = is_in p.number (numbers (last_placements ms))

  abbrev s7 : Bool
  s7 = misplaced p

  abbrev s8 : Bool
  s8 = meets_earlier (last_placements ms) p

  abbrev s9 : Bool
  s9 = leb signal_limit (length (all_placements ms))

  -- what comes after the first of the tests
  abbrev after3 : ℕ
  after3 = cond s4 4 (cond s6 6 (cond s7 7 (cond s8 8 (cond s9 9 0))))

  unknown : s3 ≡ true → (HasRow p.number → ⊥) ⊎ (start_limit ≤ p.start)
  unfolding unknown_or_over
  unknown e =
      ⊎_elim (λ z. inl (none_has_zero p.number (eqb-true _ _ z))) (λ z. inr (leb-true _ _ z))
      (either_true (eqb (bits_of_spec p.number) 0) (leb start_limit p.start) e)

  unknown_told : (HasRow p.number → ⊥) ⊎ (start_limit ≤ p.start) → s3 ≡ true
  unfolding unknown_or_over
  unknown_told h =
      true_either (eqb (bits_of_spec p.number) 0) (leb start_limit p.start)
      (⊎_elim (λ z. inl (eq-eqb _ _ (zero_bits p.number z))) (λ z. inr (le-leb _ _ z)) h)

  signal_due : Built ms → (j : ℕ) → signal_refusal ms p ≡ suc j → SignalDue ms p (signal_refusal ms p)
  unfolding signal_refusal after_refusal
  signal_due b = go (unknown_or_over p) refl
    where
      go : (t : Bool) → unknown_or_over p ≡ t → (j : ℕ) → cond t 3 after3 ≡ suc j → SignalDue ms p (cond t 3 after3)
      go true k = λ j e. SignalDue.over refl (unknown k)
      go false k =
          first (SignalDue ms p) s4 4 _ (λ e. SignalDue.early refl (eqb-true _ _ e))
          (first (SignalDue ms p) s6 6 _ (SignalDue.again refl)
          (first (SignalDue ms p) s7 7 _ (SignalDue.astray refl)
          (first (SignalDue ms p) s8 8 _ (λ e. SignalDue.meeting refl ((bits_meet ms p b k).0 e))
          (first (SignalDue ms p) s9 9 0 (λ e. SignalDue.full refl (leb-true _ _ e)) (none (SignalDue ms p))))))

  pub signal_least : (n : ℕ) → SignalDue ms p n → UpTo (signal_refusal ms p) n
  unfolding signal_refusal after_refusal
  signal_least n (SignalDue.over e h) = here s3 2 _ n e (unknown_told h)
  signal_least n (SignalDue.early e h) = lower s3 2 _ n (omega arith) (here s4 3 _ n e (eq-eqb _ _ h))
  signal_least n (SignalDue.again e h) = lower s3 2 _ n (omega arith) (lower s4 3 _ n (omega arith) (here s6 5 _ n e h))
  signal_least n (SignalDue.astray e h) = lower s3 2 _ n (omega arith) (lower s4 3 _ n (omega arith) (lower s6 5 _ n (omega arith) (here s7 6 _ n e h)))
  signal_least n (SignalDue.meeting e h) =
      lower s3 2 _ n (omega arith) (lower s4 3 _ n (omega arith) (lower s6 5 _ n (omega arith) (lower s7 6 _ n (omega arith) (here s8 7 _ n e (shared_earlier (last_placements ms) p h)))))
  signal_least n (SignalDue.full e h) =
      lower s3 2 _ n (omega arith) (lower s4 3 _ n (omega arith) (lower s6 5 _ n (omega arith) (lower s7 6 _ n (omega arith) (lower s8 7 _ n (omega arith) (here s9 8 0 n e (le-leb _ _ h))))))

  -- after the lines of a book
  pub signal_lowest : Built ms → LowestDue (SignalDue ms p) (signal_refusal ms p)
  signal_lowest b = record { due = above (SignalDue ms p) _ (signal_due b); lowest = signal_least }

-- ---- an `R` line
module _ (rs : List Route) (a i b j : ℕ) where
  abbrev r3 : Bool
  r3 = (leb bus_limit a || leb identifier_limit i) || (leb bus_limit b || leb identifier_limit j)

  abbrev r9 : Bool
  r9 = leb route_limit (length rs)

  route_due : (k : ℕ) → route_refusal rs a i b j ≡ suc k → RouteDue rs a i b j (route_refusal rs a i b j)
  unfolding route_refusal
  route_due =
      first (RouteDue rs a i b j) r3 3 _ (λ e. RouteDue.over refl (⊎_elim (λ z. inl (over_told a i z)) (λ z. inr (over_told b j z)) (either_true (leb bus_limit a || leb identifier_limit i) (leb bus_limit b || leb identifier_limit j) e)))
      (first (RouteDue rs a i b j) r9 9 0 (λ e. RouteDue.full refl (leb-true _ _ e)) (none (RouteDue rs a i b j)))

  route_least : (n : ℕ) → RouteDue rs a i b j n → UpTo (route_refusal rs a i b j) n
  unfolding route_refusal
  route_least n (RouteDue.over e h) = here r3 2 _ n e (true_either (leb bus_limit a || leb identifier_limit i) (leb bus_limit b || leb identifier_limit j) (⊎_elim (λ z. inl (told_over a i z)) (λ z. inr (told_over b j z)) h))
  route_least n (RouteDue.full e h) = lower r3 2 _ n (omega arith) (here r9 8 0 n e (le-leb _ _ h))

  pub route_lowest : LowestDue (RouteDue rs a i b j) (route_refusal rs a i b j)
  route_lowest = record { due = above (RouteDue rs a i b j) _ route_due; lowest = route_least }
