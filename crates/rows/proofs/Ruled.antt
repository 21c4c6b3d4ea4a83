-- The rule, from a test that is computed over a whole table, and a lemma that turns it into the rule at each row.
-- Assumes nothing.
use mathlib.Core.Logic.{◌⊎◌, inl, inr}
use mathlib.Core.Path.{◌≡◌, refl}
use mathlib.Core.Bool.{Bool, true, false, ◌&&◌, ◌||◌, not}
use mathlib.Core.List.{List, [], ◌∷◌}
use Prim.Native.Nat.{ℕ, zero, suc, ◌+◌, ◌*◌, ◌^◌, ◌<◌}
use native.Mathlib.Nat.{le_of_suc-le-suc, not-suc-le-zero, lt_trans}
use native.Mathlib.Omega.{arith}
use lib.Dec.{T, leb, ltb, leb→le, ltb→lt}
use lib.Ieee.Fits.{and_l, and_r}
use lib.IntN.{nat_abs}
use lib.ListN.{length, get_or}
use Rattle.rows.specs.declared.Mark.{Mark}
use Rattle.rows.specs.declared.MarkKind.{MarkKind}
use Rattle.rows.specs.declared.MarkKind.TheVariants.{Unmarked, Invalid, Absent, Error, Reserved}
use Rattle.rows.specs.declared.Row.{Row}
use Rattle.rows.specs.Rows.{blank, unmarked_kind}
use Rattle.rows.specs.Rule.{Rule, Apart, IsKind, Kinded, a_mark, no_mark, Kept, most_bits, exact_doubles}

-- ---- tests of one row

-- a mark is empty, or one ends before the other begins
abbrev apart : Mark → Mark → Bool
apart m m' = ltb m.last m.first || (ltb m'.last m'.first || (ltb m.last m'.first || ltb m'.last m.first))

or : (a b : Bool) → T (a || b) → T a ⊎ T b
or true b t = inl tt
or false b t = inr t

apart→ : (m m' : Mark) → T (apart m m') → Apart m m'
apart→ m m' t n p q p' q' = go (or (ltb m.last m.first) _ t)
  where
    go3 : T (ltb m.last m'.first) ⊎ T (ltb m'.last m.first) → ⊥
    go3 (inl x) = let y = ltb→lt m.last m'.first x in omega arith
    go3 (inr x) = let y = ltb→lt m'.last m.first x in omega arith

    go2 : T (ltb m'.last m'.first) ⊎ T (ltb m.last m'.first || ltb m'.last m.first) → ⊥
    go2 (inl x) = let y = ltb→lt m'.last m'.first x in omega arith
    go2 (inr x) = go3 (or (ltb m.last m'.first) (ltb m'.last m.first) x)

    go : T (ltb m.last m.first) ⊎ T (ltb m'.last m'.first || (ltb m.last m'.first || ltb m'.last m.first)) → ⊥
    go (inl x) = let y = ltb→lt m.last m.first x in omega arith
    go (inr x) = go2 (or (ltb m'.last m'.first) (ltb m.last m'.first || ltb m'.last m.first) x)

-- a kind of marks, or that of no mark
abbrev some_kind : MarkKind → Bool
some_kind Unmarked = false
some_kind Invalid = true
some_kind Absent = true
some_kind Error = true
some_kind Reserved = true

some_kind→ : (k : MarkKind) → T (some_kind k) → IsKind k
some_kind→ Unmarked t = absurd t
some_kind→ Invalid t = inl refl
some_kind→ Absent t = inr (inl refl)
some_kind→ Error t = inr (inr (inl refl))
some_kind→ Reserved t = inr (inr (inr (inl refl)))

no_kind→ : (k : MarkKind) → T (not (some_kind k)) → k ≡ unmarked_kind
no_kind→ Unmarked t = refl
no_kind→ Invalid t = absurd t
no_kind→ Absent t = absurd t
no_kind→ Error t = absurd t
no_kind→ Reserved t = absurd t

-- a mark, or none
abbrev pub kinded : Mark → Bool
kinded m = (some_kind m.kind && leb m.first m.last) || (not (some_kind m.kind) && ltb m.last m.first)

pub kinded→ : (m : Mark) → T (kinded m) → Kinded m
kinded→ m t = go (or (some_kind m.kind && leb m.first m.last) (not (some_kind m.kind) && ltb m.last m.first) t)
  where
    go : T (some_kind m.kind && leb m.first m.last) ⊎ T (not (some_kind m.kind) && ltb m.last m.first) → Kinded m
    go (inl x) =
        let a = and_l (some_kind m.kind) (leb m.first m.last) x in
        let b = and_r (some_kind m.kind) (leb m.first m.last) x in
        a_mark (some_kind→ m.kind a) (leb→le m.first m.last b)
    go (inr x) =
        let a = and_l (not (some_kind m.kind)) (ltb m.last m.first) x in
        let b = and_r (not (some_kind m.kind)) (ltb m.last m.first) x in
        no_mark (no_kind→ m.kind a) (ltb→lt m.last m.first b)

-- a test for each field of the rule, in its order
abbrev right : Row → Bool
right r =
    leb 1 r.bits && (leb r.bits most_bits && (leb 1 r.resolution && (leb r.lowest r.highest && (ltb r.highest (2 ^ r.bits)
    && (ltb r.mark1.last (2 ^ r.bits) && (ltb r.mark2.last (2 ^ r.bits) && (ltb r.mark3.last (2 ^ r.bits)
    && (apart r.mark1 r.mark2 && (apart r.mark1 r.mark3 && (apart r.mark2 r.mark3
    && (kinded r.mark1 && (kinded r.mark2 && (kinded r.mark3
    && (leb (2 ^ r.bits * r.resolution + nat_abs r.offset) exact_doubles))))))))))))))

right→ : (r : Row) → T (right r) → Rule r
right→ r t0 =
    let t1 = and_r (leb 1 r.bits) _ t0 in
    let t2 = and_r (leb r.bits most_bits) _ t1 in
    let t3 = and_r (leb 1 r.resolution) _ t2 in
    let t4 = and_r (leb r.lowest r.highest) _ t3 in
    let t5 = and_r (ltb r.highest (2 ^ r.bits)) _ t4 in
    let t6 = and_r (ltb r.mark1.last (2 ^ r.bits)) _ t5 in
    let t7 = and_r (ltb r.mark2.last (2 ^ r.bits)) _ t6 in
    let t8 = and_r (ltb r.mark3.last (2 ^ r.bits)) _ t7 in
    let t9 = and_r (apart r.mark1 r.mark2) _ t8 in
    let t10 = and_r (apart r.mark1 r.mark3) _ t9 in
    let t11 = and_r (apart r.mark2 r.mark3) _ t10 in
    let t12 = and_r (kinded r.mark1) _ t11 in
    let t13 = and_r (kinded r.mark2) _ t12 in
    let t14 = and_r (kinded r.mark3) _ t13 in
    record {
      some_bits = leb→le 1 r.bits (and_l (leb 1 r.bits) _ t0);
      few_bits = leb→le r.bits most_bits (and_l (leb r.bits most_bits) _ t1);
      some_step = leb→le 1 r.resolution (and_l (leb 1 r.resolution) _ t2);
      limits = leb→le r.lowest r.highest (and_l (leb r.lowest r.highest) _ t3);
      highest_fits = ltb→lt r.highest (2 ^ r.bits) (and_l (ltb r.highest (2 ^ r.bits)) _ t4);
      mark1_fits = ltb→lt r.mark1.last (2 ^ r.bits) (and_l (ltb r.mark1.last (2 ^ r.bits)) _ t5);
      mark2_fits = ltb→lt r.mark2.last (2 ^ r.bits) (and_l (ltb r.mark2.last (2 ^ r.bits)) _ t6);
      mark3_fits = ltb→lt r.mark3.last (2 ^ r.bits) (and_l (ltb r.mark3.last (2 ^ r.bits)) _ t7);
      apart12 = apart→ r.mark1 r.mark2 (and_l (apart r.mark1 r.mark2) _ t8);
      apart13 = apart→ r.mark1 r.mark3 (and_l (apart r.mark1 r.mark3) _ t9);
      apart23 = apart→ r.mark2 r.mark3 (and_l (apart r.mark2 r.mark3) _ t10);
      mark1_kind = kinded→ r.mark1 (and_l (kinded r.mark1) _ t11);
      mark2_kind = kinded→ r.mark2 (and_l (kinded r.mark2) _ t12);
      mark3_kind = kinded→ r.mark3 (and_l (kinded r.mark3) _ t13);
      small = leb→le (2 ^ r.bits * r.resolution + nat_abs r.offset) exact_doubles t14;
    }

-- ---- over the table: each row is right, and has a number above m, and so on from its own number

abbrev kept : ℕ → List Row → Bool
kept m [] = true
kept m (r ∷ rs) = (ltb m r.number && right r) && kept r.number rs

every : (m : ℕ) (rs : List Row) → T (kept m rs) → (i : ℕ) → i < length rs → Rule (get_or rs i blank)
every m [] t i h = absurd (not-suc-le-zero h)
every m (r ∷ rs) t zero h = right→ r (and_r (ltb m r.number) (right r) (and_l (ltb m r.number && right r) (kept r.number rs) t))
every m (r ∷ rs) t (suc i) h = every r.number rs (and_r (ltb m r.number && right r) (kept r.number rs) t) i (le_of_suc-le-suc h)

first : (m : ℕ) (r : Row) (rs : List Row) → T (kept m (r ∷ rs)) → m < r.number
first m r rs t = ltb→lt m r.number (and_l (ltb m r.number) (right r) (and_l (ltb m r.number && right r) (kept r.number rs) t))

above : (m : ℕ) (rs : List Row) → T (kept m rs) → (i : ℕ) → i < length rs → m < (get_or rs i blank).number
above m [] t i h = absurd (not-suc-le-zero h)
above m (r ∷ rs) t zero h = first m r rs t
above m (r ∷ rs) t (suc i) h =
    lt_trans (first m r rs t) (above r.number rs (and_r (ltb m r.number && right r) (kept r.number rs) t) i (le_of_suc-le-suc h))

rise : (m : ℕ) (rs : List Row) → T (kept m rs) → (i j : ℕ) → i < j → j < length rs → (get_or rs i blank).number < (get_or rs j blank).number
rise m [] t i j p h = absurd (not-suc-le-zero h)
rise m (r ∷ rs) t i zero p h = absurd (not-suc-le-zero p)
rise m (r ∷ rs) t zero (suc j) p h = above r.number rs (and_r (ltb m r.number && right r) (kept r.number rs) t) j (le_of_suc-le-suc h)
rise m (r ∷ rs) t (suc i) (suc j) p h = rise r.number rs (and_r (ltb m r.number && right r) (kept r.number rs) t) i j (le_of_suc-le-suc p) (le_of_suc-le-suc h)

-- a table that passes the test keeps the rule
pub at : (rs : List Row) → T (kept 0 rs) → Kept rs
at rs t = record { rule = every 0 rs t; rising = rise 0 rs t }
