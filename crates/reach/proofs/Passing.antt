-- The turns of a pass. Assumes nothing.
use mathlib.Core.Path.{◌≡◌, refl, sym, ap, ◌∙◌, subst}
use mathlib.Core.Logic.{◌⊎◌, inl, inr, ⊎_elim}
use mathlib.Core.Bool.{Bool, true, false, cond, true≢false}
use Prim.Native.Nat.{ℕ, ◌+◌, ◌-◌, ◌*◌, ◌^◌, ◌<◌, ◌≤◌}
use native.Mathlib.Omega.{arith}
use native.Mathlib.Nat.{eq-or-lt_of_le}
use mathlib.Core.List.{List}
use lib.ListN.{length, get_or}
use Rattle.masks.specs.Bit.{width}
use Rattle.chains.specs.Chain.{Chain}
use Rattle.chains.proofs.Walks.{chain_walk, walk_last}
use Rattle.reach.specs.Led.{Numbers, turn}
use Rattle.reach.specs.Handing.{total, Real, HandedOn, Handing, Settled}
use Rattle.reach.proofs.Growing.{total_most, bits_below}

-- the route has had its turn among the first t
abbrev pub Turned : ℕ → Bool → ℕ → ℕ → Type 0
Turned n down t j = (u : ℕ) × (u < t) × (j ≡ turn n down u)

pub turned_none : (n : ℕ) (down : Bool) (j : ℕ) → Turned n down 0 j → ⊥
turned_none n down j (u, l, e) = absurd (omega arith)

pub turned_more : (n : ℕ) (down : Bool) (t i : ℕ) → i ≡ turn n down t → (j : ℕ) → Turned n down (t + 1) j → Turned n down t j ⊎ (j ≡ i)
turned_more n down t i e j (u, l, f) =
    ⊎_elim (λ q. inr (f ∙ ap (λ (x : ℕ). turn n down x) q ∙ sym e)) (λ h. inl (u, h, f)) (eq-or-lt_of_le (omega arith))

pub turned_all : (n : ℕ) (down : Bool) (t : ℕ) → n ≤ t → (j : ℕ) → j < n → Turned n down t j
turned_all n true t h j l = (n - 1 - j, omega arith, omega arith)
turned_all n false t h j l = (j, omega arith, refl)

pub handing_for : (starts ends : List ℕ) (Some : ℕ → Type 0) (old now : List ℕ) (new : Bool) (Few : ℕ → Type 0) → Handing starts ends Some old now new
    → ((j : ℕ) → Few j → Some j) → Handing starts ends Few old now new
handing_for starts ends Some old now new Few h f = record {
  long = h.long;
  real = h.real;
  grown = h.grown;
  settled = λ e. ((h.settled e).0, λ j k. (h.settled e).1 j (f j k));
}

-- the masks are real, and where nothing was new all routes have handed on
pub record Settling (starts ends m : List ℕ) (new : Bool) : Type 0 where
  pub long : length m ≡ 2 * width
  pub real : Real starts ends m
  pub settled : new ≡ false → (j : ℕ) → j < length starts → HandedOn starts ends m j

-- how far the masks can still grow
abbrev pub left : List ℕ → Bool → ℕ
left m new = 2 * width * 2 ^ width - total m + cond new 1 0

module _ (starts ends : List ℕ) where
  pub settling_start : (m : List ℕ) → length m ≡ 2 * width → Real starts ends m → Settling starts ends m true
  settling_start m l r = record { long = l; real = r; settled = λ h. absurd (true≢false h) }

  pub settling_end : (m : List ℕ) (new : Bool) → Settling starts ends m new → new ≡ false → Settled starts ends m
  settling_end m new inv h = record { real = inv.real; handed = inv.settled h }

  -- chains lead to numbers that a mask can have
  real_low : Numbers starts ends → (m : List ℕ) → Real starts ends m → (x : ℕ) → get_or m x 0 < 2 ^ width
  unfolding Real
  real_low ns m r x = bits_below width (get_or m x 0) (λ y e. low y (r x y e))
    where
      low : (y : ℕ) → (c : List ℕ) × Chain starts ends x c y → y < width
      low y (c, w) =
          let first = chain_walk starts ends x c y w in
          let last = walk_last starts ends x first.0 first.1 y first.3 in
          omega (arith, last.2, ns.to.low last.0 (omega (arith, last.1, ns.same)))

  module _ (m now : List ℕ) (old new : Bool) (inv : Settling starts ends m old) (p : Handing starts ends (λ i. i < length starts) m now new) where
    pub settling_more : Settling starts ends now new
    settling_more = record {
      long = p.long ∙ inv.long;
      real = p.real inv.real;
      settled = λ h j l. subst (λ (x : List ℕ). HandedOn starts ends x j) (sym (p.settled h).0) ((p.settled h).1 j l);
    }

    pub settling_less : old ≡ true → Numbers starts ends → left now new < left m old
    settling_less was ns = rw was (go new refl (total_most now (2 ^ width) (λ x. omega (arith, real_low ns now (p.real inv.real) x))) (p.long ∙ inv.long))
      where
        go : (b : Bool) → new ≡ b → total now ≤ length now * 2 ^ width → length now ≡ 2 * width → left now b < left m true
        go true e most l = let h = subst (λ (k : ℕ). total now ≤ k * 2 ^ width) l most in omega (arith, p.grown e, h)
        go false e most l = omega (arith, ap total (p.settled e).0)
