-- Doubling in a table without closed chains: somewhere two routes leave one place and lead on to one place. Assumes nothing.
use mathlib.Core.Path.{◌≡◌, refl, sym, ap, ◌∙◌, subst}
use mathlib.Core.Logic.{◌⊎◌, inl, inr}
use Prim.Native.Nat.{ℕ, ◌<◌}
use native.Mathlib.Decide.{ℕ_discrete}
use mathlib.Core.List.{List, [], ◌∷◌, ◌++◌, append_cancel_left, head-eq_of_cons-eq, tail-eq_of_cons-eq}
use lib.ListN.{length, get_or}
use Rattle.chains.specs.Chain.{Walk, LeadsOn, LoopFree, BeginsDoubling}
use Rattle.chains.proofs.Walks.{walk_append, chain_walk}

module _ (fs ts : List ℕ) where
  -- a chain that begins with route i has route j in it, or leads to where j starts
  abbrev pub ComesTo : ℕ → ℕ → Type 0
  ComesTo i j = (i ≡ j) ⊎ LeadsOn fs ts i (get_or fs j 0)

  -- two routes from one place that lead on to one place
  pub record Fork (a b : ℕ) : Type 0 where
    pub first : a < length fs
    pub second : b < length fs
    pub apart : a ≡ b → ⊥
    pub same : get_or fs a 0 ≡ get_or fs b 0
    pub place : ℕ
    pub along_first : LeadsOn fs ts a place
    pub along_second : LeadsOn fs ts b place

  abbrev pub LeadsToFork : ℕ → Type 0
  LeadsToFork i = (a b : ℕ) × ComesTo i a × Fork a b

  -- one route more in front
  before : (i x u : ℕ) → x < length fs → get_or fs x 0 ≡ get_or ts i 0 → ComesTo x u → ComesTo i u
  before i x u l f (inl e) = inr ([], sym f ∙ ap (λ (y : ℕ). get_or fs y 0) e)
  before i x u l f (inr (d, v)) = inr (x ∷ d, (l, f, v))

  -- the two chains part at their first routes, or begin with the same one
  part : (i : ℕ) (c : List ℕ) (j : ℕ) (d : List ℕ) (p q : ℕ) → Walk fs ts p (i ∷ c) q → Walk fs ts p (j ∷ d) q → (i ≡ j → LeadsToFork i) → LeadsToFork i
  part i c j d p q (li, fi, wi) (lj, fj, wj) same = go (ℕ_discrete i j)
    where
      go : Dec (i ≡ j) → LeadsToFork i
      go (yes e) = same e
      go (no n) = (i, j, inl refl, record { first = li; second = lj; apart = n; same = fi ∙ sym fj; place = q; along_first = (c, wi); along_second = (d, wj) })

  module _ (free : LoopFree fs ts) where
    forks : (i : ℕ) (c : List ℕ) (j : ℕ) (d : List ℕ) (p q : ℕ) → Walk fs ts p (i ∷ c) q → Walk fs ts p (j ∷ d) q → (i ∷ c ≡ j ∷ d → ⊥) → LeadsToFork i
    forks i [] j [] p q wi wj ne = part i [] j [] p q wi wj (λ e. absurd (ne (cc)))
    forks i [] j (y ∷ d) p q wi wj ne =
        part i [] j (y ∷ d) p q wi wj (λ e. absurd (free q (y ∷ d) (subst (λ (x : ℕ). Walk fs ts x (y ∷ d) q) (ap (λ (z : ℕ). get_or ts z 0) (sym e) ∙ wi.2) wj.2)))
    forks i (x ∷ c) j [] p q wi wj ne =
        part i (x ∷ c) j [] p q wi wj (λ e. absurd (free q (x ∷ c) (subst (λ (z : ℕ). Walk fs ts z (x ∷ c) q) (ap (λ (z : ℕ). get_or ts z 0) e ∙ wj.2) wi.2)))
    forks i (x ∷ c) j (y ∷ d) p q wi wj ne =
        part i (x ∷ c) j (y ∷ d) p q wi wj
        (λ e. let r = forks x c y d (get_or ts i 0) q wi.2 (subst (λ (z : ℕ). Walk fs ts (get_or ts z 0) (y ∷ d) q) (sym e) wj.2) (λ h. ne (cc)) in
        (r.0, r.1, before i x r.0 wi.2.0 wi.2.1 r.2, r.3))

    pub begins_fork : (i : ℕ) → BeginsDoubling fs ts i → LeadsToFork i
    begins_fork i (p, q, c, d, two) =
        let r = chain_walk fs ts p d q two.other in
        forks i c r.0 r.1 p q two.one r.3 (λ e. two.different (e ∙ sym r.2))

  pub fork_begins : (i : ℕ) → i < length fs → LeadsToFork i → BeginsDoubling fs ts i
  fork_begins i l (a, b, s, k) = go s k.along_first k.along_second
    where
      go : ComesTo i a → LeadsOn fs ts a k.place → LeadsOn fs ts b k.place → BeginsDoubling fs ts i
      go (inl e) (c, w) (d, v) = (
        get_or fs i 0,
        k.place,
        c,
        b ∷ d,
        record {
          one = (l, refl, subst (λ (z : ℕ). Walk fs ts (get_or ts z 0) c k.place) (sym e) w);
          other = (k.second, sym k.same ∙ ap (λ (z : ℕ). get_or fs z 0) (sym e), v);
          different = λ h. k.apart (sym e ∙ head-eq_of_cons-eq h);
        },
      )
      go (inr (m, u)) (c, w) (d, v) = (
        get_or fs i 0,
        k.place,
        m ++ (a ∷ c),
        i ∷ (m ++ (b ∷ d)),
        record {
          one = (l, refl, walk_append fs ts _ m _ _ (a ∷ c) u (k.first, refl, w));
          other = (l, refl, walk_append fs ts _ m _ _ (b ∷ d) u (k.second, sym k.same, v));
          different = λ h. k.apart (head-eq_of_cons-eq (append_cancel_left m _ _ (tail-eq_of_cons-eq h)));
        },
      )
