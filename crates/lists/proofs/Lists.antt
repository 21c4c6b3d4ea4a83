-- Laws of lists: entries and where they stand, lists without repeats, what passes a test, the numbers below one. Assumes nothing.
use mathlib.Core.Path.{◌≡◌, refl, sym, ap, ◌∙◌}
use mathlib.Core.Logic.{⊎_elim}
use mathlib.Core.Bool.{Bool, true, false, cond}
use Prim.Native.Nat.{ℕ, zero, suc, ◌≤◌, ◌<◌}
use native.Mathlib.Nat.{le_of_suc-le-suc}
use native.Mathlib.Omega.{arith}
use mathlib.Core.List.Memᴰ
use mathlib.Core.List.{List, [], ◌∷◌, ◌++◌, map, Memᴰ}
use lib.ListN.{length, get_or, length-map}
use Rattle.lists.specs.Lists.{Distinct, those, numbers_below}

-- ---- entries
pub mem_at : {A : Type 0} (l : List A) (d : A) (k : ℕ) → k < length l → Memᴰ (get_or l k d) l
mem_at [] d k h = absurd (omega arith)
mem_at (x ∷ l) d zero h = Memᴰ.head refl
mem_at (x ∷ l) d (suc k) h = Memᴰ.tail (mem_at l d k (le_of_suc-le-suc h))

pub no_entries : {A : Type 0} (l : List A) → ((x : A) → Memᴰ x l → ⊥) → l ≡ []
no_entries [] none = refl
no_entries (x ∷ l) none = absurd (none x (Memᴰ.head refl))

pub map_at : {A B : Type 0} (f : A → B) (l : List A) (d : A) (e : B) (k : ℕ) → k < length l → get_or (map f l) k e ≡ f (get_or l k d)
map_at f [] d e k h = absurd (omega arith)
map_at f (x ∷ l) d e zero h = refl
map_at f (x ∷ l) d e (suc k) h = map_at f l d e k (le_of_suc-le-suc h)

-- ---- lists without repeats
pub distinct_append : {A : Type 0} (a b : List A) → Distinct a → Distinct b → ((x : A) → Memᴰ x a → Memᴰ x b → ⊥) → Distinct (a ++ b)
distinct_append [] b da db apart = db
distinct_append (x ∷ a) b (nx, da) db apart =
    (λ m. ⊎_elim nx (apart x (Memᴰ.head refl)) (Memᴰ.append_cases a m), distinct_append a b da db (λ y m. apart y (Memᴰ.tail m)))

-- a map that keeps different entries different
pub distinct_map : {A B : Type 0} (f : A → B) (l : List A) → ((x y : A) → Memᴰ x l → Memᴰ y l → f x ≡ f y → x ≡ y) → Distinct l → Distinct (map f l)
distinct_map f [] one d = tt
distinct_map f (x ∷ l) one (nx, d) = (
  λ m. let r = Memᴰ.of_map f l m in nx (rw (one x r.0 (Memᴰ.head refl) (Memᴰ.tail r.1) (sym r.2)) r.1),
  distinct_map f l (λ y z m n. one y z (Memᴰ.tail m) (Memᴰ.tail n)) d,
)

-- ---- those that pass a test
pub those_append : {A : Type 0} (P : A → Bool) (a b : List A) → those P (a ++ b) ≡ those P a ++ those P b
those_append P [] b = refl
those_append P (x ∷ a) b = go (P x) (those_append P a b)
  where
    go : (t : Bool) → those P (a ++ b) ≡ those P a ++ those P b → cond t (x ∷ those P (a ++ b)) (those P (a ++ b)) ≡ cond t (x ∷ those P a) (those P a) ++ those P b
    go true e = rw e
    go false e = e

-- a test after a map
pub those_map : {A B : Type 0} (f : A → B) (P : B → Bool) (Q : A → Bool) (l : List A) → ((x : A) → P (f x) ≡ Q x) → those P (map f l) ≡ map f (those Q l)
those_map f P Q [] s = refl
those_map f P Q (x ∷ l) s = go (Q x) (s x) (those_map f P Q l s)
  where
    go : (t : Bool) → P (f x) ≡ t → those P (map f l) ≡ map f (those Q l) → cond (P (f x)) (f x ∷ those P (map f l)) (those P (map f l)) ≡ map f (cond t (x ∷ those Q l) (those Q l))
    go true e h = rw (e, h)
    go false e h = rw (e, h)

pub those_none : {A : Type 0} (P : A → Bool) (l : List A) → ((x : A) → P x ≡ false) → those P l ≡ []
those_none P [] n = refl
those_none P (x ∷ l) n = rw (n x) (those_none P l n)

-- two tests, in either order
pub those_swap : {A : Type 0} (P Q : A → Bool) (l : List A) → those P (those Q l) ≡ those Q (those P l)
those_swap P Q [] = refl
those_swap P Q (x ∷ l) = go (P x) refl (Q x) refl (those_swap P Q l)
  where
    go : (s : Bool) → P x ≡ s → (t : Bool) → Q x ≡ t → those P (those Q l) ≡ those Q (those P l) → those P (cond t (x ∷ those Q l) (those Q l)) ≡ those Q (cond s (x ∷ those P l) (those P l))
    go true e true f h = rw (e, f, h)
    go true e false f h = rw (f, h)
    go false e true f h = rw (e, h)
    go false e false f h = h

pub those_few : {A : Type 0} (P : A → Bool) (l : List A) → length (those P l) ≤ length l
those_few P [] = omega arith
those_few P (x ∷ l) = go (P x) (those_few P l)
  where
    go : (t : Bool) → length (those P l) ≤ length l → length (cond t (x ∷ those P l) (those P l)) ≤ length (x ∷ l)
    go true h = omega arith
    go false h = omega arith

pub those_mem : {A : Type 0} (P : A → Bool) (l : List A) (x : A) → Memᴰ x (those P l) → Memᴰ x l × (P x ≡ true)
those_mem P [] x m = absurd (Memᴰ.not-nil m)
those_mem P (y ∷ l) x m = go (P y) refl m (those_mem P l x)
  where
    go : (t : Bool) → P y ≡ t → Memᴰ x (cond t (y ∷ those P l) (those P l)) → (Memᴰ x (those P l) → Memᴰ x l × (P x ≡ true)) → Memᴰ x (y ∷ l) × (P x ≡ true)
    go true f m ih = ⊎_elim (λ (e : x ≡ y). (Memᴰ.head e, ap P e ∙ f)) (λ h. let r = ih h in (Memᴰ.tail r.0, r.1)) (Memᴰ.cases_cons m)
    go false f m ih = let r = ih m in (Memᴰ.tail r.0, r.1)

-- ---- the numbers below one
pub length_below : (n : ℕ) → length (numbers_below n) ≡ n
length_below zero = refl
length_below (suc n) = ap suc (length-map (numbers_below n) suc ∙ length_below n)

pub mem_below : (n x : ℕ) → x < n → Memᴰ x (numbers_below n)
mem_below zero x h = absurd (omega arith)
mem_below (suc n) zero h = Memᴰ.head refl
mem_below (suc n) (suc x) h = Memᴰ.tail (Memᴰ.map suc (mem_below n x (le_of_suc-le-suc h)))

pub below_mem : (n x : ℕ) → Memᴰ x (numbers_below n) → x < n
below_mem zero x m = absurd (Memᴰ.not-nil m)
below_mem (suc n) x m =
    ⊎_elim (λ (e : x ≡ 0). omega arith) (λ t. let r = Memᴰ.of_map suc (numbers_below n) t in let h = below_mem n r.0 r.1 in omega (arith, r.2)) (Memᴰ.cases_cons m)
