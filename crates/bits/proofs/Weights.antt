-- The frame and its word: each frame bit is a bit of the word, the count by weights is a field of it, and bytes and word
-- are each other's. Assumes nothing.
use mathlib.Core.Path.{◌≡◌, refl, sym, ap, ◌∙◌, subst}
use mathlib.Core.List.{List, [], ◌∷◌, ◌++◌, append-nil}
use Prim.Native.Nat.{ℕ, zero, suc, ◌+◌, ◌-◌, ◌*◌, ◌/◌, ◌%◌, ◌^◌, ◌≤◌, ◌<◌}
use native.Mathlib.Nat.{add_comm, add-zero, zero-add, not-suc-le-zero, le_of_suc-le-suc, mod-lt, pow-succ'}
use native.Mathlib.Omega.{arith}
use lib.Dec.{lit<}
use lib.Pow.{shr-shr, mod-pow-add, field, mod-mod-pow}
use lib.Arith.{digits_lt}
use lib.ListN.{get_or, length, drop}
use lib.Seq.{sets, sets-eq, drop-length}
use Rattle.bits.specs.Frame.{frame_bit, count_at, Bytes}
use Rattle.bits.specs.Word.{word_from, word_of, bytes_from, bytes_of, field_of}

-- ---- the word's bits are the frame's

-- a bit of the lowest byte
low_bit : (x W r : ℕ) → x < 256 → r < 8 → (x + 256 * W) / 2 ^ r % 2 ≡ x / 2 ^ r % 2
low_bit x W r hx hr =
    let n = x + 256 * W in
    let d = 8 - (1 + r) in
    let e8 : 8 ≡ d + (1 + r) = omega arith in
    let nx : n % 2 ^ 8 ≡ x = omega arith in
    let cut : (m : ℕ) → m % 2 ^ 8 % 2 ^ (1 + r) ≡ m % 2 ^ (1 + r) = λ m. ap (λ (k : ℕ). m % 2 ^ k % 2 ^ (1 + r)) e8 ∙ mod-mod-pow m d (1 + r) in
    sym (field n 1 r) ∙ ap (λ (m : ℕ). m / 2 ^ r) (sym (cut n) ∙ ap (λ (m : ℕ). m % 2 ^ (1 + r)) nx) ∙ field x 1 r

high_part : (x W : ℕ) → x < 256 → (x + 256 * W) / 2 ^ 8 ≡ W
high_part x W h = omega arith

word_bit : (f : List ℕ) → ((k : ℕ) → get_or f k 0 < 256) → (n i q r : ℕ) → q < n → r < 8
    → word_from f i n / 2 ^ (q * 8 + r) % 2 ≡ get_or f (i + q) 0 / 2 ^ r % 2
unfolding word_from
word_bit f by zero i q r hq hr = absurd (not-suc-le-zero hq)
word_bit f by (suc n) i zero r hq hr =
    rw (zero-add, add-zero) (low_bit (get_or f i 0) (word_from f (suc i) n) r (by i) hr)
word_bit f by (suc n) i (suc q) r hq hr =
    let e : suc q * 8 + r ≡ 8 + (q * 8 + r) = omega arith in
    let e' : suc i + q ≡ i + suc q = omega arith in
    let W = word_from f (suc i) n in
    ap (λ (k : ℕ). (get_or f i 0 + 256 * W) / 2 ^ k % 2) e
    ∙ ap (λ (m : ℕ). m % 2) (sym (shr-shr (get_or f i 0 + 256 * W) 8 (q * 8 + r)) ∙ ap (λ (m : ℕ). m / 2 ^ (q * 8 + r)) (high_part (get_or f i 0) W (by i)))
    ∙ word_bit f by n (suc i) q r (le_of_suc-le-suc hq) hr
    ∙ ap (λ (k : ℕ). get_or f k 0 / 2 ^ r % 2) e'

-- frame bit k is bit k of the word
pub frame_bit_law : (f : List ℕ) → ((k : ℕ) → get_or f k 0 < 256) → (k : ℕ) → k < 64 → word_of f / 2 ^ k % 2 ≡ frame_bit f k
unfolding word_of
frame_bit_law f by k h =
    let e : k ≡ k / 8 * 8 + k % 8 = omega arith in
    ap (λ (j : ℕ). word_from f 0 8 / 2 ^ j % 2) e ∙ word_bit f by 8 0 (k / 8) (k % 8) (omega arith) (omega arith)
    ∙ ap (λ (j : ℕ). get_or f j 0 / 2 ^ (k % 8) % 2) (zero-add (k / 8))

-- the count by weights is a field of the word
pub weights : (f : List ℕ) → ((k : ℕ) → get_or f k 0 < 256) → (s b : ℕ) → s + b ≤ 64 → count_at f s b ≡ field_of (word_of f) s b
unfolding count_at field_of
weights f by s zero h = omega arith
weights f by s (suc b) h =
    let n = word_of f / 2 ^ s in
    let bit : frame_bit f (s + b) ≡ n / 2 ^ b % 2 = sym (frame_bit_law f by (s + b) (omega arith)) ∙ ap (λ (m : ℕ). m % 2) (sym (shr-shr (word_of f) s b)) in
    let e : 1 + b ≡ suc b = omega arith in
    ap (λ (m : ℕ). m + frame_bit f (s + b) * 2 ^ b) (weights f by s b (omega arith))
    ∙ ap (λ (m : ℕ). n % 2 ^ b + m * 2 ^ b) bit
    ∙ add_comm (n % 2 ^ b) (n / 2 ^ b % 2 * 2 ^ b)
    ∙ sym (mod-pow-add n 1 b)
    ∙ ap (λ (m : ℕ). n % 2 ^ m) e

-- ---- the bytes of a number are it again

later : (x : ℕ) (xs : List ℕ) (n i : ℕ) → word_from (x ∷ xs) (suc i) n ≡ word_from xs i n
unfolding word_from
later x xs zero i = refl
later x xs (suc n) i = ap (λ (m : ℕ). get_or xs i 0 + 256 * m) (later x xs n (suc i))

bytes_word : (n w : ℕ) → w < 256 ^ n → word_from (bytes_from n w) 0 n ≡ w
unfolding word_from bytes_from
bytes_word zero w h = omega arith
bytes_word (suc n) w h =
    let h' : w < 256 * 256 ^ n = subst (λ (m : ℕ). w < m) (pow-succ' 256 n) h in
    let rest : word_from (w % 256 ∷ bytes_from n (w / 256)) 1 n ≡ w / 256 = later (w % 256) (bytes_from n (w / 256)) n 0 ∙ bytes_word n (w / 256) (omega arith) in
    omega arith

-- ---- one bit more
bit_lt : (f : List ℕ) (k : ℕ) → frame_bit f k < 2
bit_lt f k = mod-lt (get_or f (k / 8) 0 / 2 ^ (k % 8)) (lit< tt)

pub raw_lt : (f : List ℕ) (s b : ℕ) → count_at f s b < 2 ^ b
unfolding count_at
raw_lt f s zero = lit< tt
raw_lt f s (suc b) =
    let h : frame_bit f (s + b) * 2 ^ b + count_at f s b < 2 * 2 ^ b = digits_lt (bit_lt f (s + b)) (raw_lt f s b) in
    rw (pow-succ' 2 b) (omega arith)

-- ---- what is read of the bytes of a number is a field of it
bytes_small : (n w k : ℕ) → get_or (bytes_from n w) k 0 < 256
unfolding bytes_from
bytes_small zero w k = lit< tt
bytes_small (suc n) w zero = mod-lt w (lit< tt)
bytes_small (suc n) w (suc k) = bytes_small n (w / 256) k

pub read_bytes : (w s b : ℕ) → w < 2 ^ 64 → s + b ≤ 64 → count_at (bytes_of w) s b ≡ field_of w s b
unfolding word_of
read_bytes w s b hw h = weights (bytes_of w) (bytes_small 8 w) s b h ∙ ap (λ (x : ℕ). field_of x s b) (bytes_word 8 w hw)

-- stores from the front that replace all of a list
pub sets_all : (vs l : List ℕ) → length vs ≡ length l → sets l 0 vs ≡ vs
sets_all vs l e =
    sets-eq vs l 0 (omega arith)
    ∙ ap (λ (n : ℕ). vs ++ drop n l) (zero-add (length vs) ∙ e)
    ∙ ap (λ (r : List ℕ). vs ++ r) (drop-length l)
    ∙ append-nil vs

-- the bytes of the word are the frame again
back : (n : ℕ) (frame : List ℕ) → Bytes n frame → bytes_from n (word_from frame 0 n) ≡ frame
unfolding bytes_from word_from
back zero [] b = refl
back zero (x ∷ frame) b = absurd (omega (arith, b.many))
back (suc n) [] b = absurd (omega (arith, b.many))
back (suc n) (x ∷ frame) b =
    let W = word_from frame 0 n in
    let h : x < 256 = b.small 0 in
    let rest : Bytes n frame = record { many = omega (arith, b.many); small = λ k. b.small (suc k) } in
    let e : word_from (x ∷ frame) 1 n ≡ W = later x frame n 0 in
    let m : (x + 256 * W) % 256 ≡ x = omega arith in
    let d : (x + 256 * W) / 256 ≡ W = omega arith in
    ap (λ (w : ℕ). (x + 256 * w) % 256 ∷ bytes_from n ((x + 256 * w) / 256)) e
    ∙ ap (λ (y : ℕ). y ∷ bytes_from n ((x + 256 * W) / 256)) m
    ∙ ap (λ (w : ℕ). x ∷ bytes_from n w) d
    ∙ ap (λ (r : List ℕ). x ∷ r) (back n frame rest)

pub word_bytes : (frame : List ℕ) → Bytes 8 frame → bytes_of (word_of frame) ≡ frame
unfolding word_of
word_bytes frame b = back 8 frame b

pub of_bytes : (w : ℕ) → Bytes 8 (bytes_of w)
unfolding bytes_from
of_bytes w = record { many = refl; small = bytes_small 8 w }

-- bit j of a count is frame bit s + j
pub count_bit : (f : List ℕ) → ((k : ℕ) → get_or f k 0 < 256) → (s b j : ℕ) → s + b ≤ 64 → j < b → count_at f s b / 2 ^ j % 2 ≡ frame_bit f (s + j)
unfolding field_of
count_bit f small s b j h hj =
    let W = word_of f in
    let d = b - (1 + j) in
    let e : b ≡ d + (1 + j) = omega arith in
    ap (λ (m : ℕ). m / 2 ^ j % 2) (weights f small s b h)
    ∙ sym (field (W / 2 ^ s % 2 ^ b) 1 j)
    ∙ ap (λ (m : ℕ). m / 2 ^ j) (ap (λ (k : ℕ). W / 2 ^ s % 2 ^ k % 2 ^ (1 + j)) e ∙ mod-mod-pow (W / 2 ^ s) d (1 + j))
    ∙ field (W / 2 ^ s) 1 j
    ∙ ap (λ (m : ℕ). m % 2) (shr-shr W s j)
    ∙ frame_bit_law f small (s + j) (omega arith)

-- a frame bit of the bytes of a number is that bit of it
pub bytes_bit : (w k : ℕ) → w < 2 ^ 64 → k < 64 → frame_bit (bytes_of w) k ≡ field_of w k 1
unfolding word_of field_of
bytes_bit w k hw h = sym (frame_bit_law (bytes_of w) (bytes_small 8 w) k h) ∙ ap (λ (x : ℕ). x / 2 ^ k % 2) (bytes_word 8 w hw)
