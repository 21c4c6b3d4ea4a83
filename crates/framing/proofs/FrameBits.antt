-- The frame of some frame bits: it depends on them alone, its checksum on those below 503's place, and every frame of 8 bytes is that
-- of its own. Assumes nothing.
use mathlib.Core.Path.{◌≡◌, refl, sym, ap, ◌∙◌, subst}
use mathlib.Core.List.{List}
use Prim.Native.Nat.{ℕ, zero, suc, ◌+◌, ◌*◌, ◌/◌, ◌%◌, ◌^◌, ◌≤◌, ◌<◌}
use native.Mathlib.Nat.{add_comm, mod-eq_of_lt}
use native.Mathlib.Omega.{arith}
use lib.Dec.{lit<, lit≤}
use lib.Pow.{mod-pow-add}
use lib.ListN.{get_or}
use Rattle.bits.specs.Frame.{frame_bytes, frame_bit, Bytes}
use Rattle.bits.specs.Word.{bytes_from, bytes_of, word_of}
use Rattle.bits.specs.Checksum.{checksum_of, identifier_added_spec, folded}
use Rattle.bits.proofs.Weights.{of_bytes, word_bytes}
use Rattle.books.specs.Lines.{frame_bits}
use Rattle.framing.specs.Messages.{checksum_start}
use Rattle.framing.specs.Packing.{weighed, byte_of, frame_of}

-- ---- frames whose bits are the same

weighed_same : (a b : ℕ → ℕ) (n : ℕ) → ((j : ℕ) → j < n → a j ≡ b j) → weighed a n ≡ weighed b n
unfolding weighed
weighed_same a b zero h = refl
weighed_same a b (suc n) h = ap (λ (x : ℕ). x + a n * 2 ^ n) (weighed_same a b n (λ j k. h j (omega arith))) ∙ ap (λ (x : ℕ). weighed b n + x * 2 ^ n) (h n (omega arith))

-- the low four of eight bits
low_four : (bit : ℕ → ℕ) → weighed bit 8 % 16 ≡ weighed bit 4 % 16
unfolding weighed
low_four bit = omega arith

-- frames whose bits are the same below bit n
module _ (a b : ℕ → ℕ) (n : ℕ) (same : (k : ℕ) → k < n → a k ≡ b k) where
  byte_same : (i : ℕ) → 8 * i + 8 ≤ n → byte_of a i ≡ byte_of b i
  byte_same i h = weighed_same (λ j. a (8 * i + j)) (λ j. b (8 * i + j)) 8 (λ j k. same (8 * i + j) (omega arith))

  pub frame_same : frame_bits ≤ n → frame_of a ≡ frame_of b
  frame_same h =
      let e : (i : ℕ) → i < frame_bytes → byte_of a i ≡ byte_of b i = λ i k. byte_same i (omega arith) in
      cc (e 0 (lit< tt), e 1 (lit< tt), e 2 (lit< tt), e 3 (lit< tt), e 4 (lit< tt), e 5 (lit< tt), e 6 (lit< tt), e 7 (lit< tt))

  low_same : checksum_start ≤ n → byte_of a 7 % 16 ≡ byte_of b 7 % 16
  low_same h =
      let A : ℕ → ℕ = λ j. a (8 * 7 + j) in
      let B : ℕ → ℕ = λ j. b (8 * 7 + j) in
      low_four A ∙ ap (λ (x : ℕ). x % 16) (weighed_same A B 4 (λ j k. same (8 * 7 + j) (omega arith))) ∙ sym (low_four B)

  -- the checksum looks at no bit of 503's place
  pub sum_same : checksum_start ≤ n → (identifier : ℕ) → checksum_of identifier (frame_of a) ≡ checksum_of identifier (frame_of b)
  sum_same h identifier =
      let e : (i : ℕ) → i < 7 → byte_of a i ≡ byte_of b i = λ i k. byte_same i (omega arith) in
      ap (λ (s : ℕ). folded (s + identifier_added_spec identifier))
      (cc (e 0 (lit< tt), e 1 (lit< tt), e 2 (lit< tt), e 3 (lit< tt), e 4 (lit< tt), e 5 (lit< tt), e 6 (lit< tt), low_same h))

-- ---- a frame of bytes is the frame of its own bits

byte_bits : (f : List ℕ) (i n : ℕ) → n ≤ 8 → weighed (λ j. frame_bit f (8 * i + j)) n ≡ get_or f i 0 % 2 ^ n
unfolding weighed
byte_bits f i zero h = omega arith
byte_bits f i (suc n) h =
    let x = get_or f i 0 in
    let q : (8 * i + n) / 8 ≡ i = omega arith in
    let r : (8 * i + n) % 8 ≡ n = omega arith in
    let bit : frame_bit f (8 * i + n) ≡ x / 2 ^ n % 2 = ap (λ (k : ℕ). get_or f k 0 / 2 ^ ((8 * i + n) % 8) % 2) q ∙ ap (λ (k : ℕ). x / 2 ^ k % 2) r in
    let e : 1 + n ≡ suc n = omega arith in
    ap (λ (y : ℕ). y + frame_bit f (8 * i + n) * 2 ^ n) (byte_bits f i n (omega arith))
    ∙ ap (λ (y : ℕ). x % 2 ^ n + y * 2 ^ n) bit
    ∙ add_comm (x % 2 ^ n) (x / 2 ^ n % 2 * 2 ^ n)
    ∙ sym (mod-pow-add x 1 n)
    ∙ ap (λ (k : ℕ). x % 2 ^ k) e

bytes_bits : (w : ℕ) → frame_of (frame_bit (bytes_of w)) ≡ bytes_of w
unfolding bytes_from
bytes_bits w =
    let e : (i : ℕ) → byte_of (frame_bit (bytes_of w)) i ≡ get_or (bytes_of w) i 0 = λ i. byte_bits (bytes_of w) i 8 (lit≤ tt) ∙ mod-eq_of_lt ((of_bytes w).small i) in
    cc (e 0, e 1, e 2, e 3, e 4, e 5, e 6, e 7)

pub own_bits : (f : List ℕ) → Bytes frame_bytes f → frame_of (frame_bit f) ≡ f
own_bits f F = subst (λ (g : List ℕ). frame_of (frame_bit g) ≡ g) (word_bytes f F) (bytes_bits (word_of f))
