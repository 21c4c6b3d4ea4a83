-- The checksum looks at the 60 bits below 503's place alone, so that putting it there does not change it.
-- Assumes nothing.
use mathlib.Core.Path.{◌≡◌, sym, ap, ◌∙◌}
use mathlib.Core.Logic.{inr}
use mathlib.Core.List.{List}
use Prim.Native.Nat.{ℕ, zero, suc, ◌+◌, ◌*◌, ◌/◌, ◌%◌, ◌^◌, ◌≤◌, ◌<◌}
use native.Mathlib.Nat.{not-suc-le-zero, le_of_suc-le-suc, div-one}
use native.Mathlib.Omega.{arith}
use lib.Dec.{lit<, lit≤}
use lib.Pow.{shr-shr, mod-mod-pow}
use lib.ListN.{get_or}
use Rattle.bits.specs.Word.{bytes_from, bytes_of, field_of, placed}
use Rattle.bits.specs.Checksum.{checksum_of, identifier_added_spec, folded}
use Rattle.bits.proofs.Placing.{beside}

-- byte i of a number
byte_field : (n w i : ℕ) → i < n → get_or (bytes_from n w) i 0 ≡ field_of w (i * 8) 8
unfolding bytes_from field_of
byte_field zero w i h = absurd (not-suc-le-zero h)
byte_field (suc n) w zero h = ap (λ (m : ℕ). m % 256) (sym (div-one w))
byte_field (suc n) w (suc i) h =
    let e : 8 + i * 8 ≡ suc i * 8 = omega arith in
    byte_field n (w / 256) i (le_of_suc-le-suc h)
    ∙ ap (λ (m : ℕ). m % 2 ^ 8) (shr-shr w 8 (i * 8) ∙ ap (λ (k : ℕ). w / 2 ^ k) e)

low_four : (w : ℕ) → get_or (bytes_of w) 7 0 % 16 ≡ field_of w 56 4
unfolding field_of
low_four w = ap (λ (m : ℕ). m % 16) (byte_field 8 w 7 (lit< tt)) ∙ mod-mod-pow (w / 2 ^ 56) 4 4

-- frames that have the same bytes 0 to 6 and the same low four bits of byte 7
same_checksum : (f g : List ℕ) → ((i : ℕ) → i < 7 → get_or f i 0 ≡ get_or g i 0) → get_or f 7 0 % 16 ≡ get_or g 7 0 % 16 → (identifier : ℕ) → checksum_of identifier f ≡ checksum_of identifier g
same_checksum f g byte counter identifier =
    ap (λ (s : ℕ). folded (s + identifier_added_spec identifier))
    (cc (byte 0 (lit< tt), byte 1 (lit< tt), byte 2 (lit< tt), byte 3 (lit< tt), byte 4 (lit< tt), byte 5 (lit< tt), byte 6 (lit< tt), counter))

-- what stands at 503's place does not count
pub checksum_kept : (identifier w v : ℕ) → v < 2 ^ 4 → checksum_of identifier (bytes_of (placed w 60 4 v)) ≡ checksum_of identifier (bytes_of w)
checksum_kept identifier w v h =
    let with = placed w 60 4 v in
    let stays : (t c : ℕ) → t + c ≤ 60 → field_of with t c ≡ field_of w t c = λ t c k. beside w 60 4 v h t c (inr k) in
    same_checksum (bytes_of with) (bytes_of w)
    (λ i k. byte_field 8 with i (omega arith) ∙ stays (i * 8) 8 (omega arith) ∙ sym (byte_field 8 w i (omega arith)))
    (low_four with ∙ stays 56 4 (lit≤ tt) ∙ sym (low_four w)) identifier
