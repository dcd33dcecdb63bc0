-- Values as bytes.
use Rattle.std.proofs.Common.{◌≡◌, ◌/◌, ◌%◌, ◌^◌, ℕ, zero, suc, length, refl, sym, ap, ◌∙◌}
use Rattle.std.proofs.Math.Nat.{div-div-eq-div-mul, div-one, pow-suc}
use Rattle.std.specs.Int.{byte_at, bytes_low_first}
use Rattle.hp_model.specs.Memory.{bytes_of}

pub length-bytes_of : (n value : ℕ) → length (bytes_of n value) ≡ n
unfolding bytes_of
length-bytes_of zero value = refl
length-bytes_of (suc n) value = ap suc (length-bytes_of n (value / 256))

-- a byte by its place, and what is left above it
pub byte_at-pow : (k x : ℕ) → byte_at k x ≡ x / 256 ^ k % 256
byte_at-pow zero x = ap (λ (y : ℕ). y % 256) (sym (div-one x))
byte_at-pow (suc k) x = refl

above : (i x : ℕ) → x / 256 ^ suc i ≡ x / 256 ^ i / 256
above i x = ap (λ (p : ℕ). x / p) (pow-suc 256 i) ∙ sym (div-div-eq-div-mul x (256 ^ i) 256)

-- std's bytes of a number, the lowest first, are these
bytes_from : (i n x : ℕ) → bytes_low_first i n x ≡ bytes_of n (x / 256 ^ i)
unfolding bytes_of
bytes_from i zero x = refl
bytes_from i (suc n) x = rw (byte_at-pow i x, bytes_from (suc i) n x, above i x) refl

pub low_first : (n x : ℕ) → bytes_low_first 0 n x ≡ bytes_of n x
low_first n x = bytes_from 0 n x ∙ ap (bytes_of n) (div-one x)
