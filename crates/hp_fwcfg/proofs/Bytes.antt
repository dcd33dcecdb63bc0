-- The numbers of hp_model are those that byteorder and std read and write.
use Rattle.std.proofs.Common.{◌≡◌, ℕ, zero, suc, ◌/◌, ◌%◌, ◌^◌, ◌<◌, List, [], ◌∷◌, length, refl, sym, ap, ◌∙◌, arith}
use Rattle.std.proofs.Math.Nat.{div-div-eq-div-mul}
use Rattle.std.specs.Int.{bytes_low_first, swap_bytes, w32}
use Rattle.byteorder.specs.Endian as kit
use Rattle.byteorder.specs.Numbers.{big_from-cons, little_from-cons}
use Rattle.hp_model.proofs.Bytes.{byte_at-pow, low_first}
use Rattle.hp_model.specs.FwCfg.{big_bytes, big_value, little_value, swapped_bytes}
use Rattle.hp_model.specs.Memory.{bytes_of}

-- the bytes that are written
pub big_bytes_are : (n x : ℕ) → big_bytes n x ≡ kit.big_bytes n x
unfolding big_bytes
big_bytes_are zero x = refl
big_bytes_are (suc n) x = rw (byte_at-pow n x, big_bytes_are n x) refl

pub little_bytes_are : (n x : ℕ) → bytes_of n x ≡ bytes_low_first 0 n x
little_bytes_are n x = sym (low_first n x)

-- the numbers that are read
pub big_value_from : (xs : List ℕ) → big_value xs ≡ kit.big_from 0 (length xs) xs
unfolding big_value
big_value_from [] = refl
big_value_from (x ∷ xs) = rw (big_from-cons 0 (length xs) x xs, big_value_from xs) refl

little_value_from : (xs : List ℕ) → little_value xs ≡ kit.little_from 0 (length xs) xs
unfolding little_value
little_value_from [] = refl
little_value_from (x ∷ xs) = rw (little_from-cons 0 (length xs) x xs, little_value_from xs) refl

pub little_value_8 : (xs : List ℕ) → length xs ≡ 8 → little_value xs ≡ kit.little_number 8 xs
little_value_8 xs h = little_value_from xs ∙ ap (λ (n : ℕ). kit.little_from 0 n xs) h

-- a value whose bytes are turned round
pub swapped : (x : ℕ) → swapped_bytes x ≡ swap_bytes w32 x
unfolding big_value bytes_of
swapped x = rw (div-div-eq-div-mul x 256 256, div-div-eq-div-mul x 65536 256) (omega arith)

pub swapped_twice : (x : ℕ) → x < 2 ^ 32 → swapped_bytes (swapped_bytes x) ≡ x
unfolding big_value bytes_of
swapped_twice x h = omega arith
