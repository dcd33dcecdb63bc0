-- The bits of the registers, value by value.
use Rattle.std.proofs.Common.{◌≡◌, ℕ, zero, suc, ◌==◌, ◌*◌, ◌<◌, ◌≤◌, cond, refl, arith}
use Rattle.std.specs.Prelude.{bit_and}
use Rattle.std.specs.Int.Bits.{mask_lt}
use Rattle.std.proofs.lemmas.Nat.{and_assoc}
use Rattle.std.proofs.lemmas.Bool.{agree_below_at}
use Rattle.std.proofs.lemmas.Bool.Decides.{nat_tests}
use Rattle.hp_model.specs.View.{tseg_size}
use Rattle.hp_smram.specs.Memory.{IsMemorySize}

-- the size of TSEG by the bits of register 9e
abbrev size_by_bits : ℕ → ℕ → ℕ
size_by_bits ext e =
    cond (bit_and e 1 == 1) (cond (bit_and e 4 == 4) (cond (bit_and e 2 == 2) ext 8) (cond (bit_and e 2 == 2) 2 1)) 0

pub tseg_bits : (ext e : ℕ) → e < 8 → tseg_size ext e ≡ size_by_bits ext e
tseg_bits ext zero h = refl
tseg_bits ext (suc zero) h = refl
tseg_bits ext (suc (suc zero)) h = refl
tseg_bits ext (suc (suc (suc zero))) h = refl
tseg_bits ext (suc (suc (suc (suc zero)))) h = refl
tseg_bits ext (suc (suc (suc (suc (suc zero))))) h = refl
tseg_bits ext (suc (suc (suc (suc (suc (suc zero)))))) h = refl
tseg_bits ext (suc (suc (suc (suc (suc (suc (suc zero))))))) h = refl
tseg_bits ext (suc (suc (suc (suc (suc (suc (suc (suc n)))))))) h = absurd (omega (arith, h))

-- TSEG lies in RAM, where register 50 asks for no more than there is
pub tseg_room : (low ext e : ℕ) → IsMemorySize low → ext * 0x100000 ≤ low → tseg_size ext e * 0x100000 ≤ low
tseg_room low ext e size room = grind (arith, nat_tests)

-- a value of register 9c has bit 1 exactly where it is 2
pub locking : (r : ℕ) → r ≤ 2 → (bit_and r 2 == 2) ≡ (r == 2)
locking r h = agree_below_at (λ x. bit_and x 2 == 2) (λ x. x == 2) 3 r refl (omega (arith, h))

pub kept_twice : (v : ℕ) → bit_and (bit_and v 24) 24 ≡ bit_and v 24
kept_twice v = and_assoc 24 v 24

pub kept_low : (v : ℕ) → bit_and v 7 < 8
kept_low v = mask_lt v 3
