-- Bits of a byte, and how large a value of so many bytes is.
use Rattle.std.proofs.Common.{◌≡◌, ℕ, zero, suc, ◌-◌, ◌^◌, ◌<◌, arith}
use Rattle.std.specs.Prelude.{bit_and}
use Rattle.std.proofs.lemmas.Nat.{and-not, and_comm}

-- `byte & !ones` is the byte less the bits that are 1 in both
pub without_ones : (byte ones : ℕ) → byte < 256 → ones < 256 → bit_and byte (255 - ones) ≡ byte - bit_and byte ones
without_ones byte ones is_byte are_byte =
    let parts = and-not 8 ones byte are_byte is_byte in
    rw (and_comm byte (255 - ones), and_comm byte ones) (omega (arith, parts))

pub some_value : (width : ℕ) → 0 < 256 ^ width
some_value zero = omega arith
some_value (suc width) = omega (arith, some_value width)
