-- The words of the laws on the block.
use Rattle.std.specs.Prelude.{ℕ, Bool, ◌+◌, ◌-◌, ◌==◌, ◌%◌, ◌&&◌, ◌||◌, nat_lt, bit_and, if◌then◌else◌}
use Rattle.hp_model.specs.Block.{Block, cut}

-- a register starts at this offset: in the legacy form at 0, in the modern form at 0, 4, 5 and 8
abbrev pub starts_register : Block → ℕ → Bool
starts_register b offset = (offset == 0) || (b.modern && ((offset == 4) || ((offset == 5) || (offset == 8))))

-- the lowest of bits 1 to 4 that is set, alone; 0 where none is
abbrev pub lowest_bit : ℕ → ℕ
lowest_bit value =
    if bit_and value 2 == 2 then 2
    else if bit_and value 4 == 4 then 4
    else if bit_and value 8 == 8 then 8
    else if bit_and value 16 == 16 then 16
    else 0

-- what is written to the command register is command 0, of the low 8 bits
abbrev pub is_search : ℕ → ℕ → Bool
is_search width value = cut width value % 256 == 0

-- how many steps upward, and round after the last of `count` places, lead from one place to another
abbrev pub steps_up : ℕ → ℕ → ℕ → ℕ
steps_up count from place = if nat_lt place from then place + count - from else place - from
