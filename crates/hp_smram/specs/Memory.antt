-- How much RAM there may be (own rule), and the registers at the start.
use Rattle.std.specs.Prelude.{◌≡◌, ℕ, Bool, true, ◌&&◌, ◌==◌, nat_le, ◌%◌}
use Rattle.hp_model.specs.View.{Locks}

-- whole MiB, from 16 MiB to 2 GiB
abbrev pub is_memory_size : ℕ → Bool
is_memory_size low = (low % 0x100000 == 0) && (nat_le 0x1000000 low && nat_le low 0x80000000)

abbrev pub IsMemorySize : ℕ → Type 0
IsMemorySize low = is_memory_size low ≡ true

-- all registers start at 0
abbrev pub locks_of : ℕ → Bool → Bool → Locks
locks_of low has_default has_ext =
    record { low_memory = low; has_default = has_default; f_smbase = 0; smram = 0; esmramc = 0; has_ext = has_ext; ext_tseg = 0 }
