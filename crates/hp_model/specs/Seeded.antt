-- The words of a generator as accesses (own rules). The generator is rand_pcg's Lcg64Xsh32, PCG XSH RR 64/32, seeded by a number as rand_core does it.
use Rattle.std.specs.Prelude.{ℕ, ◌==◌, ◌*◌, ◌/◌, ◌%◌, if◌then◌else◌}
use Rattle.rand_core.specs.Pcg32Seed.{pcg32_seed}
use Rattle.rand_pcg.specs.Lcg.{Lcg}
use Rattle.rand_pcg.specs.Pcg.{pcg32, pcg32_of_seed}
use Rattle.hp_model.specs.declared.accesses.Access.{Access}
use Rattle.hp_model.specs.declared.accesses.Access.TheVariants.{Load, Store, In, Out, Icr, Nop}

-- the generator of a seed
unfoldable pub generator_of : ℕ → Lcg
generator_of seed = pcg32_of_seed (pcg32_seed 16 seed)

-- the next word of 32 bits, and the generator after it
unfoldable pub draw : Lcg → ℕ × Lcg
draw g = pcg32 g

-- the upper 24 bits of a word
abbrev pub upper : ℕ → ℕ
upper word = word / 256

-- a multiple of 4 in the first MiB
abbrev pub low_address : ℕ → ℕ
low_address word = 4 * (upper word % 262144)

-- a word's lowest three bits say which access it is, its upper 24 bits of what
abbrev pub drawn_access : ℕ → Access
drawn_access word =
    if word % 8 == 0 then Load (low_address word) 4
    else if word % 8 == 1 then Store (low_address word) 4 word
    else if word % 8 == 2 then In 0xcdc 1
    else if word % 8 == 3 then Out 0xcd8 4 (upper word % 80)
    else if word % 8 == 4 then In 0xce0 4
    else if word % 8 == 5 then Icr (upper word % 64 * 0x1000000) 0x200
    else if word % 8 == 6 then Load 0x30000 8
    else Nop
