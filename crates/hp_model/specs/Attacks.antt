-- Agents that attack (own rules): what each says goes by how often it was asked, modulo 2^32, and by nothing that it is asked.
use Rattle.std.specs.Prelude.{ℕ, ◌==◌, ◌+◌, ◌*◌, ◌%◌, ◌^◌, if◌then◌else◌}
use Rattle.hp_model.specs.declared.accesses.Access.{Access}
use Rattle.hp_model.specs.declared.accesses.Access.TheVariants.{Store, Out, Icr}

-- asked once more
abbrev pub once_more : ℕ → ℕ
once_more i = (i + 1) % 2 ^ 32

-- a storm: where i is a multiple of 6 it selects i modulo (count + 2), which is below count + 2; the eject of the processor there, if there is one, is handed to
-- the firmware; all others get INIT and an SMI; 0 is stored in the gate, and the firmware is called
abbrev pub storm_access : ℕ → ℕ → Access
storm_access count i =
    if i % 6 == 0 then Out 0xcd8 4 (i % (count + 2))
    else if i % 6 == 1 then Out 0xcdc 1 0x10
    else if i % 6 == 2 then Icr 0 0xc0500
    else if i % 6 == 3 then Icr 0 0xc0200
    else if i % 6 == 4 then Store 0x30000 8 0
    else Out 0xb2 1 4

-- a flood: INIT, SIPI and an SMI to one APIC ID, which stands in bits 31:24 on every platform
abbrev pub flood_access : ℕ → ℕ → Access
flood_access apic i =
    if i % 3 == 0 then Icr (apic * 0x1000000) 0x500
    else if i % 3 == 1 then Icr (apic * 0x1000000) 0x610
    else Icr (apic * 0x1000000) 0x200

-- a digger: fw_cfg is to transfer 8 bytes of item 0x22 to the first handler's cells, by a descriptor at 0x1000, and then it stores there itself
abbrev pub digger_access : ℕ → Access
digger_access i =
    if i % 4 == 0 then Store 0x1000 8 0x080000000a002200
    else if i % 4 == 1 then Store 0x1008 8 0x0080030000000000
    else if i % 4 == 2 then Out 0x518 4 0x00100000
    else Store 0x38000 4 0

-- churn: one processor is ejected without the firmware, which is then called
abbrev pub churn_access : ℕ → ℕ → Access
churn_access cpu i =
    if i % 3 == 0 then Out 0xcd8 4 cpu
    else if i % 3 == 1 then Out 0xcdc 1 8
    else Out 0xb2 1 4
