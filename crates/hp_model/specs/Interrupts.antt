-- Interrupt commands (Intel SDM vol. 3, local APIC: interrupt command register) and whom they hit.
use Rattle.std.specs.Prelude.{ℕ, Bool, true, false, not, ◌==◌, ◌/◌, ◌%◌, List, [], ◌∷◌, Option, Some, None, option_map, option_and_then, slice_set, if◌then◌else◌}
use Rattle.hp_model.specs.declared.processors.Cpu.{Cpu}
use Rattle.hp_model.specs.declared.processors.Kind.{Kind}
use Rattle.hp_model.specs.declared.processors.Kind.TheVariants.{Smi, Init, Start}
use Rattle.hp_model.specs.declared.processors.Target.{Target}
use Rattle.hp_model.specs.declared.processors.Target.TheVariants.{Id, Others}
use Rattle.hp_model.specs.declared.processors.Ipi.{Ipi}
use Rattle.hp_model.specs.Cpu.{hit, cpu_at}

-- delivery mode, bits 10:8 of the low half: 2 SMI, 5 INIT, 6 start-up with its vector in bits 7:0; others do nothing (own rule)
abbrev pub kind_of : ℕ → Option Kind
kind_of low =
    if low / 0x100 % 8 == 2 then Some Smi
    else if low / 0x100 % 8 == 5 then Some Init
    else if low / 0x100 % 8 == 6 then Some (Start (low % 0x100))
    else None

-- the destination: bits 31:24 of the high half, or under x2APIC all of it; no value of it is a broadcast (own rule)
abbrev pub destination : Bool → ℕ → ℕ
destination x2apic high = if x2apic then high else high / 0x1000000 % 0x100

-- shorthand, bits 19:18 of the low half: 0 the destination, 3 all but the sender; others do nothing (own rule)
abbrev pub target_of : Bool → ℕ → ℕ → Option Target
target_of x2apic high low =
    if low / 0x40000 % 4 == 0 then Some (Id (destination x2apic high))
    else if low / 0x40000 % 4 == 3 then Some Others
    else None

abbrev pub decoded : Bool → ℕ → ℕ → Option Ipi
decoded x2apic high low =
    option_and_then (λ kind. option_map (λ to. record { kind = kind; to = to }) (target_of x2apic high low)) (kind_of low)

-- whether it is sent to the processor with this APIC ID; `sender` is an APIC ID too
abbrev pub is_target : Target → ℕ → ℕ → Bool
is_target (Id to) sender id = id == to
is_target Others sender id = not (id == sender)

-- each processor with such an APIC ID is hit; where it is absent, a hit does nothing
unfoldable pub hit_each : (ℕ → Bool) → Kind → List ℕ → List Cpu → List Cpu
hit_each aims kind [] cs = cs
hit_each aims kind (id ∷ ids) [] = []
hit_each aims kind (id ∷ ids) (c ∷ cs) = (if aims id then hit kind c else c) ∷ hit_each aims kind ids cs

-- what an interrupt command does
abbrev pub sent : Option Ipi → ℕ → List ℕ → List Cpu → List Cpu
sent None sender ids cs = cs
sent (Some ipi) sender ids cs = hit_each (is_target ipi.to sender) ipi.kind ids cs

-- an SMI that a write of the SMI command port raises (own rule): on all present processors, or on the writer k alone
abbrev pub smi_raised : Bool → ℕ → List ℕ → List Cpu → List Cpu
smi_raised true k ids cs = hit_each (λ id. true) Smi ids cs
smi_raised false k ids cs = slice_set cs k (hit Smi (cpu_at cs k))
