-- Wide APIC IDs and the largest TSEG, entry by entry.
use Rattle.std.specs.Prelude.{List, [], ◌∷◌, ◌++◌, take}
use Rattle.hp_model.specs.declared.accesses.Access.TheVariants.{Load, Store, Swap, In, Out, CfgRead, CfgWrite, Icr, Halt}
use Rattle.hp_model.specs.declared.outcomes.Outcome.TheVariants.{Added}
use Rattle.hp_model.specs.declared.entries.Entry.{Entry}
use Rattle.hp_worked.specs.Entries.{does, reads, does_at, reads_at, takes_smi, resumes, inserts, tells, with_entry}
use Rattle.hp_worked.specs.Traces.{boot}

-- The plainest add, of APIC ID 70000.
unfoldable pub wide_add : List Entry
wide_add =
    boot ++
    (inserts 1
    ∷ does 0 (Out 0xb2 1 0x4)
    ∷ takes_smi 0
    ∷ does_at 0 0x7f28000 (Store 0x7f04000 1 0x1)
    ∷ does_at 0 0x7f28008 (Icr 0 0xc0200)
    ∷ reads_at 0 0x7f28010 (In 0xb2 1) 0x4
    ∷ does_at 0 0x7f28014 (Out 0xcd8 4 0)
    ∷ does_at 0 0x7f28018 (Out 0xcdd 1 0)
    ∷ reads_at 0 0x7f2801c (In 0xce0 4) 0x1
    ∷ reads_at 0 0x7f28020 (In 0xcdc 1) 0x3
    ∷ does_at 0 0x7f28024 (Out 0xcdd 1 0x3)
    ∷ reads_at 0 0x7f28028 (In 0xce0 4) 0x11170
    ∷ does_at 0 0x7f2802c (Store 0x7f01001 1 0)
    ∷ does_at 0 0x7f28030 (Store 0x7f00001 1 0)
    ∷ does_at 0 0x7f28034 (Store 0x3000c 1 0)
    ∷ does_at 0 0x7f28038 (Store 0x30008 4 0x7f30000)
    ∷ does_at 0 0x7f2803c (Icr 0x11170 0x200)
    ∷ does_at 0 0x7f28040 (Icr 0x11170 0x500)
    ∷ does_at 0 0x7f28044 (Icr 0x11170 0x69f)
    ∷ takes_smi 1
    ∷ does_at 0 0x7f28048 (Icr 0x11170 0x69f)
    ∷ reads_at 1 0x38000 (Swap 0x30000 0x11170 0xffffffffffffffff) 0xffffffffffffffff
    ∷ does_at 0 0x7f2804c (Store 0x30000 8 0x11170)
    ∷ reads_at 1 0x38000 (Swap 0x30000 0x11170 0xffffffffffffffff) 0x11170
    ∷ reads_at 0 0x7f28050 (Load 0x3000c 1) 0
    ∷ reads_at 1 0x38004 (Load 0x30008 4) 0x7f30000
    ∷ reads_at 0 0x7f28054 (Load 0x7f00001 1) 0
    ∷ does_at 1 0x38008 (Store 0x3ff00 4 0x7f30000)
    ∷ reads_at 0 0x7f28050 (Load 0x3000c 1) 0
    ∷ does_at 1 0x3800c (Store 0x3000c 1 0x1)
    ∷ reads_at 0 0x7f28054 (Load 0x7f00001 1) 0
    ∷ does_at 1 0x38010 (Icr 0x11170 0x200)
    ∷ reads_at 0 0x7f28050 (Load 0x3000c 1) 0x1
    ∷ resumes 1 0x38014
    ∷ does_at 0 0x7f28058 (Store 0x30000 8 0xffffffffffffffff)
    ∷ takes_smi 1
    ∷ does_at 0 0x7f2805c (Store 0x7f00001 1 0)
    ∷ does_at 1 0x7f38000 (Store 0x7f00001 1 0x1)
    ∷ reads_at 0 0x7f28060 (Load 0x7f00001 1) 0x1
    ∷ reads_at 1 0x7f38004 (Load 0x7f02001 1) 0
    ∷ tells 0x7f28088 (Added 1 70000 1)
    ∷ reads_at 1 0x7f38008 (Load 0x7f01001 1) 0
    ∷ does_at 0 0x7f2808c (Store 0x7f04000 1 0)
    ∷ does_at 1 0x7f38000 (Store 0x7f00001 1 0x1)
    ∷ does_at 0 0x7f28090 (Store 0x7f01001 1 0x1)
    ∷ reads_at 1 0x7f38004 (Load 0x7f02001 1) 0
    ∷ resumes 0 0x7f28094
    ∷ reads_at 1 0x7f38008 (Load 0x7f01001 1) 0x1
    ∷ does 0 (Out 0xcd8 4 0x1)
    ∷ does_at 1 0x7f3800c (Store 0x7f00001 1 0)
    ∷ does 0 (Out 0xcdc 1 0x2)
    ∷ resumes 1 0x7f38010
    ∷ does 0 Halt
    ∷ does 1 (Store 0x9f010 1 0x1)
    ∷ does 1 Halt
    ∷ [])

-- The boot with a TSEG of 48 MiB.
unfoldable pub largest_boot : List Entry
largest_boot =
    does 0 (Out 0xcd8 4 0)
    ∷ does 0 (Out 0xcd8 4 0)
    ∷ does 0 (Out 0xcdd 1 0)
    ∷ reads 0 (In 0xcd8 4) 0
    ∷ does 0 (CfgWrite 0x9c 0xff)
    ∷ reads 0 (CfgRead 0x9c) 0x1
    ∷ does 0 (Store 0x9f000 4 0x4e4550)
    ∷ does 0 (Store 0x38000 4 0x53000001)
    ∷ does 0 (Store 0x38004 4 0x53000002)
    ∷ does 0 (Store 0x38008 4 0x53000003)
    ∷ does 0 (Store 0x3800c 4 0x53000004)
    ∷ does 0 (Store 0x38010 4 0x53000005)
    ∷ does 0 (Store 0x38014 4 0x53000006)
    ∷ does 0 (Store 0x30000 8 0xffffffffffffffff)
    ∷ does 0 (CfgWrite 0x9c 0x2)
    ∷ does 0 (CfgWrite 0x50 0xff)
    ∷ reads 0 (CfgRead 0x50) 0x30
    ∷ does 0 (CfgWrite 0x9e 0x7)
    ∷ does 0 (CfgWrite 0x9d 0x18)
    ∷ does 0 (Store 0x1000 8 0x80000000a002200)
    ∷ does 0 (Store 0x1008 8 0x1010000000000000)
    ∷ does 0 (Out 0x518 4 0x100000)
    ∷ reads 0 (Load 0x1010 8) 0x7
    ∷ does 0 (Store 0x1000 8 0x800000018002100)
    ∷ does 0 (Store 0x1010 8 0x7)
    ∷ does 0 (Out 0x518 4 0x100000)
    ∷ does 0 (Out 0x510 2 0x20)
    ∷ reads 0 (In 0x511 1) 0x1
    ∷ does 0 (Out 0x630 4 0x21)
    ∷ []

-- there is no TSEG of 48 MiB: register 50 stays as it was, and nothing follows
abbrev pub refused_for_its_tseg : List Entry
refused_for_its_tseg = take 16 largest_boot ++ reads 0 (CfgRead 0x50) 0 ∷ []

-- the INIT of the add goes to the APIC ID's low 8 bits
abbrev pub with_a_narrow_destination : List Entry
with_a_narrow_destination = with_entry 44 (does_at 0 0x7f28040 (Icr 0x70000000 0x500)) wide_add
