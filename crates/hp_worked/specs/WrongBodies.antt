-- Traces of firmware that does something wrong, each a true record of what the machine then does. No trace is a run, and the laws of safety refuse each.
use Rattle.std.specs.Prelude.{List, [], ◌∷◌, ◌++◌}
use Rattle.hp_model.specs.declared.accesses.Access.TheVariants.{Load, Store, Swap, In, Out, CfgRead, CfgWrite, Icr, Halt}
use Rattle.hp_model.specs.declared.outcomes.Outcome.TheVariants.{Added, Ejected, Refused}
use Rattle.hp_model.specs.declared.outcomes.Refusal.TheVariants.{AlreadyKnown, NotAtGate}
use Rattle.hp_model.specs.declared.entries.Entry.{Entry}
use Rattle.hp_worked.specs.Entries.{does, reads, does_at, reads_at, takes_smi, resumes, inserts, tells, waits}
use Rattle.hp_worked.specs.Traces.{boot}

-- The boot doesn't lock the default area.
unfoldable pub default_area_left_open : List Entry
default_area_left_open =
    does 0 (Out 0xcd8 4 0)
    ∷ does 0 (Out 0xcd8 4 0)
    ∷ does 0 (Out 0xcdd 1 0)
    ∷ reads 0 (In 0xcd8 4) 0
    ∷ does 0 (CfgWrite 0x9c 0xff)
    ∷ reads 0 (CfgRead 0x9c) 0x1
    ∷ does 0 (Store 0x9f000 4 0x4e4550)
    ∷ does 0 (Store 0x38000 4 0x53000001)
    ∷ does 0 (Store 0x38004 4 0x53000002)
    ∷ does 0 (Store 0x38008 4 0x53000003)
    ∷ does 0 (Store 0x3800c 4 0x53000004)
    ∷ does 0 (Store 0x38010 4 0x53000005)
    ∷ does 0 (Store 0x38014 4 0x53000006)
    ∷ does 0 (Store 0x30000 8 0xffffffffffffffff)
    ∷ does 0 (CfgWrite 0x9e 0x1)
    ∷ does 0 (CfgWrite 0x9d 0x18)
    ∷ does 0 (Store 0x1000 8 0x80000000a002200)
    ∷ does 0 (Store 0x1008 8 0x1010000000000000)
    ∷ does 0 (Out 0x518 4 0x100000)
    ∷ reads 0 (Load 0x1010 8) 0x7
    ∷ does 0 (Store 0x1000 8 0x800000018002100)
    ∷ does 0 (Store 0x1010 8 0x7)
    ∷ does 0 (Out 0x518 4 0x100000)
    ∷ does 0 (Out 0x510 2 0x20)
    ∷ reads 0 (In 0x511 1) 0x1
    ∷ does 0 (Out 0x630 4 0x21)
    ∷ inserts 1
    ∷ does 0 (Out 0xb2 1 0x4)
    ∷ takes_smi 0
    ∷ does_at 0 0x7f28000 (Store 0x7f04000 1 0x1)
    ∷ does_at 0 0x7f28008 (Icr 0 0xc0200)
    ∷ reads_at 0 0x7f28010 (In 0xb2 1) 0x4
    ∷ does_at 0 0x7f28014 (Out 0xcd8 4 0)
    ∷ does_at 0 0x7f28018 (Out 0xcdd 1 0)
    ∷ reads_at 0 0x7f2801c (In 0xce0 4) 0x1
    ∷ reads_at 0 0x7f28020 (In 0xcdc 1) 0x3
    ∷ does_at 0 0x7f28024 (Out 0xcdd 1 0x3)
    ∷ reads_at 0 0x7f28028 (In 0xce0 4) 0x1
    ∷ does_at 0 0x7f2802c (Store 0x7f01001 1 0)
    ∷ does_at 0 0x7f28030 (Store 0x7f00001 1 0)
    ∷ does_at 0 0x7f28034 (Store 0x3000c 1 0)
    ∷ does_at 0 0x7f28038 (Store 0x30008 4 0x7f30000)
    ∷ does_at 0 0x7f2803c (Icr 0x1000000 0x200)
    ∷ does_at 0 0x7f28040 (Icr 0x1000000 0x500)
    ∷ does_at 0 0x7f28044 (Icr 0x1000000 0x69f)
    ∷ takes_smi 1
    ∷ does_at 0 0x7f28048 (Icr 0x1000000 0x69f)
    ∷ waits 1
    ∷ does_at 0 0x7f2804c (Store 0x30000 8 0x1)
    ∷ reads_at 1 0x38000 (Swap 0x30000 0x1 0xffffffffffffffff) 0x1
    ∷ reads_at 0 0x7f28050 (Load 0x3000c 1) 0
    ∷ reads_at 1 0x38004 (Load 0x30008 4) 0x7f30000
    ∷ reads_at 0 0x7f28054 (Load 0x7f00001 1) 0
    ∷ does_at 1 0x38008 (Store 0x3ff00 4 0x7f30000)
    ∷ reads_at 0 0x7f28050 (Load 0x3000c 1) 0
    ∷ does_at 1 0x3800c (Store 0x3000c 1 0x1)
    ∷ reads_at 0 0x7f28054 (Load 0x7f00001 1) 0
    ∷ does_at 1 0x38010 (Icr 0x1000000 0x200)
    ∷ reads_at 0 0x7f28050 (Load 0x3000c 1) 0x1
    ∷ resumes 1 0x38014
    ∷ does_at 0 0x7f28058 (Store 0x30000 8 0xffffffffffffffff)
    ∷ takes_smi 1
    ∷ does_at 0 0x7f2805c (Store 0x7f00001 1 0)
    ∷ does_at 1 0x7f38000 (Store 0x7f00001 1 0x1)
    ∷ reads_at 0 0x7f28060 (Load 0x7f00001 1) 0x1
    ∷ reads_at 1 0x7f38004 (Load 0x7f02001 1) 0
    ∷ tells 0x7f28088 (Added 1 1 1)
    ∷ reads_at 1 0x7f38008 (Load 0x7f01001 1) 0
    ∷ does_at 0 0x7f2808c (Store 0x7f04000 1 0)
    ∷ does_at 1 0x7f38000 (Store 0x7f00001 1 0x1)
    ∷ does_at 0 0x7f28090 (Store 0x7f01001 1 0x1)
    ∷ reads_at 1 0x7f38004 (Load 0x7f02001 1) 0
    ∷ resumes 0 0x7f28094
    ∷ reads_at 1 0x7f38008 (Load 0x7f01001 1) 0x1
    ∷ does 0 (Out 0xcd8 4 0x1)
    ∷ does_at 1 0x7f3800c (Store 0x7f00001 1 0)
    ∷ does 0 (Out 0xcdc 1 0x2)
    ∷ resumes 1 0x7f38010
    ∷ does 0 Halt
    ∷ does 1 (Store 0x9f010 1 0x1)
    ∷ does 1 Halt
    ∷ []

-- An add is told once the flag is 1, without a look at the arrived byte after the gate was closed.
unfoldable pub added_at_the_flag : List Entry
added_at_the_flag =
    boot ++
    (inserts 1
    ∷ does 0 (Out 0xb2 1 0x4)
    ∷ takes_smi 0
    ∷ does_at 0 0x7f28000 (Store 0x7f04000 1 0x1)
    ∷ does_at 0 0x7f28008 (Icr 0 0xc0200)
    ∷ reads_at 0 0x7f28010 (In 0xb2 1) 0x4
    ∷ does_at 0 0x7f28014 (Out 0xcd8 4 0)
    ∷ does_at 0 0x7f28018 (Out 0xcdd 1 0)
    ∷ reads_at 0 0x7f2801c (In 0xce0 4) 0x1
    ∷ reads_at 0 0x7f28020 (In 0xcdc 1) 0x3
    ∷ does_at 0 0x7f28024 (Out 0xcdd 1 0x3)
    ∷ reads_at 0 0x7f28028 (In 0xce0 4) 0x1
    ∷ does_at 0 0x7f2802c (Store 0x7f01001 1 0)
    ∷ does_at 0 0x7f28030 (Store 0x7f00001 1 0)
    ∷ does_at 0 0x7f28034 (Store 0x3000c 1 0)
    ∷ does_at 0 0x7f28038 (Store 0x30008 4 0x7f30000)
    ∷ does_at 0 0x7f2803c (Icr 0x1000000 0x200)
    ∷ does_at 0 0x7f28040 (Icr 0x1000000 0x500)
    ∷ does_at 0 0x7f28044 (Icr 0x1000000 0x69f)
    ∷ takes_smi 1
    ∷ does_at 0 0x7f28048 (Icr 0x1000000 0x69f)
    ∷ waits 1
    ∷ does_at 0 0x7f2804c (Store 0x30000 8 0x1)
    ∷ reads_at 1 0x38000 (Swap 0x30000 0x1 0xffffffffffffffff) 0x1
    ∷ reads_at 0 0x7f28050 (Load 0x3000c 1) 0
    ∷ reads_at 1 0x38004 (Load 0x30008 4) 0x7f30000
    ∷ reads_at 0 0x7f28054 (Load 0x7f00001 1) 0
    ∷ does_at 1 0x38008 (Store 0x3ff00 4 0x7f30000)
    ∷ reads_at 0 0x7f28050 (Load 0x3000c 1) 0
    ∷ does_at 1 0x3800c (Store 0x3000c 1 0x1)
    ∷ reads_at 0 0x7f28054 (Load 0x7f00001 1) 0
    ∷ does_at 1 0x38010 (Icr 0x1000000 0x200)
    ∷ reads_at 0 0x7f28050 (Load 0x3000c 1) 0x1
    ∷ resumes 1 0x38014
    ∷ does_at 0 0x7f28058 (Store 0x30000 8 0xffffffffffffffff)
    ∷ takes_smi 1
    ∷ tells 0x7f28088 (Added 1 1 1)
    ∷ does_at 1 0x7f38000 (Store 0x7f00001 1 0x1)
    ∷ does_at 0 0x7f2808c (Store 0x7f04000 1 0)
    ∷ reads_at 1 0x7f38004 (Load 0x7f02001 1) 0
    ∷ does_at 0 0x7f28090 (Store 0x7f01001 1 0x1)
    ∷ reads_at 1 0x7f38008 (Load 0x7f01001 1) 0x1
    ∷ resumes 0 0x7f28094
    ∷ does_at 1 0x7f3800c (Store 0x7f00001 1 0)
    ∷ does 0 (Out 0xcd8 4 0x1)
    ∷ resumes 1 0x7f38010
    ∷ does 0 (Out 0xcdc 1 0x2)
    ∷ does 1 (Store 0x9f010 1 0x1)
    ∷ does 0 Halt
    ∷ does 1 Halt
    ∷ [])

-- The first handler sends itself no SMI: the new processor runs outside SMM during the session.
unfoldable pub no_smi_to_itself : List Entry
no_smi_to_itself =
    boot ++
    (inserts 1
    ∷ does 0 (Out 0xb2 1 0x4)
    ∷ takes_smi 0
    ∷ does_at 0 0x7f28000 (Store 0x7f04000 1 0x1)
    ∷ does_at 0 0x7f28008 (Icr 0 0xc0200)
    ∷ reads_at 0 0x7f28010 (In 0xb2 1) 0x4
    ∷ does_at 0 0x7f28014 (Out 0xcd8 4 0)
    ∷ does_at 0 0x7f28018 (Out 0xcdd 1 0)
    ∷ reads_at 0 0x7f2801c (In 0xce0 4) 0x1
    ∷ reads_at 0 0x7f28020 (In 0xcdc 1) 0x3
    ∷ does_at 0 0x7f28024 (Out 0xcdd 1 0x3)
    ∷ reads_at 0 0x7f28028 (In 0xce0 4) 0x1
    ∷ does_at 0 0x7f2802c (Store 0x7f01001 1 0)
    ∷ does_at 0 0x7f28030 (Store 0x7f00001 1 0)
    ∷ does_at 0 0x7f28034 (Store 0x3000c 1 0)
    ∷ does_at 0 0x7f28038 (Store 0x30008 4 0x7f30000)
    ∷ does_at 0 0x7f2803c (Icr 0x1000000 0x200)
    ∷ does_at 0 0x7f28040 (Icr 0x1000000 0x500)
    ∷ does_at 0 0x7f28044 (Icr 0x1000000 0x69f)
    ∷ takes_smi 1
    ∷ does_at 0 0x7f28048 (Icr 0x1000000 0x69f)
    ∷ waits 1
    ∷ does_at 0 0x7f2804c (Store 0x30000 8 0x1)
    ∷ reads_at 1 0x38000 (Swap 0x30000 0x1 0xffffffffffffffff) 0x1
    ∷ reads_at 0 0x7f28050 (Load 0x3000c 1) 0
    ∷ reads_at 1 0x38004 (Load 0x30008 4) 0x7f30000
    ∷ reads_at 0 0x7f28054 (Load 0x7f00001 1) 0
    ∷ does_at 1 0x38008 (Store 0x3ff00 4 0x7f30000)
    ∷ reads_at 0 0x7f28050 (Load 0x3000c 1) 0
    ∷ does_at 1 0x3800c (Store 0x3000c 1 0x1)
    ∷ reads_at 0 0x7f28054 (Load 0x7f00001 1) 0
    ∷ resumes 1 0x38014
    ∷ reads_at 0 0x7f28050 (Load 0x3000c 1) 0x1
    ∷ does 1 (Store 0x9f010 1 0x1)
    ∷ does_at 0 0x7f28058 (Store 0x30000 8 0xffffffffffffffff)
    ∷ does 1 Halt
    ∷ does_at 0 0x7f2805c (Store 0x7f00001 1 0)
    ∷ reads_at 0 0x7f28060 (Load 0x7f00001 1) 0
    ∷ reads_at 0 0x7f28060 (Load 0x7f00001 1) 0
    ∷ reads_at 0 0x7f28060 (Load 0x7f00001 1) 0
    ∷ reads_at 0 0x7f28060 (Load 0x7f00001 1) 0
    ∷ reads_at 0 0x7f28060 (Load 0x7f00001 1) 0
    ∷ reads_at 0 0x7f28060 (Load 0x7f00001 1) 0
    ∷ reads_at 0 0x7f28060 (Load 0x7f00001 1) 0
    ∷ reads_at 0 0x7f28060 (Load 0x7f00001 1) 0
    ∷ does_at 0 0x7f28030 (Store 0x7f00001 1 0)
    ∷ [])

-- An add is begun while another APIC ID is held.
unfoldable pub added_beside_a_held_one : List Entry
added_beside_a_held_one =
    boot ++
    (inserts 1
    ∷ inserts 2
    ∷ does 0 (Out 0xb2 1 0x4)
    ∷ takes_smi 0
    ∷ does_at 0 0x7f28000 (Store 0x7f04000 1 0x1)
    ∷ does_at 0 0x7f28008 (Icr 0 0xc0200)
    ∷ reads_at 0 0x7f28010 (In 0xb2 1) 0x4
    ∷ does_at 0 0x7f28014 (Out 0xcd8 4 0)
    ∷ does_at 0 0x7f28018 (Out 0xcdd 1 0)
    ∷ reads_at 0 0x7f2801c (In 0xce0 4) 0x1
    ∷ reads_at 0 0x7f28020 (In 0xcdc 1) 0x3
    ∷ does_at 0 0x7f28024 (Out 0xcdd 1 0x3)
    ∷ reads_at 0 0x7f28028 (In 0xce0 4) 0x1
    ∷ does_at 0 0x7f28014 (Out 0xcd8 4 0x2)
    ∷ does_at 0 0x7f28018 (Out 0xcdd 1 0)
    ∷ reads_at 0 0x7f2801c (In 0xce0 4) 0x2
    ∷ reads_at 0 0x7f28020 (In 0xcdc 1) 0x3
    ∷ does_at 0 0x7f28024 (Out 0xcdd 1 0x3)
    ∷ reads_at 0 0x7f28028 (In 0xce0 4) 0x2
    ∷ does_at 0 0x7f2802c (Store 0x7f01001 1 0)
    ∷ does_at 0 0x7f28030 (Store 0x7f00001 1 0)
    ∷ does_at 0 0x7f28034 (Store 0x3000c 1 0)
    ∷ does_at 0 0x7f28038 (Store 0x30008 4 0x7f30000)
    ∷ does_at 0 0x7f2803c (Icr 0x1000000 0x200)
    ∷ does_at 0 0x7f28040 (Icr 0x1000000 0x500)
    ∷ does_at 0 0x7f28044 (Icr 0x1000000 0x69f)
    ∷ does_at 0 0x7f28048 (Icr 0x1000000 0x69f)
    ∷ does_at 0 0x7f2804c (Store 0x30000 8 0x1)
    ∷ reads_at 0 0x7f28050 (Load 0x3000c 1) 0
    ∷ reads_at 0 0x7f28054 (Load 0x7f00001 1) 0
    ∷ reads_at 0 0x7f28050 (Load 0x3000c 1) 0
    ∷ reads_at 0 0x7f28054 (Load 0x7f00001 1) 0
    ∷ reads_at 0 0x7f28050 (Load 0x3000c 1) 0
    ∷ reads_at 0 0x7f28054 (Load 0x7f00001 1) 0
    ∷ reads_at 0 0x7f28050 (Load 0x3000c 1) 0
    ∷ reads_at 0 0x7f28054 (Load 0x7f00001 1) 0
    ∷ does_at 0 0x7f28058 (Store 0x30000 8 0xffffffffffffffff)
    ∷ does_at 0 0x7f28030 (Store 0x7f00001 1 0)
    ∷ does_at 0 0x7f28034 (Store 0x3000c 1 0)
    ∷ does_at 0 0x7f28038 (Store 0x30008 4 0x7f30000)
    ∷ does_at 0 0x7f2803c (Icr 0x1000000 0x200)
    ∷ does_at 0 0x7f28040 (Icr 0x1000000 0x500)
    ∷ does_at 0 0x7f28044 (Icr 0x1000000 0x69f)
    ∷ does_at 0 0x7f28048 (Icr 0x1000000 0x69f)
    ∷ does_at 0 0x7f2804c (Store 0x30000 8 0x1)
    ∷ reads_at 0 0x7f28050 (Load 0x3000c 1) 0
    ∷ reads_at 0 0x7f28054 (Load 0x7f00001 1) 0
    ∷ reads_at 0 0x7f28050 (Load 0x3000c 1) 0
    ∷ reads_at 0 0x7f28054 (Load 0x7f00001 1) 0
    ∷ reads_at 0 0x7f28050 (Load 0x3000c 1) 0
    ∷ reads_at 0 0x7f28054 (Load 0x7f00001 1) 0
    ∷ reads_at 0 0x7f28050 (Load 0x3000c 1) 0
    ∷ reads_at 0 0x7f28054 (Load 0x7f00001 1) 0
    ∷ does_at 0 0x7f28058 (Store 0x30000 8 0xffffffffffffffff)
    ∷ does_at 0 0x7f28030 (Store 0x7f00001 1 0)
    ∷ does_at 0 0x7f28034 (Store 0x3000c 1 0)
    ∷ does_at 0 0x7f28038 (Store 0x30008 4 0x7f30000)
    ∷ does_at 0 0x7f2803c (Icr 0x1000000 0x200)
    ∷ does_at 0 0x7f28040 (Icr 0x1000000 0x500)
    ∷ does_at 0 0x7f28044 (Icr 0x1000000 0x69f)
    ∷ does_at 0 0x7f28048 (Icr 0x1000000 0x69f)
    ∷ does_at 0 0x7f2804c (Store 0x30000 8 0x1)
    ∷ reads_at 0 0x7f28050 (Load 0x3000c 1) 0
    ∷ reads_at 0 0x7f28054 (Load 0x7f00001 1) 0
    ∷ reads_at 0 0x7f28050 (Load 0x3000c 1) 0
    ∷ reads_at 0 0x7f28054 (Load 0x7f00001 1) 0
    ∷ reads_at 0 0x7f28050 (Load 0x3000c 1) 0
    ∷ reads_at 0 0x7f28054 (Load 0x7f00001 1) 0
    ∷ reads_at 0 0x7f28050 (Load 0x3000c 1) 0
    ∷ reads_at 0 0x7f28054 (Load 0x7f00001 1) 0
    ∷ does_at 0 0x7f28058 (Store 0x30000 8 0xffffffffffffffff)
    ∷ tells 0x7f28088 (Refused (NotAtGate 1 1))
    ∷ does_at 0 0x7f2802c (Store 0x7f01002 1 0)
    ∷ does_at 0 0x7f28030 (Store 0x7f00002 1 0)
    ∷ does_at 0 0x7f28034 (Store 0x3000c 1 0)
    ∷ does_at 0 0x7f28038 (Store 0x30008 4 0x7f40000)
    ∷ does_at 0 0x7f2803c (Icr 0x2000000 0x200)
    ∷ does_at 0 0x7f28040 (Icr 0x2000000 0x500)
    ∷ does_at 0 0x7f28044 (Icr 0x2000000 0x69f)
    ∷ takes_smi 2
    ∷ does_at 0 0x7f28048 (Icr 0x2000000 0x69f)
    ∷ waits 2
    ∷ does_at 0 0x7f2804c (Store 0x30000 8 0x2)
    ∷ reads_at 2 0x38000 (Swap 0x30000 0x2 0xffffffffffffffff) 0x2
    ∷ reads_at 0 0x7f28050 (Load 0x3000c 1) 0
    ∷ reads_at 2 0x38004 (Load 0x30008 4) 0x7f40000
    ∷ reads_at 0 0x7f28054 (Load 0x7f00002 1) 0
    ∷ does_at 2 0x38008 (Store 0x3ff00 4 0x7f40000)
    ∷ reads_at 0 0x7f28050 (Load 0x3000c 1) 0
    ∷ does_at 2 0x3800c (Store 0x3000c 1 0x1)
    ∷ reads_at 0 0x7f28054 (Load 0x7f00002 1) 0
    ∷ does_at 2 0x38010 (Icr 0x2000000 0x200)
    ∷ reads_at 0 0x7f28050 (Load 0x3000c 1) 0x1
    ∷ resumes 2 0x38014
    ∷ does_at 0 0x7f28058 (Store 0x30000 8 0xffffffffffffffff)
    ∷ takes_smi 2
    ∷ does_at 0 0x7f2805c (Store 0x7f00002 1 0)
    ∷ does_at 2 0x7f48000 (Store 0x7f00002 1 0x1)
    ∷ reads_at 0 0x7f28060 (Load 0x7f00002 1) 0x1
    ∷ reads_at 2 0x7f48004 (Load 0x7f02002 1) 0
    ∷ tells 0x7f28088 (Added 2 2 2)
    ∷ reads_at 2 0x7f48008 (Load 0x7f01002 1) 0
    ∷ does_at 0 0x7f2808c (Store 0x7f04000 1 0)
    ∷ does_at 2 0x7f48000 (Store 0x7f00002 1 0x1)
    ∷ does_at 0 0x7f28090 (Store 0x7f01001 1 0x1)
    ∷ reads_at 2 0x7f48004 (Load 0x7f02002 1) 0
    ∷ does_at 0 0x7f28090 (Store 0x7f01002 1 0x1)
    ∷ reads_at 2 0x7f48008 (Load 0x7f01002 1) 0x1
    ∷ resumes 0 0x7f28094
    ∷ does_at 2 0x7f4800c (Store 0x7f00002 1 0)
    ∷ does 0 Halt
    ∷ resumes 2 0x7f48010
    ∷ does 2 (Store 0x9f010 1 0x1)
    ∷ does 2 Halt
    ∷ [])

-- The slot of an ejected APIC ID is given to another one.
unfoldable pub slot_given_away : List Entry
slot_given_away =
    boot ++
    (inserts 1
    ∷ does 0 (Out 0xb2 1 0x4)
    ∷ takes_smi 0
    ∷ does_at 0 0x7f28000 (Store 0x7f04000 1 0x1)
    ∷ does_at 0 0x7f28008 (Icr 0 0xc0200)
    ∷ reads_at 0 0x7f28010 (In 0xb2 1) 0x4
    ∷ does_at 0 0x7f28014 (Out 0xcd8 4 0)
    ∷ does_at 0 0x7f28018 (Out 0xcdd 1 0)
    ∷ reads_at 0 0x7f2801c (In 0xce0 4) 0x1
    ∷ reads_at 0 0x7f28020 (In 0xcdc 1) 0x3
    ∷ does_at 0 0x7f28024 (Out 0xcdd 1 0x3)
    ∷ reads_at 0 0x7f28028 (In 0xce0 4) 0x1
    ∷ does_at 0 0x7f28014 (Out 0xcd8 4 0x2)
    ∷ does_at 0 0x7f28018 (Out 0xcdd 1 0)
    ∷ reads_at 0 0x7f2801c (In 0xce0 4) 0x1
    ∷ does_at 0 0x7f2802c (Store 0x7f01001 1 0)
    ∷ does_at 0 0x7f28030 (Store 0x7f00001 1 0)
    ∷ does_at 0 0x7f28034 (Store 0x3000c 1 0)
    ∷ does_at 0 0x7f28038 (Store 0x30008 4 0x7f30000)
    ∷ does_at 0 0x7f2803c (Icr 0x1000000 0x200)
    ∷ does_at 0 0x7f28040 (Icr 0x1000000 0x500)
    ∷ does_at 0 0x7f28044 (Icr 0x1000000 0x69f)
    ∷ takes_smi 1
    ∷ does_at 0 0x7f28048 (Icr 0x1000000 0x69f)
    ∷ waits 1
    ∷ does_at 0 0x7f2804c (Store 0x30000 8 0x1)
    ∷ reads_at 1 0x38000 (Swap 0x30000 0x1 0xffffffffffffffff) 0x1
    ∷ reads_at 0 0x7f28050 (Load 0x3000c 1) 0
    ∷ reads_at 1 0x38004 (Load 0x30008 4) 0x7f30000
    ∷ reads_at 0 0x7f28054 (Load 0x7f00001 1) 0
    ∷ does_at 1 0x38008 (Store 0x3ff00 4 0x7f30000)
    ∷ reads_at 0 0x7f28050 (Load 0x3000c 1) 0
    ∷ does_at 1 0x3800c (Store 0x3000c 1 0x1)
    ∷ reads_at 0 0x7f28054 (Load 0x7f00001 1) 0
    ∷ does_at 1 0x38010 (Icr 0x1000000 0x200)
    ∷ reads_at 0 0x7f28050 (Load 0x3000c 1) 0x1
    ∷ resumes 1 0x38014
    ∷ does_at 0 0x7f28058 (Store 0x30000 8 0xffffffffffffffff)
    ∷ takes_smi 1
    ∷ does_at 0 0x7f2805c (Store 0x7f00001 1 0)
    ∷ does_at 1 0x7f38000 (Store 0x7f00001 1 0x1)
    ∷ reads_at 0 0x7f28060 (Load 0x7f00001 1) 0x1
    ∷ reads_at 1 0x7f38004 (Load 0x7f02001 1) 0
    ∷ tells 0x7f28088 (Added 1 1 1)
    ∷ reads_at 1 0x7f38008 (Load 0x7f01001 1) 0
    ∷ does_at 0 0x7f2808c (Store 0x7f04000 1 0)
    ∷ does_at 1 0x7f38000 (Store 0x7f00001 1 0x1)
    ∷ does_at 0 0x7f28090 (Store 0x7f01001 1 0x1)
    ∷ reads_at 1 0x7f38004 (Load 0x7f02001 1) 0
    ∷ resumes 0 0x7f28094
    ∷ reads_at 1 0x7f38008 (Load 0x7f01001 1) 0x1
    ∷ does 0 (Out 0xcd8 4 0x1)
    ∷ does_at 1 0x7f3800c (Store 0x7f00001 1 0)
    ∷ does 0 (Out 0xcdc 1 0x2)
    ∷ resumes 1 0x7f38010
    ∷ does 0 (Out 0xcdc 1 0x10)
    ∷ does 1 (Store 0x9f010 1 0x1)
    ∷ does 0 (Out 0xb2 1 0x4)
    ∷ takes_smi 1
    ∷ takes_smi 0
    ∷ does_at 1 0x7f38000 (Store 0x7f00001 1 0x1)
    ∷ does_at 0 0x7f28000 (Store 0x7f04000 1 0x1)
    ∷ reads_at 1 0x7f38004 (Load 0x7f02001 1) 0
    ∷ does_at 0 0x7f28004 (Store 0x7f01001 1 0)
    ∷ reads_at 1 0x7f38008 (Load 0x7f01001 1) 0
    ∷ does_at 0 0x7f28008 (Icr 0 0xc0200)
    ∷ does_at 1 0x7f38000 (Store 0x7f00001 1 0x1)
    ∷ reads_at 0 0x7f2800c (Load 0x7f00001 1) 0x1
    ∷ reads_at 1 0x7f38004 (Load 0x7f02001 1) 0
    ∷ reads_at 0 0x7f28010 (In 0xb2 1) 0x4
    ∷ reads_at 1 0x7f38008 (Load 0x7f01001 1) 0
    ∷ does_at 0 0x7f28014 (Out 0xcd8 4 0)
    ∷ does_at 1 0x7f38000 (Store 0x7f00001 1 0x1)
    ∷ does_at 0 0x7f28018 (Out 0xcdd 1 0)
    ∷ reads_at 1 0x7f38004 (Load 0x7f02001 1) 0
    ∷ reads_at 0 0x7f2801c (In 0xce0 4) 0x1
    ∷ reads_at 1 0x7f38008 (Load 0x7f01001 1) 0
    ∷ reads_at 0 0x7f28020 (In 0xcdc 1) 0x11
    ∷ does_at 1 0x7f38000 (Store 0x7f00001 1 0x1)
    ∷ does_at 0 0x7f28024 (Out 0xcdd 1 0x3)
    ∷ reads_at 1 0x7f38004 (Load 0x7f02001 1) 0
    ∷ reads_at 0 0x7f28028 (In 0xce0 4) 0x1
    ∷ reads_at 1 0x7f38008 (Load 0x7f01001 1) 0
    ∷ does_at 0 0x7f28014 (Out 0xcd8 4 0x2)
    ∷ does_at 1 0x7f38000 (Store 0x7f00001 1 0x1)
    ∷ does_at 0 0x7f28018 (Out 0xcdd 1 0)
    ∷ reads_at 1 0x7f38004 (Load 0x7f02001 1) 0
    ∷ reads_at 0 0x7f2801c (In 0xce0 4) 0x1
    ∷ reads_at 1 0x7f38008 (Load 0x7f01001 1) 0
    ∷ does_at 0 0x7f28064 (Store 0x7f03001 1 0)
    ∷ does_at 1 0x7f38000 (Store 0x7f00001 1 0x1)
    ∷ does_at 0 0x7f28068 (Store 0x7f02001 1 0x1)
    ∷ reads_at 1 0x7f38004 (Load 0x7f02001 1) 0x1
    ∷ reads_at 0 0x7f2806c (Load 0x7f03001 1) 0
    ∷ does_at 1 0x7f38014 (Store 0x7f03001 1 0x1)
    ∷ reads_at 0 0x7f2806c (Load 0x7f03001 1) 0x1
    ∷ reads_at 1 0x7f38004 (Load 0x7f02001 1) 0x1
    ∷ does_at 0 0x7f28074 (Out 0xcd8 4 0x1)
    ∷ does_at 1 0x7f38014 (Store 0x7f03001 1 0x1)
    ∷ does_at 0 0x7f28078 (Out 0xcdc 1 0x8)
    ∷ does_at 0 0x7f2807c (Store 0x7f00001 1 0)
    ∷ does_at 0 0x7f28080 (Store 0x7f02001 1 0)
    ∷ does_at 0 0x7f28084 (Store 0x7f03001 1 0)
    ∷ tells 0x7f28088 (Ejected 1 1 1)
    ∷ does_at 0 0x7f2808c (Store 0x7f04000 1 0)
    ∷ does_at 0 0x7f28090 (Store 0x7f01001 1 0x1)
    ∷ resumes 0 0x7f28094
    ∷ does 0 (Out 0xb2 1 0x4)
    ∷ takes_smi 0
    ∷ does_at 0 0x7f28000 (Store 0x7f04000 1 0x1)
    ∷ does_at 0 0x7f28004 (Store 0x7f01001 1 0)
    ∷ does_at 0 0x7f28008 (Icr 0 0xc0200)
    ∷ reads_at 0 0x7f28010 (In 0xb2 1) 0x4
    ∷ does_at 0 0x7f28014 (Out 0xcd8 4 0)
    ∷ does_at 0 0x7f28018 (Out 0xcdd 1 0)
    ∷ reads_at 0 0x7f2801c (In 0xce0 4) 0
    ∷ reads_at 0 0x7f28020 (In 0xcdc 1) 0x1
    ∷ inserts 2
    ∷ does_at 0 0x7f28014 (Out 0xcd8 4 0x1)
    ∷ does_at 0 0x7f28018 (Out 0xcdd 1 0)
    ∷ reads_at 0 0x7f2801c (In 0xce0 4) 0x2
    ∷ reads_at 0 0x7f28020 (In 0xcdc 1) 0x3
    ∷ does_at 0 0x7f28024 (Out 0xcdd 1 0x3)
    ∷ reads_at 0 0x7f28028 (In 0xce0 4) 0x2
    ∷ does_at 0 0x7f2802c (Store 0x7f01001 1 0)
    ∷ does_at 0 0x7f28030 (Store 0x7f00001 1 0)
    ∷ does_at 0 0x7f28034 (Store 0x3000c 1 0)
    ∷ does_at 0 0x7f28038 (Store 0x30008 4 0x7f30000)
    ∷ does_at 0 0x7f2803c (Icr 0x2000000 0x200)
    ∷ does_at 0 0x7f28040 (Icr 0x2000000 0x500)
    ∷ does_at 0 0x7f28044 (Icr 0x2000000 0x69f)
    ∷ takes_smi 2
    ∷ does_at 0 0x7f28048 (Icr 0x2000000 0x69f)
    ∷ waits 2
    ∷ does_at 0 0x7f2804c (Store 0x30000 8 0x2)
    ∷ reads_at 2 0x38000 (Swap 0x30000 0x2 0xffffffffffffffff) 0x2
    ∷ reads_at 0 0x7f28050 (Load 0x3000c 1) 0
    ∷ reads_at 2 0x38004 (Load 0x30008 4) 0x7f30000
    ∷ reads_at 0 0x7f28054 (Load 0x7f00001 1) 0
    ∷ does_at 2 0x38008 (Store 0x3ff00 4 0x7f30000)
    ∷ reads_at 0 0x7f28050 (Load 0x3000c 1) 0
    ∷ does_at 2 0x3800c (Store 0x3000c 1 0x1)
    ∷ reads_at 0 0x7f28054 (Load 0x7f00001 1) 0
    ∷ does_at 2 0x38010 (Icr 0x2000000 0x200)
    ∷ reads_at 0 0x7f28050 (Load 0x3000c 1) 0x1
    ∷ resumes 2 0x38014
    ∷ does_at 0 0x7f28058 (Store 0x30000 8 0xffffffffffffffff)
    ∷ takes_smi 2
    ∷ does_at 0 0x7f2805c (Store 0x7f00001 1 0)
    ∷ does_at 2 0x7f38000 (Store 0x7f00001 1 0x1)
    ∷ reads_at 0 0x7f28060 (Load 0x7f00001 1) 0x1
    ∷ reads_at 2 0x7f38004 (Load 0x7f02001 1) 0
    ∷ tells 0x7f28088 (Added 2 2 1)
    ∷ reads_at 2 0x7f38008 (Load 0x7f01001 1) 0
    ∷ does_at 0 0x7f2808c (Store 0x7f04000 1 0)
    ∷ does_at 2 0x7f38000 (Store 0x7f00001 1 0x1)
    ∷ does_at 0 0x7f28090 (Store 0x7f01001 1 0x1)
    ∷ reads_at 2 0x7f38004 (Load 0x7f02001 1) 0
    ∷ resumes 0 0x7f28094
    ∷ reads_at 2 0x7f38008 (Load 0x7f01001 1) 0x1
    ∷ does 0 Halt
    ∷ does_at 2 0x7f3800c (Store 0x7f00001 1 0)
    ∷ resumes 2 0x7f38010
    ∷ does 2 (Store 0x9f010 1 0x1)
    ∷ does 2 Halt
    ∷ [])

-- A processor that has arrived and left again is ejected, though it never told that it parked.
unfoldable pub ejected_outside : List Entry
ejected_outside =
    boot ++
    (does 0 (Out 0xcd8 4 0x1)
    ∷ does 1 Halt
    ∷ does 0 (Out 0xcdc 1 0x10)
    ∷ does 0 (Out 0xb2 1 0x4)
    ∷ takes_smi 1
    ∷ does_at 1 0x7f38000 (Store 0x7f00001 1 0x1)
    ∷ takes_smi 0
    ∷ reads_at 1 0x7f38004 (Load 0x7f02001 1) 0
    ∷ does_at 0 0x7f28000 (Store 0x7f04000 1 0x1)
    ∷ reads_at 1 0x7f38008 (Load 0x7f01001 1) 0x1
    ∷ does_at 0 0x7f28004 (Store 0x7f01001 1 0)
    ∷ does_at 0 0x7f28008 (Icr 0 0xc0200)
    ∷ reads_at 0 0x7f2800c (Load 0x7f00001 1) 0x1
    ∷ reads_at 0 0x7f28010 (In 0xb2 1) 0x4
    ∷ does_at 0 0x7f28014 (Out 0xcd8 4 0)
    ∷ does_at 0 0x7f28018 (Out 0xcdd 1 0)
    ∷ reads_at 0 0x7f2801c (In 0xce0 4) 0x1
    ∷ reads_at 0 0x7f28020 (In 0xcdc 1) 0x11
    ∷ does_at 0 0x7f28024 (Out 0xcdd 1 0x3)
    ∷ reads_at 0 0x7f28028 (In 0xce0 4) 0x1
    ∷ does_at 0 0x7f28064 (Store 0x7f03001 1 0)
    ∷ does_at 1 0x7f3800c (Store 0x7f00001 1 0)
    ∷ does_at 0 0x7f28068 (Store 0x7f02001 1 0x1)
    ∷ resumes 1 0x7f38010
    ∷ reads_at 0 0x7f2806c (Load 0x7f03001 1) 0
    ∷ reads_at 0 0x7f2806c (Load 0x7f03001 1) 0
    ∷ reads_at 0 0x7f2806c (Load 0x7f03001 1) 0
    ∷ reads_at 0 0x7f2806c (Load 0x7f03001 1) 0
    ∷ reads_at 0 0x7f2806c (Load 0x7f03001 1) 0
    ∷ reads_at 0 0x7f2806c (Load 0x7f03001 1) 0
    ∷ reads_at 0 0x7f2806c (Load 0x7f03001 1) 0
    ∷ reads_at 0 0x7f2806c (Load 0x7f03001 1) 0
    ∷ does_at 0 0x7f28074 (Out 0xcd8 4 0x1)
    ∷ does_at 0 0x7f28078 (Out 0xcdc 1 0x8)
    ∷ does_at 0 0x7f2807c (Store 0x7f00001 1 0)
    ∷ does_at 0 0x7f28080 (Store 0x7f02001 1 0)
    ∷ does_at 0 0x7f28084 (Store 0x7f03001 1 0)
    ∷ tells 0x7f28088 (Ejected 1 1 1)
    ∷ does_at 0 0x7f2808c (Store 0x7f04000 1 0)
    ∷ does_at 0 0x7f28090 (Store 0x7f01001 1 0x1)
    ∷ resumes 0 0x7f28094
    ∷ does 0 Halt
    ∷ [])

-- The session calls all others in before it clears their release bytes, so that one comes and leaves at once.
unfoldable pub called_in_before_release : List Entry
called_in_before_release =
    boot ++
    (does 0 (Out 0xb2 1 0x5)
    ∷ takes_smi 0
    ∷ does_at 0 0x7f28000 (Store 0x7f04000 1 0x1)
    ∷ does_at 0 0x7f28008 (Icr 0 0xc0200)
    ∷ takes_smi 1
    ∷ does_at 1 0x7f38000 (Store 0x7f00001 1 0x1)
    ∷ reads_at 1 0x7f38004 (Load 0x7f02001 1) 0
    ∷ reads_at 1 0x7f38008 (Load 0x7f01001 1) 0x1
    ∷ does_at 1 0x7f3800c (Store 0x7f00001 1 0)
    ∷ resumes 1 0x7f38010
    ∷ does 1 Halt
    ∷ does_at 0 0x7f28004 (Store 0x7f01001 1 0)
    ∷ reads_at 0 0x7f2800c (Load 0x7f00001 1) 0
    ∷ reads_at 0 0x7f2800c (Load 0x7f00001 1) 0
    ∷ reads_at 0 0x7f2800c (Load 0x7f00001 1) 0
    ∷ reads_at 0 0x7f2800c (Load 0x7f00001 1) 0
    ∷ reads_at 0 0x7f2800c (Load 0x7f00001 1) 0
    ∷ reads_at 0 0x7f2800c (Load 0x7f00001 1) 0
    ∷ reads_at 0 0x7f2800c (Load 0x7f00001 1) 0
    ∷ reads_at 0 0x7f2800c (Load 0x7f00001 1) 0
    ∷ reads_at 0 0x7f28010 (In 0xb2 1) 0x5
    ∷ does_at 0 0x7f2808c (Store 0x7f04000 1 0)
    ∷ does_at 0 0x7f28090 (Store 0x7f01001 1 0x1)
    ∷ resumes 0 0x7f28094
    ∷ does 0 Halt
    ∷ [])

-- The collection goes on where it began anew, and reports a processor twice.
unfoldable pub collected_past_the_end : List Entry
collected_past_the_end =
    boot ++
    (inserts 1
    ∷ does 0 (Out 0xb2 1 0x4)
    ∷ takes_smi 0
    ∷ does_at 0 0x7f28000 (Store 0x7f04000 1 0x1)
    ∷ does_at 0 0x7f28008 (Icr 0 0xc0200)
    ∷ reads_at 0 0x7f28010 (In 0xb2 1) 0x4
    ∷ does_at 0 0x7f28014 (Out 0xcd8 4 0)
    ∷ does_at 0 0x7f28018 (Out 0xcdd 1 0)
    ∷ reads_at 0 0x7f2801c (In 0xce0 4) 0x1
    ∷ reads_at 0 0x7f28020 (In 0xcdc 1) 0x3
    ∷ does_at 0 0x7f28024 (Out 0xcdd 1 0x3)
    ∷ reads_at 0 0x7f28028 (In 0xce0 4) 0x1
    ∷ does_at 0 0x7f28014 (Out 0xcd8 4 0x2)
    ∷ does_at 0 0x7f28018 (Out 0xcdd 1 0)
    ∷ reads_at 0 0x7f2801c (In 0xce0 4) 0x1
    ∷ reads_at 0 0x7f28020 (In 0xcdc 1) 0x3
    ∷ does_at 0 0x7f28024 (Out 0xcdd 1 0x3)
    ∷ reads_at 0 0x7f28028 (In 0xce0 4) 0x1
    ∷ does_at 0 0x7f28014 (Out 0xcd8 4 0x2)
    ∷ does_at 0 0x7f28018 (Out 0xcdd 1 0)
    ∷ reads_at 0 0x7f2801c (In 0xce0 4) 0x1
    ∷ does_at 0 0x7f2802c (Store 0x7f01001 1 0)
    ∷ does_at 0 0x7f28030 (Store 0x7f00001 1 0)
    ∷ does_at 0 0x7f28034 (Store 0x3000c 1 0)
    ∷ does_at 0 0x7f28038 (Store 0x30008 4 0x7f30000)
    ∷ does_at 0 0x7f2803c (Icr 0x1000000 0x200)
    ∷ does_at 0 0x7f28040 (Icr 0x1000000 0x500)
    ∷ does_at 0 0x7f28044 (Icr 0x1000000 0x69f)
    ∷ takes_smi 1
    ∷ does_at 0 0x7f28048 (Icr 0x1000000 0x69f)
    ∷ waits 1
    ∷ does_at 0 0x7f2804c (Store 0x30000 8 0x1)
    ∷ reads_at 1 0x38000 (Swap 0x30000 0x1 0xffffffffffffffff) 0x1
    ∷ reads_at 0 0x7f28050 (Load 0x3000c 1) 0
    ∷ reads_at 1 0x38004 (Load 0x30008 4) 0x7f30000
    ∷ reads_at 0 0x7f28054 (Load 0x7f00001 1) 0
    ∷ does_at 1 0x38008 (Store 0x3ff00 4 0x7f30000)
    ∷ reads_at 0 0x7f28050 (Load 0x3000c 1) 0
    ∷ does_at 1 0x3800c (Store 0x3000c 1 0x1)
    ∷ reads_at 0 0x7f28054 (Load 0x7f00001 1) 0
    ∷ does_at 1 0x38010 (Icr 0x1000000 0x200)
    ∷ reads_at 0 0x7f28050 (Load 0x3000c 1) 0x1
    ∷ resumes 1 0x38014
    ∷ does_at 0 0x7f28058 (Store 0x30000 8 0xffffffffffffffff)
    ∷ takes_smi 1
    ∷ does_at 0 0x7f2805c (Store 0x7f00001 1 0)
    ∷ does_at 1 0x7f38000 (Store 0x7f00001 1 0x1)
    ∷ reads_at 0 0x7f28060 (Load 0x7f00001 1) 0x1
    ∷ reads_at 1 0x7f38004 (Load 0x7f02001 1) 0
    ∷ tells 0x7f28088 (Added 1 1 1)
    ∷ reads_at 1 0x7f38008 (Load 0x7f01001 1) 0
    ∷ tells 0x7f28088 (Refused (AlreadyKnown 1 1 1))
    ∷ does_at 1 0x7f38000 (Store 0x7f00001 1 0x1)
    ∷ does_at 0 0x7f2808c (Store 0x7f04000 1 0)
    ∷ reads_at 1 0x7f38004 (Load 0x7f02001 1) 0
    ∷ does_at 0 0x7f28090 (Store 0x7f01001 1 0x1)
    ∷ reads_at 1 0x7f38008 (Load 0x7f01001 1) 0x1
    ∷ resumes 0 0x7f28094
    ∷ does_at 1 0x7f3800c (Store 0x7f00001 1 0)
    ∷ does 0 (Out 0xcd8 4 0x1)
    ∷ resumes 1 0x7f38010
    ∷ does 0 (Out 0xcdc 1 0x2)
    ∷ does 1 (Store 0x9f010 1 0x1)
    ∷ does 0 Halt
    ∷ does 1 Halt
    ∷ [])
