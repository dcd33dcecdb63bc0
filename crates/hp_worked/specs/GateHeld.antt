-- An add that fails and holds the gate, and is completed in the next session, entry by entry, and the same with one thing changed.
use Rattle.std.specs.Prelude.{List, [], ◌∷◌, ◌++◌}
use Rattle.hp_model.specs.declared.accesses.Access.TheVariants.{Load, Store, Swap, In, Out, Icr, Halt}
use Rattle.hp_model.specs.declared.outcomes.Outcome.TheVariants.{Added, Refused}
use Rattle.hp_model.specs.declared.outcomes.Refusal.TheVariants.{GateHeld, NotCheckedIn}
use Rattle.hp_model.specs.declared.entries.Entry.{Entry}
use Rattle.hp_worked.specs.Entries.{does, does_at, reads_at, takes_smi, takes_init, resumes, inserts, tells, waits, with_entry}
use Rattle.hp_worked.specs.Traces.{boot}

-- Processors 1 to 4 are inserted, and the events of 3 and 4 are cleared. In each of its three attempts the add of processor 1 is
-- spoiled, by the SMI entries of processors 2, 3 and 4 one after the other: each stores the old SMBASE over the new one. So the
-- add is refused, and its APIC ID stays held: no other may be added, and processor 2 is refused for that. In the next session
-- all of them stand at the gate, both adds succeed, and processors 3 and 4 wait on.
unfoldable pub gate_held : List Entry
gate_held =
    boot ++
    (inserts 1
    ∷ inserts 2
    ∷ inserts 3
    ∷ inserts 4
    ∷ does 0 (Out 0xcd8 4 0x3)
    ∷ does 0 (Out 0xcdc 1 0x2)
    ∷ does 0 (Out 0xcd8 4 0x4)
    ∷ does 0 (Out 0xcdc 1 0x2)
    ∷ does 0 (Icr 0x2000000 0x610)
    ∷ does 2 Halt
    ∷ does 0 (Icr 0x3000000 0x610)
    ∷ does 3 Halt
    ∷ does 0 (Icr 0x4000000 0x610)
    ∷ does 4 Halt
    ∷ does 0 (Out 0xb2 1 0x4)
    ∷ takes_smi 0
    ∷ does_at 0 0x7f28000 (Store 0x7f04000 1 0x1)
    ∷ does_at 0 0x7f28008 (Icr 0 0xc0200)
    ∷ reads_at 0 0x7f28010 (In 0xb2 1) 0x4
    ∷ does_at 0 0x7f28014 (Out 0xcd8 4 0)
    ∷ does_at 0 0x7f28018 (Out 0xcdd 1 0)
    ∷ reads_at 0 0x7f2801c (In 0xce0 4) 0x1
    ∷ reads_at 0 0x7f28020 (In 0xcdc 1) 0x3
    ∷ does_at 0 0x7f28024 (Out 0xcdd 1 0x3)
    ∷ reads_at 0 0x7f28028 (In 0xce0 4) 0x1
    ∷ does_at 0 0x7f28014 (Out 0xcd8 4 0x2)
    ∷ does_at 0 0x7f28018 (Out 0xcdd 1 0)
    ∷ reads_at 0 0x7f2801c (In 0xce0 4) 0x2
    ∷ reads_at 0 0x7f28020 (In 0xcdc 1) 0x3
    ∷ does_at 0 0x7f28024 (Out 0xcdd 1 0x3)
    ∷ reads_at 0 0x7f28028 (In 0xce0 4) 0x2
    ∷ does_at 0 0x7f28014 (Out 0xcd8 4 0x3)
    ∷ does_at 0 0x7f28018 (Out 0xcdd 1 0)
    ∷ reads_at 0 0x7f2801c (In 0xce0 4) 0x1
    ∷ does_at 0 0x7f2802c (Store 0x7f01001 1 0)
    ∷ does_at 0 0x7f28030 (Store 0x7f00001 1 0)
    ∷ does_at 0 0x7f28034 (Store 0x3000c 1 0)
    ∷ does_at 0 0x7f28038 (Store 0x30008 4 0x7f30000)
    ∷ does_at 0 0x7f2803c (Icr 0x1000000 0x200)
    ∷ does_at 0 0x7f28040 (Icr 0x1000000 0x500)
    ∷ does_at 0 0x7f28044 (Icr 0x1000000 0x69f)
    ∷ takes_smi 1
    ∷ does_at 0 0x7f28048 (Icr 0x1000000 0x69f) ∷ waits 1
    ∷ does_at 0 0x7f2804c (Store 0x30000 8 0x1)
    ∷ reads_at 1 0x38000 (Swap 0x30000 0x1 0xffffffffffffffff) 0x1
    ∷ reads_at 0 0x7f28050 (Load 0x3000c 1) 0
    ∷ reads_at 1 0x38004 (Load 0x30008 4) 0x7f30000
    ∷ reads_at 0 0x7f28054 (Load 0x7f00001 1) 0
    ∷ does_at 1 0x38008 (Store 0x3ff00 4 0x7f30000)
    ∷ reads_at 0 0x7f28050 (Load 0x3000c 1) 0
    ∷ does_at 1 0x3800c (Store 0x3000c 1 0x1)
    ∷ takes_smi 2
    ∷ reads_at 0 0x7f28054 (Load 0x7f00001 1) 0
    ∷ does_at 1 0x38010 (Icr 0x1000000 0x200) ∷ waits 2
    ∷ reads_at 0 0x7f28050 (Load 0x3000c 1) 0x1
    ∷ resumes 1 0x38014 ∷ waits 2
    ∷ does_at 0 0x7f28058 (Store 0x30000 8 0xffffffffffffffff)
    ∷ takes_smi 1 ∷ waits 2
    ∷ does_at 0 0x7f2805c (Store 0x7f00001 1 0) ∷ waits 1 ∷ waits 2
    ∷ reads_at 0 0x7f28060 (Load 0x7f00001 1) 0 ∷ waits 1 ∷ waits 2
    ∷ reads_at 0 0x7f28060 (Load 0x7f00001 1) 0 ∷ waits 1 ∷ waits 2
    ∷ reads_at 0 0x7f28060 (Load 0x7f00001 1) 0 ∷ waits 1 ∷ waits 2
    ∷ reads_at 0 0x7f28060 (Load 0x7f00001 1) 0 ∷ waits 1 ∷ waits 2
    ∷ reads_at 0 0x7f28060 (Load 0x7f00001 1) 0 ∷ waits 1 ∷ waits 2
    ∷ reads_at 0 0x7f28060 (Load 0x7f00001 1) 0 ∷ waits 1 ∷ waits 2
    ∷ reads_at 0 0x7f28060 (Load 0x7f00001 1) 0 ∷ waits 1 ∷ waits 2
    ∷ reads_at 0 0x7f28060 (Load 0x7f00001 1) 0 ∷ waits 1 ∷ waits 2
    ∷ does_at 0 0x7f28030 (Store 0x7f00001 1 0) ∷ waits 1 ∷ waits 2
    ∷ does_at 0 0x7f28034 (Store 0x3000c 1 0) ∷ waits 1 ∷ waits 2
    ∷ does_at 0 0x7f28038 (Store 0x30008 4 0x7f30000) ∷ waits 1 ∷ waits 2
    ∷ does_at 0 0x7f2803c (Icr 0x1000000 0x200) ∷ waits 1 ∷ waits 2
    ∷ does_at 0 0x7f28040 (Icr 0x1000000 0x500) ∷ waits 1 ∷ waits 2
    ∷ does_at 0 0x7f28044 (Icr 0x1000000 0x69f) ∷ waits 1 ∷ waits 2
    ∷ does_at 0 0x7f28048 (Icr 0x1000000 0x69f) ∷ waits 1 ∷ waits 2
    ∷ does_at 0 0x7f2804c (Store 0x30000 8 0x1)
    ∷ reads_at 1 0x38000 (Swap 0x30000 0x1 0xffffffffffffffff) 0x1 ∷ waits 2
    ∷ reads_at 0 0x7f28050 (Load 0x3000c 1) 0
    ∷ reads_at 1 0x38004 (Load 0x30008 4) 0x7f30000 ∷ waits 2
    ∷ reads_at 0 0x7f28054 (Load 0x7f00001 1) 0
    ∷ does_at 1 0x38008 (Store 0x3ff00 4 0x7f30000) ∷ waits 2
    ∷ reads_at 0 0x7f28050 (Load 0x3000c 1) 0
    ∷ does_at 1 0x3800c (Store 0x3000c 1 0x1) ∷ waits 2
    ∷ takes_smi 3
    ∷ reads_at 0 0x7f28054 (Load 0x7f00001 1) 0
    ∷ does_at 1 0x38010 (Icr 0x1000000 0x200) ∷ waits 2 ∷ waits 3
    ∷ reads_at 0 0x7f28050 (Load 0x3000c 1) 0x1
    ∷ resumes 1 0x38014 ∷ waits 2 ∷ waits 3
    ∷ does_at 0 0x7f28058 (Store 0x30000 8 0xffffffffffffffff)
    ∷ takes_smi 1 ∷ waits 2 ∷ waits 3
    ∷ does_at 0 0x7f2805c (Store 0x7f00001 1 0) ∷ waits 1 ∷ waits 2 ∷ waits 3
    ∷ reads_at 0 0x7f28060 (Load 0x7f00001 1) 0 ∷ waits 1 ∷ waits 2 ∷ waits 3
    ∷ reads_at 0 0x7f28060 (Load 0x7f00001 1) 0 ∷ waits 1 ∷ waits 2 ∷ waits 3
    ∷ reads_at 0 0x7f28060 (Load 0x7f00001 1) 0 ∷ waits 1 ∷ waits 2 ∷ waits 3
    ∷ reads_at 0 0x7f28060 (Load 0x7f00001 1) 0 ∷ waits 1 ∷ waits 2 ∷ waits 3
    ∷ reads_at 0 0x7f28060 (Load 0x7f00001 1) 0 ∷ waits 1 ∷ waits 2 ∷ waits 3
    ∷ reads_at 0 0x7f28060 (Load 0x7f00001 1) 0 ∷ waits 1 ∷ waits 2 ∷ waits 3
    ∷ reads_at 0 0x7f28060 (Load 0x7f00001 1) 0 ∷ waits 1 ∷ waits 2 ∷ waits 3
    ∷ reads_at 0 0x7f28060 (Load 0x7f00001 1) 0 ∷ waits 1 ∷ waits 2 ∷ waits 3
    ∷ does_at 0 0x7f28030 (Store 0x7f00001 1 0) ∷ waits 1 ∷ waits 2 ∷ waits 3
    ∷ does_at 0 0x7f28034 (Store 0x3000c 1 0) ∷ waits 1 ∷ waits 2 ∷ waits 3
    ∷ does_at 0 0x7f28038 (Store 0x30008 4 0x7f30000) ∷ waits 1 ∷ waits 2 ∷ waits 3
    ∷ does_at 0 0x7f2803c (Icr 0x1000000 0x200) ∷ waits 1 ∷ waits 2 ∷ waits 3
    ∷ does_at 0 0x7f28040 (Icr 0x1000000 0x500) ∷ waits 1 ∷ waits 2 ∷ waits 3
    ∷ does_at 0 0x7f28044 (Icr 0x1000000 0x69f) ∷ waits 1 ∷ waits 2 ∷ waits 3
    ∷ does_at 0 0x7f28048 (Icr 0x1000000 0x69f) ∷ waits 1 ∷ waits 2 ∷ waits 3
    ∷ does_at 0 0x7f2804c (Store 0x30000 8 0x1)
    ∷ reads_at 1 0x38000 (Swap 0x30000 0x1 0xffffffffffffffff) 0x1 ∷ waits 2 ∷ waits 3
    ∷ reads_at 0 0x7f28050 (Load 0x3000c 1) 0
    ∷ reads_at 1 0x38004 (Load 0x30008 4) 0x7f30000 ∷ waits 2 ∷ waits 3
    ∷ reads_at 0 0x7f28054 (Load 0x7f00001 1) 0
    ∷ does_at 1 0x38008 (Store 0x3ff00 4 0x7f30000) ∷ waits 2 ∷ waits 3
    ∷ reads_at 0 0x7f28050 (Load 0x3000c 1) 0
    ∷ does_at 1 0x3800c (Store 0x3000c 1 0x1) ∷ waits 2 ∷ waits 3
    ∷ takes_smi 4
    ∷ reads_at 0 0x7f28054 (Load 0x7f00001 1) 0
    ∷ does_at 1 0x38010 (Icr 0x1000000 0x200) ∷ waits 2 ∷ waits 3 ∷ waits 4
    ∷ reads_at 0 0x7f28050 (Load 0x3000c 1) 0x1
    ∷ resumes 1 0x38014 ∷ waits 2 ∷ waits 3 ∷ waits 4
    ∷ does_at 0 0x7f28058 (Store 0x30000 8 0xffffffffffffffff)
    ∷ takes_smi 1 ∷ waits 2 ∷ waits 3 ∷ waits 4
    ∷ does_at 0 0x7f2805c (Store 0x7f00001 1 0) ∷ waits 1 ∷ waits 2 ∷ waits 3 ∷ waits 4
    ∷ reads_at 0 0x7f28060 (Load 0x7f00001 1) 0 ∷ waits 1 ∷ waits 2 ∷ waits 3 ∷ waits 4
    ∷ reads_at 0 0x7f28060 (Load 0x7f00001 1) 0 ∷ waits 1 ∷ waits 2 ∷ waits 3 ∷ waits 4
    ∷ reads_at 0 0x7f28060 (Load 0x7f00001 1) 0 ∷ waits 1 ∷ waits 2 ∷ waits 3 ∷ waits 4
    ∷ reads_at 0 0x7f28060 (Load 0x7f00001 1) 0 ∷ waits 1 ∷ waits 2 ∷ waits 3 ∷ waits 4
    ∷ reads_at 0 0x7f28060 (Load 0x7f00001 1) 0 ∷ waits 1 ∷ waits 2 ∷ waits 3 ∷ waits 4
    ∷ reads_at 0 0x7f28060 (Load 0x7f00001 1) 0 ∷ waits 1 ∷ waits 2 ∷ waits 3 ∷ waits 4
    ∷ reads_at 0 0x7f28060 (Load 0x7f00001 1) 0 ∷ waits 1 ∷ waits 2 ∷ waits 3 ∷ waits 4
    ∷ reads_at 0 0x7f28060 (Load 0x7f00001 1) 0 ∷ waits 1 ∷ waits 2 ∷ waits 3 ∷ waits 4
    ∷ tells 0x7f28088 (Refused (NotCheckedIn 1 1)) ∷ waits 1 ∷ waits 2 ∷ waits 3 ∷ waits 4
    ∷ tells 0x7f28088 (Refused (GateHeld 2 2 1)) ∷ waits 1 ∷ waits 2 ∷ waits 3 ∷ waits 4
    ∷ does_at 0 0x7f2808c (Store 0x7f04000 1 0) ∷ waits 1 ∷ waits 2 ∷ waits 3 ∷ waits 4
    ∷ does_at 0 0x7f28090 (Store 0x7f01001 1 0x1) ∷ waits 1 ∷ waits 2 ∷ waits 3 ∷ waits 4
    ∷ resumes 0 0x7f28094 ∷ waits 1 ∷ waits 2 ∷ waits 3 ∷ waits 4
    ∷ does 0 (Out 0xb2 1 0x4) ∷ waits 1 ∷ waits 2 ∷ waits 3 ∷ waits 4
    ∷ takes_smi 0 ∷ waits 1 ∷ waits 2 ∷ waits 3 ∷ waits 4
    ∷ does_at 0 0x7f28000 (Store 0x7f04000 1 0x1) ∷ waits 1 ∷ waits 2 ∷ waits 3 ∷ waits 4
    ∷ does_at 0 0x7f28004 (Store 0x7f01001 1 0) ∷ waits 1 ∷ waits 2 ∷ waits 3 ∷ waits 4
    ∷ does_at 0 0x7f28008 (Icr 0 0xc0200) ∷ waits 1 ∷ waits 2 ∷ waits 3 ∷ waits 4
    ∷ reads_at 0 0x7f28010 (In 0xb2 1) 0x4 ∷ waits 1 ∷ waits 2 ∷ waits 3 ∷ waits 4
    ∷ does_at 0 0x7f28014 (Out 0xcd8 4 0) ∷ waits 1 ∷ waits 2 ∷ waits 3 ∷ waits 4
    ∷ does_at 0 0x7f28018 (Out 0xcdd 1 0) ∷ waits 1 ∷ waits 2 ∷ waits 3 ∷ waits 4
    ∷ reads_at 0 0x7f2801c (In 0xce0 4) 0x1 ∷ waits 1 ∷ waits 2 ∷ waits 3 ∷ waits 4
    ∷ reads_at 0 0x7f28020 (In 0xcdc 1) 0x3 ∷ waits 1 ∷ waits 2 ∷ waits 3 ∷ waits 4
    ∷ does_at 0 0x7f28024 (Out 0xcdd 1 0x3) ∷ waits 1 ∷ waits 2 ∷ waits 3 ∷ waits 4
    ∷ reads_at 0 0x7f28028 (In 0xce0 4) 0x1 ∷ waits 1 ∷ waits 2 ∷ waits 3 ∷ waits 4
    ∷ does_at 0 0x7f28014 (Out 0xcd8 4 0x2) ∷ waits 1 ∷ waits 2 ∷ waits 3 ∷ waits 4
    ∷ does_at 0 0x7f28018 (Out 0xcdd 1 0) ∷ waits 1 ∷ waits 2 ∷ waits 3 ∷ waits 4
    ∷ reads_at 0 0x7f2801c (In 0xce0 4) 0x2 ∷ waits 1 ∷ waits 2 ∷ waits 3 ∷ waits 4
    ∷ reads_at 0 0x7f28020 (In 0xcdc 1) 0x3 ∷ waits 1 ∷ waits 2 ∷ waits 3 ∷ waits 4
    ∷ does_at 0 0x7f28024 (Out 0xcdd 1 0x3) ∷ waits 1 ∷ waits 2 ∷ waits 3 ∷ waits 4
    ∷ reads_at 0 0x7f28028 (In 0xce0 4) 0x2 ∷ waits 1 ∷ waits 2 ∷ waits 3 ∷ waits 4
    ∷ does_at 0 0x7f28014 (Out 0xcd8 4 0x3) ∷ waits 1 ∷ waits 2 ∷ waits 3 ∷ waits 4
    ∷ does_at 0 0x7f28018 (Out 0xcdd 1 0) ∷ waits 1 ∷ waits 2 ∷ waits 3 ∷ waits 4
    ∷ reads_at 0 0x7f2801c (In 0xce0 4) 0x1 ∷ waits 1 ∷ waits 2 ∷ waits 3 ∷ waits 4
    ∷ does_at 0 0x7f2802c (Store 0x7f01001 1 0) ∷ waits 1 ∷ waits 2 ∷ waits 3 ∷ waits 4
    ∷ does_at 0 0x7f28030 (Store 0x7f00001 1 0) ∷ waits 1 ∷ waits 2 ∷ waits 3 ∷ waits 4
    ∷ does_at 0 0x7f28034 (Store 0x3000c 1 0) ∷ waits 1 ∷ waits 2 ∷ waits 3 ∷ waits 4
    ∷ does_at 0 0x7f28038 (Store 0x30008 4 0x7f30000) ∷ waits 1 ∷ waits 2 ∷ waits 3 ∷ waits 4
    ∷ does_at 0 0x7f2803c (Icr 0x1000000 0x200) ∷ waits 1 ∷ waits 2 ∷ waits 3 ∷ waits 4
    ∷ does_at 0 0x7f28040 (Icr 0x1000000 0x500) ∷ waits 1 ∷ waits 2 ∷ waits 3 ∷ waits 4
    ∷ does_at 0 0x7f28044 (Icr 0x1000000 0x69f) ∷ waits 1 ∷ waits 2 ∷ waits 3 ∷ waits 4
    ∷ does_at 0 0x7f28048 (Icr 0x1000000 0x69f) ∷ waits 1 ∷ waits 2 ∷ waits 3 ∷ waits 4
    ∷ does_at 0 0x7f2804c (Store 0x30000 8 0x1)
    ∷ reads_at 1 0x38000 (Swap 0x30000 0x1 0xffffffffffffffff) 0x1 ∷ waits 2 ∷ waits 3 ∷ waits 4
    ∷ reads_at 0 0x7f28050 (Load 0x3000c 1) 0
    ∷ reads_at 1 0x38004 (Load 0x30008 4) 0x7f30000 ∷ waits 2 ∷ waits 3 ∷ waits 4
    ∷ reads_at 0 0x7f28054 (Load 0x7f00001 1) 0
    ∷ does_at 1 0x38008 (Store 0x3ff00 4 0x7f30000) ∷ waits 2 ∷ waits 3 ∷ waits 4
    ∷ reads_at 0 0x7f28050 (Load 0x3000c 1) 0
    ∷ does_at 1 0x3800c (Store 0x3000c 1 0x1) ∷ waits 2 ∷ waits 3 ∷ waits 4
    ∷ reads_at 0 0x7f28054 (Load 0x7f00001 1) 0
    ∷ does_at 1 0x38010 (Icr 0x1000000 0x200) ∷ waits 2 ∷ waits 3 ∷ waits 4
    ∷ reads_at 0 0x7f28050 (Load 0x3000c 1) 0x1
    ∷ resumes 1 0x38014 ∷ waits 2 ∷ waits 3 ∷ waits 4
    ∷ does_at 0 0x7f28058 (Store 0x30000 8 0xffffffffffffffff)
    ∷ takes_smi 1 ∷ waits 2 ∷ waits 3 ∷ waits 4
    ∷ does_at 0 0x7f2805c (Store 0x7f00001 1 0)
    ∷ does_at 1 0x7f38000 (Store 0x7f00001 1 0x1) ∷ waits 2 ∷ waits 3 ∷ waits 4
    ∷ reads_at 0 0x7f28060 (Load 0x7f00001 1) 0x1
    ∷ reads_at 1 0x7f38004 (Load 0x7f02001 1) 0 ∷ waits 2 ∷ waits 3 ∷ waits 4
    ∷ tells 0x7f28088 (Added 1 1 1)
    ∷ reads_at 1 0x7f38008 (Load 0x7f01001 1) 0 ∷ waits 2 ∷ waits 3 ∷ waits 4
    ∷ does_at 0 0x7f2802c (Store 0x7f01002 1 0)
    ∷ does_at 1 0x7f38000 (Store 0x7f00001 1 0x1) ∷ waits 2 ∷ waits 3 ∷ waits 4
    ∷ does_at 0 0x7f28030 (Store 0x7f00002 1 0)
    ∷ reads_at 1 0x7f38004 (Load 0x7f02001 1) 0 ∷ waits 2 ∷ waits 3 ∷ waits 4
    ∷ does_at 0 0x7f28034 (Store 0x3000c 1 0)
    ∷ reads_at 1 0x7f38008 (Load 0x7f01001 1) 0 ∷ waits 2 ∷ waits 3 ∷ waits 4
    ∷ does_at 0 0x7f28038 (Store 0x30008 4 0x7f40000)
    ∷ does_at 1 0x7f38000 (Store 0x7f00001 1 0x1) ∷ waits 2 ∷ waits 3 ∷ waits 4
    ∷ does_at 0 0x7f2803c (Icr 0x2000000 0x200)
    ∷ reads_at 1 0x7f38004 (Load 0x7f02001 1) 0 ∷ waits 2 ∷ waits 3 ∷ waits 4
    ∷ does_at 0 0x7f28040 (Icr 0x2000000 0x500)
    ∷ reads_at 1 0x7f38008 (Load 0x7f01001 1) 0 ∷ waits 2 ∷ waits 3 ∷ waits 4
    ∷ does_at 0 0x7f28044 (Icr 0x2000000 0x69f)
    ∷ does_at 1 0x7f38000 (Store 0x7f00001 1 0x1) ∷ waits 2 ∷ waits 3 ∷ waits 4
    ∷ does_at 0 0x7f28048 (Icr 0x2000000 0x69f)
    ∷ reads_at 1 0x7f38004 (Load 0x7f02001 1) 0 ∷ waits 2 ∷ waits 3 ∷ waits 4
    ∷ does_at 0 0x7f2804c (Store 0x30000 8 0x2)
    ∷ reads_at 1 0x7f38008 (Load 0x7f01001 1) 0
    ∷ reads_at 2 0x38000 (Swap 0x30000 0x2 0xffffffffffffffff) 0x2 ∷ waits 3 ∷ waits 4
    ∷ reads_at 0 0x7f28050 (Load 0x3000c 1) 0
    ∷ does_at 1 0x7f38000 (Store 0x7f00001 1 0x1)
    ∷ reads_at 2 0x38004 (Load 0x30008 4) 0x7f40000 ∷ waits 3 ∷ waits 4
    ∷ reads_at 0 0x7f28054 (Load 0x7f00002 1) 0
    ∷ reads_at 1 0x7f38004 (Load 0x7f02001 1) 0
    ∷ does_at 2 0x38008 (Store 0x3ff00 4 0x7f40000) ∷ waits 3 ∷ waits 4
    ∷ reads_at 0 0x7f28050 (Load 0x3000c 1) 0
    ∷ reads_at 1 0x7f38008 (Load 0x7f01001 1) 0
    ∷ does_at 2 0x3800c (Store 0x3000c 1 0x1) ∷ waits 3 ∷ waits 4
    ∷ reads_at 0 0x7f28054 (Load 0x7f00002 1) 0
    ∷ does_at 1 0x7f38000 (Store 0x7f00001 1 0x1)
    ∷ does_at 2 0x38010 (Icr 0x2000000 0x200) ∷ waits 3 ∷ waits 4
    ∷ reads_at 0 0x7f28050 (Load 0x3000c 1) 0x1
    ∷ reads_at 1 0x7f38004 (Load 0x7f02001 1) 0
    ∷ resumes 2 0x38014 ∷ waits 3 ∷ waits 4
    ∷ does_at 0 0x7f28058 (Store 0x30000 8 0xffffffffffffffff)
    ∷ reads_at 1 0x7f38008 (Load 0x7f01001 1) 0
    ∷ takes_smi 2 ∷ waits 3 ∷ waits 4
    ∷ does_at 0 0x7f2805c (Store 0x7f00002 1 0)
    ∷ does_at 1 0x7f38000 (Store 0x7f00001 1 0x1)
    ∷ does_at 2 0x7f48000 (Store 0x7f00002 1 0x1) ∷ waits 3 ∷ waits 4
    ∷ reads_at 0 0x7f28060 (Load 0x7f00002 1) 0x1
    ∷ reads_at 1 0x7f38004 (Load 0x7f02001 1) 0
    ∷ reads_at 2 0x7f48004 (Load 0x7f02002 1) 0 ∷ waits 3 ∷ waits 4
    ∷ tells 0x7f28088 (Added 2 2 2)
    ∷ reads_at 1 0x7f38008 (Load 0x7f01001 1) 0
    ∷ reads_at 2 0x7f48008 (Load 0x7f01002 1) 0 ∷ waits 3 ∷ waits 4
    ∷ does_at 0 0x7f2808c (Store 0x7f04000 1 0)
    ∷ does_at 1 0x7f38000 (Store 0x7f00001 1 0x1)
    ∷ does_at 2 0x7f48000 (Store 0x7f00002 1 0x1) ∷ waits 3 ∷ waits 4
    ∷ does_at 0 0x7f28090 (Store 0x7f01001 1 0x1)
    ∷ reads_at 1 0x7f38004 (Load 0x7f02001 1) 0
    ∷ reads_at 2 0x7f48004 (Load 0x7f02002 1) 0 ∷ waits 3 ∷ waits 4
    ∷ does_at 0 0x7f28090 (Store 0x7f01002 1 0x1)
    ∷ reads_at 1 0x7f38008 (Load 0x7f01001 1) 0x1
    ∷ reads_at 2 0x7f48008 (Load 0x7f01002 1) 0x1 ∷ waits 3 ∷ waits 4
    ∷ resumes 0 0x7f28094
    ∷ does_at 1 0x7f3800c (Store 0x7f00001 1 0)
    ∷ does_at 2 0x7f4800c (Store 0x7f00002 1 0) ∷ waits 3 ∷ waits 4
    ∷ does 0 Halt
    ∷ resumes 1 0x7f38010
    ∷ resumes 2 0x7f48010 ∷ waits 3 ∷ waits 4
    ∷ takes_init 1
    ∷ takes_init 2 ∷ waits 3 ∷ waits 4 ∷ waits 3 ∷ waits 4 ∷ waits 3 ∷ waits 4 ∷ waits 3 ∷ waits 4 ∷ waits 3 ∷ waits 4
    ∷ waits 3 ∷ waits 4
    ∷ [])

-- processor 2 is added while the APIC ID of processor 1 is held
abbrev pub added_while_held : List Entry
added_while_held = with_entry 308 (does_at 0 0x7f2802c (Store 0x7f01002 1 0)) gate_held
