-- Two adds in one session, entry by entry.
use Rattle.std.specs.Prelude.{List, [], ◌∷◌, ◌++◌}
use Rattle.hp_model.specs.declared.accesses.Access.TheVariants.{Load, Store, Swap, In, Out, Icr, Halt}
use Rattle.hp_model.specs.declared.outcomes.Outcome.TheVariants.{Added}
use Rattle.hp_model.specs.declared.entries.Entry.{Entry}
use Rattle.hp_worked.specs.Entries.{does, does_at, reads_at, takes_smi, takes_init, resumes, inserts, tells, waits}
use Rattle.hp_worked.specs.Traces.{boot}

-- Processors 1 and 2 are inserted and started, and wait at the gate when the monarch comes. It finds both in one collection and
-- adds one after the other: the gate lets pass the one that it names. Once in its tile each waits until it is released, and
-- then takes the INIT that was sent to it.
unfoldable pub two_adds : List Entry
two_adds =
    boot ++
    (inserts 1
    ∷ inserts 2
    ∷ does 0 (Icr 0x1000000 0x610)
    ∷ does 1 Halt
    ∷ does 0 (Icr 0x2000000 0x610)
    ∷ does 2 Halt
    ∷ does 0 (Out 0xb2 1 0x4)
    ∷ takes_smi 1
    ∷ takes_smi 2
    ∷ takes_smi 0 ∷ waits 1 ∷ waits 2
    ∷ does_at 0 0x7f28000 (Store 0x7f04000 1 0x1) ∷ waits 1 ∷ waits 2
    ∷ does_at 0 0x7f28008 (Icr 0 0xc0200) ∷ waits 1 ∷ waits 2
    ∷ reads_at 0 0x7f28010 (In 0xb2 1) 0x4 ∷ waits 1 ∷ waits 2
    ∷ does_at 0 0x7f28014 (Out 0xcd8 4 0) ∷ waits 1 ∷ waits 2
    ∷ does_at 0 0x7f28018 (Out 0xcdd 1 0) ∷ waits 1 ∷ waits 2
    ∷ reads_at 0 0x7f2801c (In 0xce0 4) 0x1 ∷ waits 1 ∷ waits 2
    ∷ reads_at 0 0x7f28020 (In 0xcdc 1) 0x3 ∷ waits 1 ∷ waits 2
    ∷ does_at 0 0x7f28024 (Out 0xcdd 1 0x3) ∷ waits 1 ∷ waits 2
    ∷ reads_at 0 0x7f28028 (In 0xce0 4) 0x1 ∷ waits 1 ∷ waits 2
    ∷ does_at 0 0x7f28014 (Out 0xcd8 4 0x2) ∷ waits 1 ∷ waits 2
    ∷ does_at 0 0x7f28018 (Out 0xcdd 1 0) ∷ waits 1 ∷ waits 2
    ∷ reads_at 0 0x7f2801c (In 0xce0 4) 0x2 ∷ waits 1 ∷ waits 2
    ∷ reads_at 0 0x7f28020 (In 0xcdc 1) 0x3 ∷ waits 1 ∷ waits 2
    ∷ does_at 0 0x7f28024 (Out 0xcdd 1 0x3) ∷ waits 1 ∷ waits 2
    ∷ reads_at 0 0x7f28028 (In 0xce0 4) 0x2 ∷ waits 1 ∷ waits 2
    ∷ does_at 0 0x7f2802c (Store 0x7f01001 1 0) ∷ waits 1 ∷ waits 2
    ∷ does_at 0 0x7f28030 (Store 0x7f00001 1 0) ∷ waits 1 ∷ waits 2
    ∷ does_at 0 0x7f28034 (Store 0x3000c 1 0) ∷ waits 1 ∷ waits 2
    ∷ does_at 0 0x7f28038 (Store 0x30008 4 0x7f30000) ∷ waits 1 ∷ waits 2
    ∷ does_at 0 0x7f2803c (Icr 0x1000000 0x200) ∷ waits 1 ∷ waits 2
    ∷ does_at 0 0x7f28040 (Icr 0x1000000 0x500) ∷ waits 1 ∷ waits 2
    ∷ does_at 0 0x7f28044 (Icr 0x1000000 0x69f) ∷ waits 1 ∷ waits 2
    ∷ does_at 0 0x7f28048 (Icr 0x1000000 0x69f) ∷ waits 1 ∷ waits 2
    ∷ does_at 0 0x7f2804c (Store 0x30000 8 0x1)
    ∷ reads_at 1 0x38000 (Swap 0x30000 0x1 0xffffffffffffffff) 0x1 ∷ waits 2
    ∷ reads_at 0 0x7f28050 (Load 0x3000c 1) 0
    ∷ reads_at 1 0x38004 (Load 0x30008 4) 0x7f30000 ∷ waits 2
    ∷ reads_at 0 0x7f28054 (Load 0x7f00001 1) 0
    ∷ does_at 1 0x38008 (Store 0x3ff00 4 0x7f30000) ∷ waits 2
    ∷ reads_at 0 0x7f28050 (Load 0x3000c 1) 0
    ∷ does_at 1 0x3800c (Store 0x3000c 1 0x1) ∷ waits 2
    ∷ reads_at 0 0x7f28054 (Load 0x7f00001 1) 0
    ∷ does_at 1 0x38010 (Icr 0x1000000 0x200) ∷ waits 2
    ∷ reads_at 0 0x7f28050 (Load 0x3000c 1) 0x1
    ∷ resumes 1 0x38014 ∷ waits 2
    ∷ does_at 0 0x7f28058 (Store 0x30000 8 0xffffffffffffffff)
    ∷ takes_smi 1 ∷ waits 2
    ∷ does_at 0 0x7f2805c (Store 0x7f00001 1 0)
    ∷ does_at 1 0x7f38000 (Store 0x7f00001 1 0x1) ∷ waits 2
    ∷ reads_at 0 0x7f28060 (Load 0x7f00001 1) 0x1
    ∷ reads_at 1 0x7f38004 (Load 0x7f02001 1) 0 ∷ waits 2
    ∷ tells 0x7f28088 (Added 1 1 1)
    ∷ reads_at 1 0x7f38008 (Load 0x7f01001 1) 0 ∷ waits 2
    ∷ does_at 0 0x7f2802c (Store 0x7f01002 1 0)
    ∷ does_at 1 0x7f38000 (Store 0x7f00001 1 0x1) ∷ waits 2
    ∷ does_at 0 0x7f28030 (Store 0x7f00002 1 0)
    ∷ reads_at 1 0x7f38004 (Load 0x7f02001 1) 0 ∷ waits 2
    ∷ does_at 0 0x7f28034 (Store 0x3000c 1 0)
    ∷ reads_at 1 0x7f38008 (Load 0x7f01001 1) 0 ∷ waits 2
    ∷ does_at 0 0x7f28038 (Store 0x30008 4 0x7f40000)
    ∷ does_at 1 0x7f38000 (Store 0x7f00001 1 0x1) ∷ waits 2
    ∷ does_at 0 0x7f2803c (Icr 0x2000000 0x200)
    ∷ reads_at 1 0x7f38004 (Load 0x7f02001 1) 0 ∷ waits 2
    ∷ does_at 0 0x7f28040 (Icr 0x2000000 0x500)
    ∷ reads_at 1 0x7f38008 (Load 0x7f01001 1) 0 ∷ waits 2
    ∷ does_at 0 0x7f28044 (Icr 0x2000000 0x69f)
    ∷ does_at 1 0x7f38000 (Store 0x7f00001 1 0x1) ∷ waits 2
    ∷ does_at 0 0x7f28048 (Icr 0x2000000 0x69f)
    ∷ reads_at 1 0x7f38004 (Load 0x7f02001 1) 0 ∷ waits 2
    ∷ does_at 0 0x7f2804c (Store 0x30000 8 0x2)
    ∷ reads_at 1 0x7f38008 (Load 0x7f01001 1) 0
    ∷ reads_at 2 0x38000 (Swap 0x30000 0x2 0xffffffffffffffff) 0x2
    ∷ reads_at 0 0x7f28050 (Load 0x3000c 1) 0
    ∷ does_at 1 0x7f38000 (Store 0x7f00001 1 0x1)
    ∷ reads_at 2 0x38004 (Load 0x30008 4) 0x7f40000
    ∷ reads_at 0 0x7f28054 (Load 0x7f00002 1) 0
    ∷ reads_at 1 0x7f38004 (Load 0x7f02001 1) 0
    ∷ does_at 2 0x38008 (Store 0x3ff00 4 0x7f40000)
    ∷ reads_at 0 0x7f28050 (Load 0x3000c 1) 0
    ∷ reads_at 1 0x7f38008 (Load 0x7f01001 1) 0
    ∷ does_at 2 0x3800c (Store 0x3000c 1 0x1)
    ∷ reads_at 0 0x7f28054 (Load 0x7f00002 1) 0
    ∷ does_at 1 0x7f38000 (Store 0x7f00001 1 0x1)
    ∷ does_at 2 0x38010 (Icr 0x2000000 0x200)
    ∷ reads_at 0 0x7f28050 (Load 0x3000c 1) 0x1
    ∷ reads_at 1 0x7f38004 (Load 0x7f02001 1) 0
    ∷ resumes 2 0x38014
    ∷ does_at 0 0x7f28058 (Store 0x30000 8 0xffffffffffffffff)
    ∷ reads_at 1 0x7f38008 (Load 0x7f01001 1) 0
    ∷ takes_smi 2
    ∷ does_at 0 0x7f2805c (Store 0x7f00002 1 0)
    ∷ does_at 1 0x7f38000 (Store 0x7f00001 1 0x1)
    ∷ does_at 2 0x7f48000 (Store 0x7f00002 1 0x1)
    ∷ reads_at 0 0x7f28060 (Load 0x7f00002 1) 0x1
    ∷ reads_at 1 0x7f38004 (Load 0x7f02001 1) 0
    ∷ reads_at 2 0x7f48004 (Load 0x7f02002 1) 0
    ∷ tells 0x7f28088 (Added 2 2 2)
    ∷ reads_at 1 0x7f38008 (Load 0x7f01001 1) 0
    ∷ reads_at 2 0x7f48008 (Load 0x7f01002 1) 0
    ∷ does_at 0 0x7f2808c (Store 0x7f04000 1 0)
    ∷ does_at 1 0x7f38000 (Store 0x7f00001 1 0x1)
    ∷ does_at 2 0x7f48000 (Store 0x7f00002 1 0x1)
    ∷ does_at 0 0x7f28090 (Store 0x7f01001 1 0x1)
    ∷ reads_at 1 0x7f38004 (Load 0x7f02001 1) 0
    ∷ reads_at 2 0x7f48004 (Load 0x7f02002 1) 0
    ∷ does_at 0 0x7f28090 (Store 0x7f01002 1 0x1)
    ∷ reads_at 1 0x7f38008 (Load 0x7f01001 1) 0x1
    ∷ reads_at 2 0x7f48008 (Load 0x7f01002 1) 0x1
    ∷ resumes 0 0x7f28094
    ∷ does_at 1 0x7f3800c (Store 0x7f00001 1 0)
    ∷ does_at 2 0x7f4800c (Store 0x7f00002 1 0)
    ∷ does 0 Halt
    ∷ resumes 1 0x7f38010
    ∷ resumes 2 0x7f48010
    ∷ takes_init 1
    ∷ takes_init 2
    ∷ [])
