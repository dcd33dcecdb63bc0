-- An add that another new processor spoils once, entry by entry, and the same with one thing changed.
use Rattle.std.specs.Prelude.{List, [], ◌∷◌, ◌++◌}
use Rattle.hp_model.specs.declared.accesses.Access.TheVariants.{Load, Store, Swap, In, Out, Icr, Halt}
use Rattle.hp_model.specs.declared.outcomes.Outcome.TheVariants.{Added}
use Rattle.hp_model.specs.declared.entries.Entry.{Entry}
use Rattle.hp_worked.specs.Entries.{does, does_at, reads_at, takes_smi, takes_init, resumes, inserts, tells, waits, with_entry}
use Rattle.hp_worked.specs.Traces.{boot}

-- Processors 1 and 2 are inserted, and the event of processor 2 is cleared, so that the monarch adds processor 1 alone. But
-- processor 2 has been started, and takes its SMI at the default SMBASE too, when processor 1 has stored its new SMBASE there:
-- SMI entry stores the old one over it, and processor 1 leaves with that. It shows in the looks at its arrived byte, and the
-- second attempt succeeds. Processor 2, whom nobody adds, waits at the gate.
unfoldable pub two_new_processors : List Entry
two_new_processors =
    boot ++
    (inserts 1
    ∷ inserts 2
    ∷ does 0 (Out 0xcd8 4 0x2)
    ∷ does 0 (Out 0xcdc 1 0x2)
    ∷ does 0 (Icr 0x2000000 0x610)
    ∷ does 2 Halt
    ∷ does 0 (Out 0xb2 1 0x4)
    ∷ takes_smi 0
    ∷ does_at 0 0x7f28000 (Store 0x7f04000 1 0x1)
    ∷ does_at 0 0x7f28008 (Icr 0 0xc0200)
    ∷ reads_at 0 0x7f28010 (In 0xb2 1) 0x4
    ∷ does_at 0 0x7f28014 (Out 0xcd8 4 0)
    ∷ does_at 0 0x7f28018 (Out 0xcdd 1 0)
    ∷ reads_at 0 0x7f2801c (In 0xce0 4) 0x1
    ∷ reads_at 0 0x7f28020 (In 0xcdc 1) 0x3
    ∷ does_at 0 0x7f28024 (Out 0xcdd 1 0x3)
    ∷ reads_at 0 0x7f28028 (In 0xce0 4) 0x1
    ∷ does_at 0 0x7f28014 (Out 0xcd8 4 0x2)
    ∷ does_at 0 0x7f28018 (Out 0xcdd 1 0)
    ∷ reads_at 0 0x7f2801c (In 0xce0 4) 0x1
    ∷ does_at 0 0x7f2802c (Store 0x7f01001 1 0)
    ∷ does_at 0 0x7f28030 (Store 0x7f00001 1 0)
    ∷ does_at 0 0x7f28034 (Store 0x3000c 1 0)
    ∷ does_at 0 0x7f28038 (Store 0x30008 4 0x7f30000)
    ∷ does_at 0 0x7f2803c (Icr 0x1000000 0x200)
    ∷ does_at 0 0x7f28040 (Icr 0x1000000 0x500)
    ∷ does_at 0 0x7f28044 (Icr 0x1000000 0x69f)
    ∷ takes_smi 1
    ∷ does_at 0 0x7f28048 (Icr 0x1000000 0x69f) ∷ waits 1
    ∷ does_at 0 0x7f2804c (Store 0x30000 8 0x1)
    ∷ reads_at 1 0x38000 (Swap 0x30000 0x1 0xffffffffffffffff) 0x1
    ∷ reads_at 0 0x7f28050 (Load 0x3000c 1) 0
    ∷ reads_at 1 0x38004 (Load 0x30008 4) 0x7f30000
    ∷ reads_at 0 0x7f28054 (Load 0x7f00001 1) 0
    ∷ does_at 1 0x38008 (Store 0x3ff00 4 0x7f30000)
    ∷ reads_at 0 0x7f28050 (Load 0x3000c 1) 0
    ∷ does_at 1 0x3800c (Store 0x3000c 1 0x1)
    ∷ takes_smi 2
    ∷ reads_at 0 0x7f28054 (Load 0x7f00001 1) 0
    ∷ does_at 1 0x38010 (Icr 0x1000000 0x200) ∷ waits 2
    ∷ reads_at 0 0x7f28050 (Load 0x3000c 1) 0x1
    ∷ resumes 1 0x38014 ∷ waits 2
    ∷ does_at 0 0x7f28058 (Store 0x30000 8 0xffffffffffffffff)
    ∷ takes_smi 1 ∷ waits 2
    ∷ does_at 0 0x7f2805c (Store 0x7f00001 1 0) ∷ waits 1 ∷ waits 2
    ∷ reads_at 0 0x7f28060 (Load 0x7f00001 1) 0 ∷ waits 1 ∷ waits 2
    ∷ reads_at 0 0x7f28060 (Load 0x7f00001 1) 0 ∷ waits 1 ∷ waits 2
    ∷ reads_at 0 0x7f28060 (Load 0x7f00001 1) 0 ∷ waits 1 ∷ waits 2
    ∷ reads_at 0 0x7f28060 (Load 0x7f00001 1) 0 ∷ waits 1 ∷ waits 2
    ∷ reads_at 0 0x7f28060 (Load 0x7f00001 1) 0 ∷ waits 1 ∷ waits 2
    ∷ reads_at 0 0x7f28060 (Load 0x7f00001 1) 0 ∷ waits 1 ∷ waits 2
    ∷ reads_at 0 0x7f28060 (Load 0x7f00001 1) 0 ∷ waits 1 ∷ waits 2
    ∷ reads_at 0 0x7f28060 (Load 0x7f00001 1) 0 ∷ waits 1 ∷ waits 2
    ∷ does_at 0 0x7f28030 (Store 0x7f00001 1 0) ∷ waits 1 ∷ waits 2
    ∷ does_at 0 0x7f28034 (Store 0x3000c 1 0) ∷ waits 1 ∷ waits 2
    ∷ does_at 0 0x7f28038 (Store 0x30008 4 0x7f30000) ∷ waits 1 ∷ waits 2
    ∷ does_at 0 0x7f2803c (Icr 0x1000000 0x200) ∷ waits 1 ∷ waits 2
    ∷ does_at 0 0x7f28040 (Icr 0x1000000 0x500) ∷ waits 1 ∷ waits 2
    ∷ does_at 0 0x7f28044 (Icr 0x1000000 0x69f) ∷ waits 1 ∷ waits 2
    ∷ does_at 0 0x7f28048 (Icr 0x1000000 0x69f) ∷ waits 1 ∷ waits 2
    ∷ does_at 0 0x7f2804c (Store 0x30000 8 0x1)
    ∷ reads_at 1 0x38000 (Swap 0x30000 0x1 0xffffffffffffffff) 0x1 ∷ waits 2
    ∷ reads_at 0 0x7f28050 (Load 0x3000c 1) 0
    ∷ reads_at 1 0x38004 (Load 0x30008 4) 0x7f30000 ∷ waits 2
    ∷ reads_at 0 0x7f28054 (Load 0x7f00001 1) 0
    ∷ does_at 1 0x38008 (Store 0x3ff00 4 0x7f30000) ∷ waits 2
    ∷ reads_at 0 0x7f28050 (Load 0x3000c 1) 0
    ∷ does_at 1 0x3800c (Store 0x3000c 1 0x1) ∷ waits 2
    ∷ reads_at 0 0x7f28054 (Load 0x7f00001 1) 0
    ∷ does_at 1 0x38010 (Icr 0x1000000 0x200) ∷ waits 2
    ∷ reads_at 0 0x7f28050 (Load 0x3000c 1) 0x1
    ∷ resumes 1 0x38014 ∷ waits 2
    ∷ does_at 0 0x7f28058 (Store 0x30000 8 0xffffffffffffffff)
    ∷ takes_smi 1 ∷ waits 2
    ∷ does_at 0 0x7f2805c (Store 0x7f00001 1 0)
    ∷ does_at 1 0x7f38000 (Store 0x7f00001 1 0x1) ∷ waits 2
    ∷ reads_at 0 0x7f28060 (Load 0x7f00001 1) 0x1
    ∷ reads_at 1 0x7f38004 (Load 0x7f02001 1) 0 ∷ waits 2
    ∷ tells 0x7f28088 (Added 1 1 1)
    ∷ reads_at 1 0x7f38008 (Load 0x7f01001 1) 0 ∷ waits 2
    ∷ does_at 0 0x7f2808c (Store 0x7f04000 1 0)
    ∷ does_at 1 0x7f38000 (Store 0x7f00001 1 0x1) ∷ waits 2
    ∷ does_at 0 0x7f28090 (Store 0x7f01001 1 0x1)
    ∷ reads_at 1 0x7f38004 (Load 0x7f02001 1) 0 ∷ waits 2
    ∷ resumes 0 0x7f28094
    ∷ reads_at 1 0x7f38008 (Load 0x7f01001 1) 0x1 ∷ waits 2
    ∷ does 0 Halt
    ∷ does_at 1 0x7f3800c (Store 0x7f00001 1 0) ∷ waits 2
    ∷ resumes 1 0x7f38010 ∷ waits 2
    ∷ takes_init 1 ∷ waits 2 ∷ waits 2 ∷ waits 2 ∷ waits 2 ∷ waits 2 ∷ waits 2 ∷ waits 2
    ∷ [])

-- the collection goes on when the search has begun anew, and reports processor 1 twice
abbrev pub reported_twice : List Entry
reported_twice = with_entry 47 (reads_at 0 0x7f28020 (In 0xcdc 1) 0x3) two_new_processors
