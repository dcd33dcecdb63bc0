-- An add, an eject and an add again, entry by entry.
use Rattle.std.specs.Prelude.{List, [], ◌∷◌, ◌++◌}
use Rattle.hp_model.specs.declared.accesses.Access.TheVariants.{Load, Store, Swap, In, Out, Icr, Halt}
use Rattle.hp_model.specs.declared.outcomes.Outcome.TheVariants.{Added, Ejected}
use Rattle.hp_model.specs.declared.entries.Entry.{Entry}
use Rattle.hp_worked.specs.Entries.{does, does_at, reads_at, takes_smi, resumes, inserts, tells, waits, without_entry}
use Rattle.hp_worked.specs.Traces.{boot}

-- The eject of an added processor is handed to the firmware: in the next session it parks in its handler and is ejected from there. Inserted anew, it is added in
-- its old slot.
unfoldable pub ejected_and_added_again : List Entry
ejected_and_added_again =
    boot ++
    (inserts 1
    ∷ does 0 (Out 0xb2 1 0x4)
    ∷ takes_smi 0
    ∷ does_at 0 0x7f28000 (Store 0x7f04000 1 0x1)
    ∷ does_at 0 0x7f28008 (Icr 0 0xc0200)
    ∷ reads_at 0 0x7f28010 (In 0xb2 1) 0x4
    ∷ does_at 0 0x7f28014 (Out 0xcd8 4 0)
    ∷ does_at 0 0x7f28018 (Out 0xcdd 1 0)
    ∷ reads_at 0 0x7f2801c (In 0xce0 4) 0x1
    ∷ reads_at 0 0x7f28020 (In 0xcdc 1) 0x3
    ∷ does_at 0 0x7f28024 (Out 0xcdd 1 0x3)
    ∷ reads_at 0 0x7f28028 (In 0xce0 4) 0x1
    ∷ does_at 0 0x7f2802c (Store 0x7f01001 1 0)
    ∷ does_at 0 0x7f28030 (Store 0x7f00001 1 0)
    ∷ does_at 0 0x7f28034 (Store 0x3000c 1 0)
    ∷ does_at 0 0x7f28038 (Store 0x30008 4 0x7f30000)
    ∷ does_at 0 0x7f2803c (Icr 0x1000000 0x200)
    ∷ does_at 0 0x7f28040 (Icr 0x1000000 0x500)
    ∷ does_at 0 0x7f28044 (Icr 0x1000000 0x69f)
    ∷ takes_smi 1
    ∷ does_at 0 0x7f28048 (Icr 0x1000000 0x69f)
    ∷ waits 1
    ∷ does_at 0 0x7f2804c (Store 0x30000 8 0x1)
    ∷ reads_at 1 0x38000 (Swap 0x30000 0x1 0xffffffffffffffff) 0x1
    ∷ reads_at 0 0x7f28050 (Load 0x3000c 1) 0
    ∷ reads_at 1 0x38004 (Load 0x30008 4) 0x7f30000
    ∷ reads_at 0 0x7f28054 (Load 0x7f00001 1) 0
    ∷ does_at 1 0x38008 (Store 0x3ff00 4 0x7f30000)
    ∷ reads_at 0 0x7f28050 (Load 0x3000c 1) 0
    ∷ does_at 1 0x3800c (Store 0x3000c 1 0x1)
    ∷ reads_at 0 0x7f28054 (Load 0x7f00001 1) 0
    ∷ does_at 1 0x38010 (Icr 0x1000000 0x200)
    ∷ reads_at 0 0x7f28050 (Load 0x3000c 1) 0x1
    ∷ resumes 1 0x38014
    ∷ does_at 0 0x7f28058 (Store 0x30000 8 0xffffffffffffffff)
    ∷ takes_smi 1
    ∷ does_at 0 0x7f2805c (Store 0x7f00001 1 0)
    ∷ does_at 1 0x7f38000 (Store 0x7f00001 1 0x1)
    ∷ reads_at 0 0x7f28060 (Load 0x7f00001 1) 0x1
    ∷ reads_at 1 0x7f38004 (Load 0x7f02001 1) 0
    ∷ tells 0x7f28088 (Added 1 1 1)
    ∷ reads_at 1 0x7f38008 (Load 0x7f01001 1) 0
    ∷ does_at 0 0x7f2808c (Store 0x7f04000 1 0)
    ∷ does_at 1 0x7f38000 (Store 0x7f00001 1 0x1)
    ∷ does_at 0 0x7f28090 (Store 0x7f01001 1 0x1)
    ∷ reads_at 1 0x7f38004 (Load 0x7f02001 1) 0
    ∷ resumes 0 0x7f28094
    ∷ reads_at 1 0x7f38008 (Load 0x7f01001 1) 0x1
    ∷ does 0 (Out 0xcd8 4 0x1)
    ∷ does_at 1 0x7f3800c (Store 0x7f00001 1 0)
    ∷ does 0 (Out 0xcdc 1 0x2)
    ∷ resumes 1 0x7f38010
    ∷ does 0 (Out 0xcdc 1 0x10)
    ∷ does 1 (Store 0x9f010 1 0x1)
    ∷ does 0 (Out 0xb2 1 0x4)
    ∷ takes_smi 1
    ∷ takes_smi 0
    ∷ does_at 1 0x7f38000 (Store 0x7f00001 1 0x1)
    ∷ does_at 0 0x7f28000 (Store 0x7f04000 1 0x1)
    ∷ reads_at 1 0x7f38004 (Load 0x7f02001 1) 0
    ∷ does_at 0 0x7f28004 (Store 0x7f01001 1 0)
    ∷ reads_at 1 0x7f38008 (Load 0x7f01001 1) 0
    ∷ does_at 0 0x7f28008 (Icr 0 0xc0200)
    ∷ does_at 1 0x7f38000 (Store 0x7f00001 1 0x1)
    ∷ reads_at 0 0x7f2800c (Load 0x7f00001 1) 0x1
    ∷ reads_at 1 0x7f38004 (Load 0x7f02001 1) 0
    ∷ reads_at 0 0x7f28010 (In 0xb2 1) 0x4
    ∷ reads_at 1 0x7f38008 (Load 0x7f01001 1) 0
    ∷ does_at 0 0x7f28014 (Out 0xcd8 4 0)
    ∷ does_at 1 0x7f38000 (Store 0x7f00001 1 0x1)
    ∷ does_at 0 0x7f28018 (Out 0xcdd 1 0)
    ∷ reads_at 1 0x7f38004 (Load 0x7f02001 1) 0
    ∷ reads_at 0 0x7f2801c (In 0xce0 4) 0x1
    ∷ reads_at 1 0x7f38008 (Load 0x7f01001 1) 0
    ∷ reads_at 0 0x7f28020 (In 0xcdc 1) 0x11
    ∷ does_at 1 0x7f38000 (Store 0x7f00001 1 0x1)
    ∷ does_at 0 0x7f28024 (Out 0xcdd 1 0x3)
    ∷ reads_at 1 0x7f38004 (Load 0x7f02001 1) 0
    ∷ reads_at 0 0x7f28028 (In 0xce0 4) 0x1
    ∷ reads_at 1 0x7f38008 (Load 0x7f01001 1) 0
    ∷ does_at 0 0x7f28064 (Store 0x7f03001 1 0)
    ∷ does_at 1 0x7f38000 (Store 0x7f00001 1 0x1)
    ∷ does_at 0 0x7f28068 (Store 0x7f02001 1 0x1)
    ∷ reads_at 1 0x7f38004 (Load 0x7f02001 1) 0x1
    ∷ reads_at 0 0x7f2806c (Load 0x7f03001 1) 0
    ∷ does_at 1 0x7f38014 (Store 0x7f03001 1 0x1)
    ∷ reads_at 0 0x7f2806c (Load 0x7f03001 1) 0x1
    ∷ reads_at 1 0x7f38004 (Load 0x7f02001 1) 0x1
    ∷ does_at 0 0x7f28074 (Out 0xcd8 4 0x1)
    ∷ does_at 1 0x7f38014 (Store 0x7f03001 1 0x1)
    ∷ does_at 0 0x7f28078 (Out 0xcdc 1 0x8)
    ∷ does_at 0 0x7f2807c (Store 0x7f00001 1 0)
    ∷ does_at 0 0x7f28080 (Store 0x7f02001 1 0)
    ∷ does_at 0 0x7f28084 (Store 0x7f03001 1 0)
    ∷ tells 0x7f28088 (Ejected 1 1 1)
    ∷ does_at 0 0x7f2808c (Store 0x7f04000 1 0)
    ∷ does_at 0 0x7f28090 (Store 0x7f01001 1 0x1)
    ∷ resumes 0 0x7f28094
    ∷ inserts 1
    ∷ does 0 (Out 0xb2 1 0x4)
    ∷ takes_smi 0
    ∷ does_at 0 0x7f28000 (Store 0x7f04000 1 0x1)
    ∷ does_at 0 0x7f28004 (Store 0x7f01001 1 0)
    ∷ does_at 0 0x7f28008 (Icr 0 0xc0200)
    ∷ reads_at 0 0x7f28010 (In 0xb2 1) 0x4
    ∷ does_at 0 0x7f28014 (Out 0xcd8 4 0)
    ∷ does_at 0 0x7f28018 (Out 0xcdd 1 0)
    ∷ reads_at 0 0x7f2801c (In 0xce0 4) 0x1
    ∷ reads_at 0 0x7f28020 (In 0xcdc 1) 0x3
    ∷ does_at 0 0x7f28024 (Out 0xcdd 1 0x3)
    ∷ reads_at 0 0x7f28028 (In 0xce0 4) 0x1
    ∷ does_at 0 0x7f2802c (Store 0x7f01001 1 0)
    ∷ does_at 0 0x7f28030 (Store 0x7f00001 1 0)
    ∷ does_at 0 0x7f28034 (Store 0x3000c 1 0)
    ∷ does_at 0 0x7f28038 (Store 0x30008 4 0x7f30000)
    ∷ does_at 0 0x7f2803c (Icr 0x1000000 0x200)
    ∷ does_at 0 0x7f28040 (Icr 0x1000000 0x500)
    ∷ does_at 0 0x7f28044 (Icr 0x1000000 0x69f)
    ∷ takes_smi 1
    ∷ does_at 0 0x7f28048 (Icr 0x1000000 0x69f)
    ∷ waits 1
    ∷ does_at 0 0x7f2804c (Store 0x30000 8 0x1)
    ∷ reads_at 1 0x38000 (Swap 0x30000 0x1 0xffffffffffffffff) 0x1
    ∷ reads_at 0 0x7f28050 (Load 0x3000c 1) 0
    ∷ reads_at 1 0x38004 (Load 0x30008 4) 0x7f30000
    ∷ reads_at 0 0x7f28054 (Load 0x7f00001 1) 0
    ∷ does_at 1 0x38008 (Store 0x3ff00 4 0x7f30000)
    ∷ reads_at 0 0x7f28050 (Load 0x3000c 1) 0
    ∷ does_at 1 0x3800c (Store 0x3000c 1 0x1)
    ∷ reads_at 0 0x7f28054 (Load 0x7f00001 1) 0
    ∷ does_at 1 0x38010 (Icr 0x1000000 0x200)
    ∷ reads_at 0 0x7f28050 (Load 0x3000c 1) 0x1
    ∷ resumes 1 0x38014
    ∷ does_at 0 0x7f28058 (Store 0x30000 8 0xffffffffffffffff)
    ∷ takes_smi 1
    ∷ does_at 0 0x7f2805c (Store 0x7f00001 1 0)
    ∷ does_at 1 0x7f38000 (Store 0x7f00001 1 0x1)
    ∷ reads_at 0 0x7f28060 (Load 0x7f00001 1) 0x1
    ∷ reads_at 1 0x7f38004 (Load 0x7f02001 1) 0
    ∷ tells 0x7f28088 (Added 1 1 1)
    ∷ reads_at 1 0x7f38008 (Load 0x7f01001 1) 0
    ∷ does_at 0 0x7f2808c (Store 0x7f04000 1 0)
    ∷ does_at 1 0x7f38000 (Store 0x7f00001 1 0x1)
    ∷ does_at 0 0x7f28090 (Store 0x7f01001 1 0x1)
    ∷ reads_at 1 0x7f38004 (Load 0x7f02001 1) 0
    ∷ resumes 0 0x7f28094
    ∷ reads_at 1 0x7f38008 (Load 0x7f01001 1) 0x1
    ∷ does 0 Halt
    ∷ does_at 1 0x7f3800c (Store 0x7f00001 1 0)
    ∷ resumes 1 0x7f38010
    ∷ does 1 Halt
    ∷ [])

-- the eject is told before its parked byte is cleared
abbrev pub told_too_early : List Entry
told_too_early = without_entry 120 ejected_and_added_again

-- the eject is begun at the register block without a look that found the processor parked
abbrev pub ejected_unparked : List Entry
ejected_unparked = without_entry 113 ejected_and_added_again
