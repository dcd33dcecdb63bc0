-- Traces of firmware that does one thing wrong: each begins as a worked trace, and goes on as the machine then records it. No trace is a run.
use Rattle.std.specs.Prelude.{List, [], ◌∷◌, ◌++◌, take}
use Rattle.hp_model.specs.declared.accesses.Access.TheVariants.{Load, Store, Swap, In, Out, Icr, Halt}
use Rattle.hp_model.specs.declared.outcomes.Outcome.TheVariants.{Added, Refused}
use Rattle.hp_model.specs.declared.outcomes.Refusal.TheVariants.{NotAtGate, NotParked, Foreign}
use Rattle.hp_model.specs.declared.entries.Entry.{Entry}
use Rattle.hp_worked.specs.Entries.{does, does_at, reads_at, takes_smi, takes_init, resumes, tells, waits}
use Rattle.hp_worked.specs.Adds.{an_add}
use Rattle.hp_worked.specs.RefusedAdds.{insert_and_eject, not_at_gate}
use Rattle.hp_worked.specs.RefusedEjects.{not_parked}
use Rattle.hp_worked.specs.TwoAdds.{two_adds}
use Rattle.hp_worked.specs.TwoNewProcessors.{two_new_processors}
use Rattle.hp_worked.specs.Wide.{wide_add}

-- The first handler goes on whatever it finds in the gate: the processor that is to come passes it before it is opened.
unfoldable pub passed_the_closed_gate : List Entry
passed_the_closed_gate =
    take 50 an_add ++
    (reads_at 1 0x38004 (Load 0x30008 4) 0x7f30000
    ∷ reads_at 0 0x7f28050 (Load 0x3000c 1) 0
    ∷ does_at 1 0x38008 (Store 0x3ff00 4 0x7f30000)
    ∷ reads_at 0 0x7f28054 (Load 0x7f00001 1) 0
    ∷ does_at 1 0x3800c (Store 0x3000c 1 0x1)
    ∷ reads_at 0 0x7f28050 (Load 0x3000c 1) 0x1
    ∷ does_at 1 0x38010 (Icr 0x1000000 0x200)
    ∷ does_at 0 0x7f28058 (Store 0x30000 8 0xffffffffffffffff)
    ∷ resumes 1 0x38014
    ∷ does_at 0 0x7f2805c (Store 0x7f00001 1 0)
    ∷ takes_smi 1
    ∷ reads_at 0 0x7f28060 (Load 0x7f00001 1) 0
    ∷ does_at 1 0x7f38000 (Store 0x7f00001 1 0x1)
    ∷ reads_at 0 0x7f28060 (Load 0x7f00001 1) 0x1
    ∷ reads_at 1 0x7f38004 (Load 0x7f02001 1) 0
    ∷ tells 0x7f28088 (Added 1 1 1)
    ∷ reads_at 1 0x7f38008 (Load 0x7f01001 1) 0
    ∷ does_at 0 0x7f2808c (Store 0x7f04000 1 0)
    ∷ does_at 1 0x7f38000 (Store 0x7f00001 1 0x1)
    ∷ does_at 0 0x7f28090 (Store 0x7f01001 1 0x1)
    ∷ reads_at 1 0x7f38004 (Load 0x7f02001 1) 0
    ∷ resumes 0 0x7f28094
    ∷ reads_at 1 0x7f38008 (Load 0x7f01001 1) 0x1
    ∷ does 0 (Out 0xcd8 4 0x1)
    ∷ does_at 1 0x7f3800c (Store 0x7f00001 1 0)
    ∷ does 0 (Out 0xcdc 1 0x2)
    ∷ resumes 1 0x7f38010
    ∷ does 0 Halt
    ∷ does 1 (Store 0x9f010 1 0x1)
    ∷ does 1 Halt
    ∷ [])

-- The same firmware: the processor comes while the gate is open for it, and passes once the monarch has closed it.
unfoldable pub passed_once_it_was_shut : List Entry
passed_once_it_was_shut =
    take 52 not_at_gate ++
    (takes_smi 1
    ∷ does_at 0 0x7f28058 (Store 0x30000 8 0xffffffffffffffff)
    ∷ waits 1
    ∷ does_at 0 0x7f28030 (Store 0x7f00001 1 0)
    ∷ reads_at 1 0x38004 (Load 0x30008 4) 0x7f30000
    ∷ does_at 0 0x7f28034 (Store 0x3000c 1 0)
    ∷ does_at 1 0x38008 (Store 0x3ff00 4 0x7f30000)
    ∷ does_at 0 0x7f28038 (Store 0x30008 4 0x7f30000)
    ∷ does_at 1 0x3800c (Store 0x3000c 1 0x1)
    ∷ does_at 0 0x7f2803c (Icr 0x1000000 0x200)
    ∷ does_at 1 0x38010 (Icr 0x1000000 0x200)
    ∷ does_at 0 0x7f28040 (Icr 0x1000000 0x500)
    ∷ resumes 1 0x38014
    ∷ does_at 0 0x7f28044 (Icr 0x1000000 0x69f)
    ∷ takes_smi 1
    ∷ does_at 0 0x7f28048 (Icr 0x1000000 0x69f)
    ∷ does_at 1 0x7f38000 (Store 0x7f00001 1 0x1)
    ∷ [])

-- The first handler stores no flag, and its RSM stands a cell earlier.
unfoldable pub left_a_cell_early : List Entry
left_a_cell_early =
    take 56 an_add ++
    (does_at 1 0x3800c (Icr 0x1000000 0x200)
    ∷ reads_at 0 0x7f28054 (Load 0x7f00001 1) 0
    ∷ resumes 1 0x38010
    ∷ reads_at 0 0x7f28050 (Load 0x3000c 1) 0
    ∷ takes_smi 1
    ∷ reads_at 0 0x7f28054 (Load 0x7f00001 1) 0
    ∷ does_at 1 0x7f38000 (Store 0x7f00001 1 0x1)
    ∷ reads_at 0 0x7f28050 (Load 0x3000c 1) 0
    ∷ reads_at 1 0x7f38004 (Load 0x7f02001 1) 0
    ∷ reads_at 0 0x7f28054 (Load 0x7f00001 1) 0x1
    ∷ reads_at 1 0x7f38008 (Load 0x7f01001 1) 0
    ∷ does_at 0 0x7f28058 (Store 0x30000 8 0xffffffffffffffff)
    ∷ does_at 1 0x7f38000 (Store 0x7f00001 1 0x1)
    ∷ does_at 0 0x7f2805c (Store 0x7f00001 1 0)
    ∷ reads_at 1 0x7f38004 (Load 0x7f02001 1) 0
    ∷ reads_at 0 0x7f28060 (Load 0x7f00001 1) 0
    ∷ reads_at 1 0x7f38008 (Load 0x7f01001 1) 0
    ∷ reads_at 0 0x7f28060 (Load 0x7f00001 1) 0
    ∷ does_at 1 0x7f38000 (Store 0x7f00001 1 0x1)
    ∷ reads_at 0 0x7f28060 (Load 0x7f00001 1) 0x1
    ∷ reads_at 1 0x7f38004 (Load 0x7f02001 1) 0
    ∷ tells 0x7f28088 (Added 1 1 1)
    ∷ reads_at 1 0x7f38008 (Load 0x7f01001 1) 0
    ∷ does_at 0 0x7f2808c (Store 0x7f04000 1 0)
    ∷ does_at 1 0x7f38000 (Store 0x7f00001 1 0x1)
    ∷ does_at 0 0x7f28090 (Store 0x7f01001 1 0x1)
    ∷ reads_at 1 0x7f38004 (Load 0x7f02001 1) 0
    ∷ [])

-- The same firmware, and a second new processor that nobody has called in: it takes the SMBASE that the first one has got.
unfoldable pub passed_for_another : List Entry
passed_for_another =
    take 58 two_new_processors ++
    (reads_at 1 0x38004 (Load 0x30008 4) 0x7f30000
    ∷ reads_at 0 0x7f28050 (Load 0x3000c 1) 0
    ∷ does_at 1 0x38008 (Store 0x3ff00 4 0x7f30000)
    ∷ reads_at 0 0x7f28054 (Load 0x7f00001 1) 0
    ∷ does_at 1 0x3800c (Store 0x3000c 1 0x1)
    ∷ reads_at 0 0x7f28050 (Load 0x3000c 1) 0x1
    ∷ does_at 1 0x38010 (Icr 0x1000000 0x200)
    ∷ does_at 0 0x7f28058 (Store 0x30000 8 0xffffffffffffffff)
    ∷ resumes 1 0x38014
    ∷ does_at 0 0x7f2805c (Store 0x7f00001 1 0)
    ∷ takes_smi 1
    ∷ reads_at 0 0x7f28060 (Load 0x7f00001 1) 0
    ∷ does_at 1 0x7f38000 (Store 0x7f00001 1 0x1)
    ∷ reads_at 0 0x7f28060 (Load 0x7f00001 1) 0x1
    ∷ reads_at 1 0x7f38004 (Load 0x7f02001 1) 0
    ∷ tells 0x7f28088 (Added 1 1 1)
    ∷ reads_at 1 0x7f38008 (Load 0x7f01001 1) 0
    ∷ takes_smi 2
    ∷ does_at 0 0x7f2808c (Store 0x7f04000 1 0)
    ∷ does_at 1 0x7f38000 (Store 0x7f00001 1 0x1)
    ∷ waits 2
    ∷ does_at 0 0x7f28090 (Store 0x7f01001 1 0x1)
    ∷ reads_at 1 0x7f38004 (Load 0x7f02001 1) 0
    ∷ reads_at 2 0x38004 (Load 0x30008 4) 0x7f30000
    ∷ resumes 0 0x7f28094
    ∷ reads_at 1 0x7f38008 (Load 0x7f01001 1) 0x1
    ∷ does_at 2 0x38008 (Store 0x3ff00 4 0x7f30000)
    ∷ does 0 Halt
    ∷ does_at 1 0x7f3800c (Store 0x7f00001 1 0)
    ∷ does_at 2 0x3800c (Store 0x3000c 1 0x1)
    ∷ resumes 1 0x7f38010
    ∷ does_at 2 0x38010 (Icr 0x2000000 0x200)
    ∷ does 1 (Store 0x9f010 1 0x1)
    ∷ resumes 2 0x38014
    ∷ does 1 Halt
    ∷ takes_smi 2
    ∷ does_at 2 0x7f38000 (Store 0x7f00001 1 0x1)
    ∷ reads_at 2 0x7f38004 (Load 0x7f02001 1) 0
    ∷ reads_at 2 0x7f38008 (Load 0x7f01001 1) 0x1
    ∷ does_at 2 0x7f3800c (Store 0x7f00001 1 0)
    ∷ resumes 2 0x7f38010
    ∷ does 2 Halt
    ∷ [])

-- An add is told once the flag is 1, and its processor takes its SMBASE only after that.
unfoldable pub added_before_its_rsm : List Entry
added_before_its_rsm =
    take 58 an_add ++
    (reads_at 0 0x7f28050 (Load 0x3000c 1) 0x1
    ∷ tells 0x7f28088 (Added 1 1 1)
    ∷ does_at 0 0x7f2808c (Store 0x7f04000 1 0)
    ∷ does_at 1 0x38010 (Icr 0x1000000 0x200)
    ∷ does_at 0 0x7f28090 (Store 0x7f01001 1 0x1)
    ∷ resumes 1 0x38014
    ∷ resumes 0 0x7f28094
    ∷ takes_smi 1
    ∷ does 0 (Out 0xcd8 4 0x1)
    ∷ does_at 1 0x7f38000 (Store 0x7f00001 1 0x1)
    ∷ does 0 (Out 0xcdc 1 0x2)
    ∷ reads_at 1 0x7f38004 (Load 0x7f02001 1) 0
    ∷ does 0 Halt
    ∷ reads_at 1 0x7f38008 (Load 0x7f01001 1) 0x1
    ∷ does_at 1 0x7f3800c (Store 0x7f00001 1 0)
    ∷ resumes 1 0x7f38010
    ∷ does 1 (Store 0x9f010 1 0x1)
    ∷ does 1 Halt
    ∷ [])

-- The session ends after the first outcome, and the second report has none.
unfoldable pub report_left_unanswered : List Entry
report_left_unanswered =
    take 138 two_adds ++
    (does_at 0 0x7f2808c (Store 0x7f04000 1 0)
    ∷ does_at 1 0x7f38000 (Store 0x7f00001 1 0x1)
    ∷ waits 2
    ∷ does_at 0 0x7f28090 (Store 0x7f01001 1 0x1)
    ∷ reads_at 1 0x7f38004 (Load 0x7f02001 1) 0
    ∷ waits 2
    ∷ resumes 0 0x7f28094
    ∷ reads_at 1 0x7f38008 (Load 0x7f01001 1) 0x1
    ∷ waits 2
    ∷ does 0 Halt
    ∷ does_at 1 0x7f3800c (Store 0x7f00001 1 0)
    ∷ waits 2
    ∷ resumes 1 0x7f38010
    ∷ waits 2
    ∷ takes_init 1
    ∷ waits 2
    ∷ waits 2
    ∷ [])

-- A processor that hasn't parked is ejected, and told as not parked.
unfoldable pub ejected_and_told_as_not_parked : List Entry
ejected_and_told_as_not_parked =
    take 58 not_parked ++
    (does_at 0 0x7f28074 (Out 0xcd8 4 0x1)
    ∷ does_at 0 0x7f28078 (Out 0xcdc 1 0x8)
    ∷ tells 0x7f28088 (Refused (NotParked 1 1))
    ∷ does_at 0 0x7f2808c (Store 0x7f04000 1 0)
    ∷ does_at 0 0x7f28090 (Store 0x7f01001 1 0x1)
    ∷ resumes 0 0x7f28094
    ∷ does 0 Halt
    ∷ [])

-- A report that has its processor's own APIC ID is told as foreign.
unfoldable pub foreign_though_its_own : List Entry
foreign_though_its_own =
    take 39 an_add ++
    (tells 0x7f28088 (Refused (Foreign 1 1))
    ∷ does_at 0 0x7f2808c (Store 0x7f04000 1 0)
    ∷ resumes 0 0x7f28094
    ∷ does 0 (Out 0xcd8 4 0x1)
    ∷ does 0 (Out 0xcdc 1 0x2)
    ∷ does 0 Halt
    ∷ [])

-- The APIC ID isn't asked for: what is read as one is the selector, and the report is told as foreign.
unfoldable pub apic_id_not_asked_for : List Entry
apic_id_not_asked_for =
    take 37 wide_add ++
    (reads_at 0 0x7f28028 (In 0xce0 4) 0x1
    ∷ tells 0x7f28088 (Refused (Foreign 1 1))
    ∷ does_at 0 0x7f2808c (Store 0x7f04000 1 0)
    ∷ resumes 0 0x7f28094
    ∷ does 0 (Out 0xcd8 4 0x1)
    ∷ does 0 (Out 0xcdc 1 0x2)
    ∷ does 0 Halt
    ∷ [])

-- An add is given up after two attempts.
unfoldable pub given_up_after_two_attempts : List Entry
given_up_after_two_attempts =
    take 66 not_at_gate ++
    (tells 0x7f28088 (Refused (NotAtGate 1 1))
    ∷ does_at 0 0x7f2808c (Store 0x7f04000 1 0)
    ∷ does_at 0 0x7f28090 (Store 0x7f01001 1 0x1)
    ∷ resumes 0 0x7f28094
    ∷ does 0 (Out 0xcd8 4 0x1)
    ∷ does 0 (Out 0xcdc 1 0x2)
    ∷ does 0 Halt
    ∷ [])

-- A processor that has an eject beside its insert is added.
unfoldable pub added_with_an_eject : List Entry
added_with_an_eject =
    take 41 insert_and_eject ++
    (does_at 0 0x7f2802c (Store 0x7f01001 1 0)
    ∷ does_at 0 0x7f28030 (Store 0x7f00001 1 0)
    ∷ does_at 0 0x7f28034 (Store 0x3000c 1 0)
    ∷ does_at 0 0x7f28038 (Store 0x30008 4 0x7f30000)
    ∷ does_at 0 0x7f2803c (Icr 0x1000000 0x200)
    ∷ does_at 0 0x7f28040 (Icr 0x1000000 0x500)
    ∷ does_at 0 0x7f28044 (Icr 0x1000000 0x69f)
    ∷ takes_smi 1
    ∷ does_at 0 0x7f28048 (Icr 0x1000000 0x69f)
    ∷ waits 1
    ∷ does_at 0 0x7f2804c (Store 0x30000 8 0x1)
    ∷ reads_at 1 0x38000 (Swap 0x30000 0x1 0xffffffffffffffff) 0x1
    ∷ reads_at 0 0x7f28050 (Load 0x3000c 1) 0
    ∷ reads_at 1 0x38004 (Load 0x30008 4) 0x7f30000
    ∷ reads_at 0 0x7f28054 (Load 0x7f00001 1) 0
    ∷ does_at 1 0x38008 (Store 0x3ff00 4 0x7f30000)
    ∷ reads_at 0 0x7f28050 (Load 0x3000c 1) 0
    ∷ does_at 1 0x3800c (Store 0x3000c 1 0x1)
    ∷ reads_at 0 0x7f28054 (Load 0x7f00001 1) 0
    ∷ does_at 1 0x38010 (Icr 0x1000000 0x200)
    ∷ reads_at 0 0x7f28050 (Load 0x3000c 1) 0x1
    ∷ resumes 1 0x38014
    ∷ does_at 0 0x7f28058 (Store 0x30000 8 0xffffffffffffffff)
    ∷ takes_smi 1
    ∷ does_at 0 0x7f2805c (Store 0x7f00001 1 0)
    ∷ does_at 1 0x7f38000 (Store 0x7f00001 1 0x1)
    ∷ reads_at 0 0x7f28060 (Load 0x7f00001 1) 0x1
    ∷ reads_at 1 0x7f38004 (Load 0x7f02001 1) 0
    ∷ tells 0x7f28088 (Added 1 1 1)
    ∷ reads_at 1 0x7f38008 (Load 0x7f01001 1) 0
    ∷ does_at 0 0x7f2808c (Store 0x7f04000 1 0)
    ∷ does_at 1 0x7f38000 (Store 0x7f00001 1 0x1)
    ∷ does_at 0 0x7f28090 (Store 0x7f01001 1 0x1)
    ∷ reads_at 1 0x7f38004 (Load 0x7f02001 1) 0
    ∷ resumes 0 0x7f28094
    ∷ reads_at 1 0x7f38008 (Load 0x7f01001 1) 0x1
    ∷ does 0 Halt
    ∷ does_at 1 0x7f3800c (Store 0x7f00001 1 0)
    ∷ resumes 1 0x7f38010
    ∷ does 1 (Store 0x9f010 1 0x1)
    ∷ does 1 Halt
    ∷ [])

-- A processor that was read as parked is told as not parked.
unfoldable pub not_parked_though_it_is : List Entry
not_parked_though_it_is =
    take 41 not_parked ++
    (reads_at 1 0x7f38004 (Load 0x7f02001 1) 0
    ∷ reads_at 0 0x7f28010 (In 0xb2 1) 0x4
    ∷ reads_at 1 0x7f38008 (Load 0x7f01001 1) 0
    ∷ does_at 0 0x7f28014 (Out 0xcd8 4 0)
    ∷ does_at 1 0x7f38000 (Store 0x7f00001 1 0x1)
    ∷ does_at 0 0x7f28018 (Out 0xcdd 1 0)
    ∷ reads_at 1 0x7f38004 (Load 0x7f02001 1) 0
    ∷ reads_at 0 0x7f2801c (In 0xce0 4) 0x1
    ∷ reads_at 1 0x7f38008 (Load 0x7f01001 1) 0
    ∷ reads_at 0 0x7f28020 (In 0xcdc 1) 0x11
    ∷ does_at 1 0x7f38000 (Store 0x7f00001 1 0x1)
    ∷ does_at 0 0x7f28024 (Out 0xcdd 1 0x3)
    ∷ reads_at 1 0x7f38004 (Load 0x7f02001 1) 0
    ∷ reads_at 0 0x7f28028 (In 0xce0 4) 0x1
    ∷ reads_at 1 0x7f38008 (Load 0x7f01001 1) 0
    ∷ does_at 0 0x7f28064 (Store 0x7f03001 1 0)
    ∷ does_at 1 0x7f38000 (Store 0x7f00001 1 0x1)
    ∷ does_at 0 0x7f28068 (Store 0x7f02001 1 0x1)
    ∷ reads_at 1 0x7f38004 (Load 0x7f02001 1) 0x1
    ∷ reads_at 0 0x7f2806c (Load 0x7f03001 1) 0
    ∷ does_at 1 0x7f38014 (Store 0x7f03001 1 0x1)
    ∷ reads_at 0 0x7f2806c (Load 0x7f03001 1) 0x1
    ∷ reads_at 1 0x7f38004 (Load 0x7f02001 1) 0x1
    ∷ does_at 0 0x7f28070 (Store 0x7f02001 1 0)
    ∷ does_at 1 0x7f38014 (Store 0x7f03001 1 0x1)
    ∷ tells 0x7f28088 (Refused (NotParked 1 1))
    ∷ reads_at 1 0x7f38004 (Load 0x7f02001 1) 0
    ∷ does_at 0 0x7f2808c (Store 0x7f04000 1 0)
    ∷ reads_at 1 0x7f38008 (Load 0x7f01001 1) 0
    ∷ does_at 0 0x7f28090 (Store 0x7f01001 1 0x1)
    ∷ does_at 1 0x7f38000 (Store 0x7f00001 1 0x1)
    ∷ resumes 0 0x7f28094
    ∷ reads_at 1 0x7f38004 (Load 0x7f02001 1) 0
    ∷ does 0 Halt
    ∷ reads_at 1 0x7f38008 (Load 0x7f01001 1) 0x1
    ∷ does_at 1 0x7f3800c (Store 0x7f00001 1 0)
    ∷ resumes 1 0x7f38010
    ∷ takes_smi 1
    ∷ does_at 1 0x7f38000 (Store 0x7f00001 1 0x1)
    ∷ reads_at 1 0x7f38004 (Load 0x7f02001 1) 0
    ∷ reads_at 1 0x7f38008 (Load 0x7f01001 1) 0x1
    ∷ does_at 1 0x7f3800c (Store 0x7f00001 1 0)
    ∷ resumes 1 0x7f38010
    ∷ does 1 Halt
    ∷ [])
