-- Reports that are refused and an insert that nobody reports, entry by entry, and the same with one thing changed.
use Rattle.std.specs.Prelude.{List, [], ◌∷◌, ◌++◌, take}
use Rattle.hp_model.specs.declared.accesses.Access.TheVariants.{Load, Store, In, Out, Icr, Halt}
use Rattle.hp_model.specs.declared.outcomes.Outcome.TheVariants.{Refused}
use Rattle.hp_model.specs.declared.outcomes.Refusal.TheVariants.{Disabled, Both, AlreadyKnown, NotAtGate}
use Rattle.hp_model.specs.declared.entries.Entry.{Entry}
use Rattle.hp_worked.specs.Entries.{does, does_at, reads_at, takes_smi, resumes, inserts, tells, waits, with_entry}
use Rattle.hp_worked.specs.Traces.{boot}
use Rattle.hp_worked.specs.Adds.{an_add}

-- an eject is handed to the firmware while the insert event is there: one report has both
unfoldable pub insert_and_eject : List Entry
insert_and_eject =
    boot ++
    (inserts 1
    ∷ does 0 (Out 0xcd8 4 0x1)
    ∷ does 0 (Out 0xcdc 1 0x10)
    ∷ does 0 (Out 0xb2 1 0x4)
    ∷ takes_smi 0
    ∷ does_at 0 0x7f28000 (Store 0x7f04000 1 0x1)
    ∷ does_at 0 0x7f28008 (Icr 0 0xc0200)
    ∷ reads_at 0 0x7f28010 (In 0xb2 1) 0x4
    ∷ does_at 0 0x7f28014 (Out 0xcd8 4 0)
    ∷ does_at 0 0x7f28018 (Out 0xcdd 1 0)
    ∷ reads_at 0 0x7f2801c (In 0xce0 4) 0x1
    ∷ reads_at 0 0x7f28020 (In 0xcdc 1) 0x13
    ∷ does_at 0 0x7f28024 (Out 0xcdd 1 0x3)
    ∷ reads_at 0 0x7f28028 (In 0xce0 4) 0x1
    ∷ tells 0x7f28088 (Refused (Both 1 0x13))
    ∷ does_at 0 0x7f2808c (Store 0x7f04000 1 0)
    ∷ resumes 0 0x7f28094
    ∷ does 0 Halt
    ∷ [])

-- processor 0 ejects processor 1 itself: its insert event stays, and the report says that it isn't enabled
unfoldable pub disabled_processor : List Entry
disabled_processor =
    boot ++
    (inserts 1
    ∷ does 0 (Out 0xcd8 4 0x1)
    ∷ does 0 (Out 0xcdc 1 0x8)
    ∷ does 0 (Out 0xb2 1 0x4)
    ∷ takes_smi 0
    ∷ does_at 0 0x7f28000 (Store 0x7f04000 1 0x1)
    ∷ does_at 0 0x7f28008 (Icr 0 0xc0200)
    ∷ reads_at 0 0x7f28010 (In 0xb2 1) 0x4
    ∷ does_at 0 0x7f28014 (Out 0xcd8 4 0)
    ∷ does_at 0 0x7f28018 (Out 0xcdd 1 0)
    ∷ reads_at 0 0x7f2801c (In 0xce0 4) 0x1
    ∷ reads_at 0 0x7f28020 (In 0xcdc 1) 0x2
    ∷ does_at 0 0x7f28024 (Out 0xcdd 1 0x3)
    ∷ reads_at 0 0x7f28028 (In 0xce0 4) 0x1
    ∷ tells 0x7f28088 (Refused (Disabled 1 0x2))
    ∷ does_at 0 0x7f2808c (Store 0x7f04000 1 0)
    ∷ resumes 0 0x7f28094
    ∷ does 0 Halt
    ∷ [])

-- Processor 0 clears the insert event, starts processor 1 and sends it an SMI. The collection finds no event, and asks every
-- processor; nobody is reported, and processor 1 waits at the gate.
unfoldable pub cleared_event : List Entry
cleared_event =
    boot ++
    (inserts 1
    ∷ does 0 (Out 0xcd8 4 0x1)
    ∷ does 0 (Out 0xcdc 1 0x2)
    ∷ does 0 (Icr 0x1000000 0x610)
    ∷ does 1 Halt
    ∷ does 0 (Icr 0x1000000 0x200)
    ∷ takes_smi 1
    ∷ does 0 (Out 0xb2 1 0x4) ∷ waits 1
    ∷ takes_smi 0 ∷ waits 1
    ∷ does_at 0 0x7f28000 (Store 0x7f04000 1 0x1) ∷ waits 1
    ∷ does_at 0 0x7f28008 (Icr 0 0xc0200) ∷ waits 1
    ∷ reads_at 0 0x7f28010 (In 0xb2 1) 0x4 ∷ waits 1
    ∷ does_at 0 0x7f28014 (Out 0xcd8 4 0) ∷ waits 1
    ∷ does_at 0 0x7f28018 (Out 0xcdd 1 0) ∷ waits 1
    ∷ reads_at 0 0x7f2801c (In 0xce0 4) 0 ∷ waits 1
    ∷ reads_at 0 0x7f28020 (In 0xcdc 1) 0x1 ∷ waits 1
    ∷ does_at 0 0x7f28014 (Out 0xcd8 4 0x1) ∷ waits 1
    ∷ does_at 0 0x7f28018 (Out 0xcdd 1 0) ∷ waits 1
    ∷ reads_at 0 0x7f2801c (In 0xce0 4) 0x1 ∷ waits 1
    ∷ reads_at 0 0x7f28020 (In 0xcdc 1) 0x1 ∷ waits 1
    ∷ does_at 0 0x7f2808c (Store 0x7f04000 1 0) ∷ waits 1
    ∷ resumes 0 0x7f28094 ∷ waits 1
    ∷ does 0 Halt ∷ waits 1 ∷ waits 1 ∷ waits 1 ∷ waits 1 ∷ waits 1 ∷ waits 1 ∷ waits 1 ∷ waits 1 ∷ waits 1 ∷ waits 1
    ∷ waits 1
    ∷ [])

-- Processor 1 is added as before. Then processor 0 ejects it by itself, and the host inserts it anew: its APIC ID is known
-- still. The monarch looks at its arrived byte until the looks are used up.
unfoldable pub already_known : List Entry
already_known =
    take 79 an_add ++
    (does 0 (Out 0xcdc 1 0x8)
    ∷ inserts 1
    ∷ does 0 (Out 0xb2 1 0x4)
    ∷ takes_smi 0
    ∷ does_at 0 0x7f28000 (Store 0x7f04000 1 0x1)
    ∷ does_at 0 0x7f28004 (Store 0x7f01001 1 0)
    ∷ does_at 0 0x7f28008 (Icr 0 0xc0200)
    ∷ reads_at 0 0x7f2800c (Load 0x7f00001 1) 0
    ∷ reads_at 0 0x7f2800c (Load 0x7f00001 1) 0
    ∷ reads_at 0 0x7f2800c (Load 0x7f00001 1) 0
    ∷ reads_at 0 0x7f2800c (Load 0x7f00001 1) 0
    ∷ reads_at 0 0x7f2800c (Load 0x7f00001 1) 0
    ∷ reads_at 0 0x7f2800c (Load 0x7f00001 1) 0
    ∷ reads_at 0 0x7f2800c (Load 0x7f00001 1) 0
    ∷ reads_at 0 0x7f2800c (Load 0x7f00001 1) 0
    ∷ reads_at 0 0x7f28010 (In 0xb2 1) 0x4
    ∷ does_at 0 0x7f28014 (Out 0xcd8 4 0)
    ∷ does_at 0 0x7f28018 (Out 0xcdd 1 0)
    ∷ reads_at 0 0x7f2801c (In 0xce0 4) 0x1
    ∷ reads_at 0 0x7f28020 (In 0xcdc 1) 0x3
    ∷ does_at 0 0x7f28024 (Out 0xcdd 1 0x3)
    ∷ reads_at 0 0x7f28028 (In 0xce0 4) 0x1
    ∷ tells 0x7f28088 (Refused (AlreadyKnown 1 1 1))
    ∷ does_at 0 0x7f2808c (Store 0x7f04000 1 0)
    ∷ does_at 0 0x7f28090 (Store 0x7f01001 1 0x1)
    ∷ resumes 0 0x7f28094
    ∷ does 0 Halt
    ∷ [])

-- Processor 1 gets no turn: in none of three attempts it comes to the gate. Each looks at the flag and at its arrived byte twice,
-- as often as the platform says.
unfoldable pub not_at_gate : List Entry
not_at_gate =
    boot ++
    (inserts 1
    ∷ does 0 (Out 0xb2 1 0x4)
    ∷ takes_smi 0
    ∷ does_at 0 0x7f28000 (Store 0x7f04000 1 0x1)
    ∷ does_at 0 0x7f28008 (Icr 0 0xc0200)
    ∷ reads_at 0 0x7f28010 (In 0xb2 1) 0x4
    ∷ does_at 0 0x7f28014 (Out 0xcd8 4 0)
    ∷ does_at 0 0x7f28018 (Out 0xcdd 1 0)
    ∷ reads_at 0 0x7f2801c (In 0xce0 4) 0x1
    ∷ reads_at 0 0x7f28020 (In 0xcdc 1) 0x3
    ∷ does_at 0 0x7f28024 (Out 0xcdd 1 0x3)
    ∷ reads_at 0 0x7f28028 (In 0xce0 4) 0x1
    ∷ does_at 0 0x7f2802c (Store 0x7f01001 1 0)
    ∷ does_at 0 0x7f28030 (Store 0x7f00001 1 0)
    ∷ does_at 0 0x7f28034 (Store 0x3000c 1 0)
    ∷ does_at 0 0x7f28038 (Store 0x30008 4 0x7f30000)
    ∷ does_at 0 0x7f2803c (Icr 0x1000000 0x200)
    ∷ does_at 0 0x7f28040 (Icr 0x1000000 0x500)
    ∷ does_at 0 0x7f28044 (Icr 0x1000000 0x69f)
    ∷ does_at 0 0x7f28048 (Icr 0x1000000 0x69f)
    ∷ does_at 0 0x7f2804c (Store 0x30000 8 0x1)
    ∷ reads_at 0 0x7f28050 (Load 0x3000c 1) 0
    ∷ reads_at 0 0x7f28054 (Load 0x7f00001 1) 0
    ∷ reads_at 0 0x7f28050 (Load 0x3000c 1) 0
    ∷ reads_at 0 0x7f28054 (Load 0x7f00001 1) 0
    ∷ does_at 0 0x7f28058 (Store 0x30000 8 0xffffffffffffffff)
    ∷ does_at 0 0x7f28030 (Store 0x7f00001 1 0)
    ∷ does_at 0 0x7f28034 (Store 0x3000c 1 0)
    ∷ does_at 0 0x7f28038 (Store 0x30008 4 0x7f30000)
    ∷ does_at 0 0x7f2803c (Icr 0x1000000 0x200)
    ∷ does_at 0 0x7f28040 (Icr 0x1000000 0x500)
    ∷ does_at 0 0x7f28044 (Icr 0x1000000 0x69f)
    ∷ does_at 0 0x7f28048 (Icr 0x1000000 0x69f)
    ∷ does_at 0 0x7f2804c (Store 0x30000 8 0x1)
    ∷ reads_at 0 0x7f28050 (Load 0x3000c 1) 0
    ∷ reads_at 0 0x7f28054 (Load 0x7f00001 1) 0
    ∷ reads_at 0 0x7f28050 (Load 0x3000c 1) 0
    ∷ reads_at 0 0x7f28054 (Load 0x7f00001 1) 0
    ∷ does_at 0 0x7f28058 (Store 0x30000 8 0xffffffffffffffff)
    ∷ does_at 0 0x7f28030 (Store 0x7f00001 1 0)
    ∷ does_at 0 0x7f28034 (Store 0x3000c 1 0)
    ∷ does_at 0 0x7f28038 (Store 0x30008 4 0x7f30000)
    ∷ does_at 0 0x7f2803c (Icr 0x1000000 0x200)
    ∷ does_at 0 0x7f28040 (Icr 0x1000000 0x500)
    ∷ does_at 0 0x7f28044 (Icr 0x1000000 0x69f)
    ∷ does_at 0 0x7f28048 (Icr 0x1000000 0x69f)
    ∷ does_at 0 0x7f2804c (Store 0x30000 8 0x1)
    ∷ reads_at 0 0x7f28050 (Load 0x3000c 1) 0
    ∷ reads_at 0 0x7f28054 (Load 0x7f00001 1) 0
    ∷ reads_at 0 0x7f28050 (Load 0x3000c 1) 0
    ∷ reads_at 0 0x7f28054 (Load 0x7f00001 1) 0
    ∷ does_at 0 0x7f28058 (Store 0x30000 8 0xffffffffffffffff)
    ∷ tells 0x7f28088 (Refused (NotAtGate 1 1))
    ∷ does_at 0 0x7f2808c (Store 0x7f04000 1 0)
    ∷ does_at 0 0x7f28090 (Store 0x7f01001 1 0x1)
    ∷ resumes 0 0x7f28094
    ∷ does 0 (Out 0xcd8 4 0x1)
    ∷ does 0 (Out 0xcdc 1 0x2)
    ∷ does 0 Halt
    ∷ [])

-- processor 1 is added while its APIC ID is known
abbrev pub added_again : List Entry
added_again = with_entry 101 (does_at 0 0x7f2802c (Store 0x7f01001 1 0)) already_known

-- a fourth attempt begins
abbrev pub tried_a_fourth_time : List Entry
tried_a_fourth_time = with_entry 79 (does_at 0 0x7f28030 (Store 0x7f00001 1 0)) not_at_gate
