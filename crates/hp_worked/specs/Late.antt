-- Late delivery, entry by entry: a latched SMI may be taken at any later step.
use Rattle.std.specs.Prelude.{List, [], ◌∷◌, ◌++◌}
use Rattle.hp_model.specs.declared.accesses.Access.TheVariants.{Load, Store, In, Out, Icr, Halt, Nop}
use Rattle.hp_model.specs.declared.outcomes.Outcome.TheVariants.{Ejected, Refused}
use Rattle.hp_model.specs.declared.outcomes.Refusal.TheVariants.{Foreign, StillPending}
use Rattle.hp_model.specs.declared.entries.Entry.{Entry}
use Rattle.hp_worked.specs.Entries.{does, reads, does_at, reads_at, takes_smi, resumes, tells, with_entry}
use Rattle.hp_worked.specs.Traces.{boot}

-- One processor makes two accesses more before it takes the SMI that it has raised.
unfoldable pub late_alone : List Entry
late_alone =
    boot ++
    (does 0 (Out 0xb2 1 0x5)
    ∷ does 0 Nop
    ∷ reads 0 (Load 0 4) 0
    ∷ takes_smi 0
    ∷ does_at 0 0x7f28000 (Store 0x7f04000 1 0x1)
    ∷ does_at 0 0x7f28008 (Icr 0 0xc0200)
    ∷ reads_at 0 0x7f28010 (In 0xb2 1) 0x5
    ∷ does_at 0 0x7f2808c (Store 0x7f04000 1 0)
    ∷ resumes 0 0x7f28094
    ∷ does 0 Halt
    ∷ [])

-- Processor 1 stays outside SMM and selects processor 0, between the monarch's read of a status and its read of the APIC ID.
unfoldable pub selector_taken_away : List Entry
selector_taken_away =
    boot ++
    (does 0 (Out 0xcd8 4 0x1)
    ∷ does 1 Nop
    ∷ does 0 (Out 0xcdc 1 0x10)
    ∷ does 1 Nop
    ∷ does 0 (Out 0xb2 1 0x4)
    ∷ does 1 Nop
    ∷ takes_smi 0
    ∷ does_at 0 0x7f28000 (Store 0x7f04000 1 0x1)
    ∷ does 1 Nop
    ∷ does_at 0 0x7f28004 (Store 0x7f01001 1 0)
    ∷ does 1 Nop
    ∷ does_at 0 0x7f28008 (Icr 0 0xc0200)
    ∷ does 1 Nop
    ∷ reads_at 0 0x7f2800c (Load 0x7f00001 1) 0
    ∷ does 1 Nop
    ∷ reads_at 0 0x7f2800c (Load 0x7f00001 1) 0
    ∷ does 1 Nop
    ∷ reads_at 0 0x7f2800c (Load 0x7f00001 1) 0
    ∷ does 1 Nop
    ∷ reads_at 0 0x7f2800c (Load 0x7f00001 1) 0
    ∷ does 1 Nop
    ∷ reads_at 0 0x7f2800c (Load 0x7f00001 1) 0
    ∷ does 1 Nop
    ∷ reads_at 0 0x7f2800c (Load 0x7f00001 1) 0
    ∷ does 1 Nop
    ∷ reads_at 0 0x7f2800c (Load 0x7f00001 1) 0
    ∷ does 1 Nop
    ∷ reads_at 0 0x7f2800c (Load 0x7f00001 1) 0
    ∷ does 1 Nop
    ∷ reads_at 0 0x7f28010 (In 0xb2 1) 0x4
    ∷ does 1 Nop
    ∷ does_at 0 0x7f28014 (Out 0xcd8 4 0)
    ∷ does 1 Nop
    ∷ does_at 0 0x7f28018 (Out 0xcdd 1 0)
    ∷ does 1 Nop
    ∷ reads_at 0 0x7f2801c (In 0xce0 4) 0x1
    ∷ does 1 Nop
    ∷ reads_at 0 0x7f28020 (In 0xcdc 1) 0x11
    ∷ does 1 (Out 0xcd8 4 0)
    ∷ does_at 0 0x7f28024 (Out 0xcdd 1 0x3)
    ∷ does 1 Halt
    ∷ reads_at 0 0x7f28028 (In 0xce0 4) 0
    ∷ tells 0x7f28088 (Refused (Foreign 1 0))
    ∷ does_at 0 0x7f2808c (Store 0x7f04000 1 0)
    ∷ does_at 0 0x7f28090 (Store 0x7f01001 1 0x1)
    ∷ resumes 0 0x7f28094
    ∷ does 0 Halt
    ∷ takes_smi 1
    ∷ does_at 1 0x7f38000 (Store 0x7f00001 1 0x1)
    ∷ reads_at 1 0x7f38004 (Load 0x7f02001 1) 0
    ∷ reads_at 1 0x7f38008 (Load 0x7f01001 1) 0x1
    ∷ does_at 1 0x7f3800c (Store 0x7f00001 1 0)
    ∷ resumes 1 0x7f38010
    ∷ does 1 Halt
    ∷ [])

-- Processor 2 stays outside SMM and selects itself, just before the monarch writes the eject of processor 1: it is ejected in its place.
unfoldable pub eject_led_astray : List Entry
eject_led_astray =
    boot ++
    (does 0 (Out 0xcd8 4 0x1)
    ∷ does 1 Halt
    ∷ does 2 Nop
    ∷ does 0 (Out 0xcdc 1 0x10)
    ∷ does 2 Nop
    ∷ does 0 (Out 0xb2 1 0x4)
    ∷ does 2 Nop
    ∷ takes_smi 0
    ∷ takes_smi 1
    ∷ does_at 0 0x7f28000 (Store 0x7f04000 1 0x1)
    ∷ does_at 1 0x7f38000 (Store 0x7f00001 1 0x1)
    ∷ does 2 Nop
    ∷ does_at 0 0x7f28004 (Store 0x7f01001 1 0)
    ∷ reads_at 1 0x7f38004 (Load 0x7f02001 1) 0
    ∷ does 2 Nop
    ∷ does_at 0 0x7f28004 (Store 0x7f01002 1 0)
    ∷ reads_at 1 0x7f38008 (Load 0x7f01001 1) 0
    ∷ does 2 Nop
    ∷ does_at 0 0x7f28008 (Icr 0 0xc0200)
    ∷ does_at 1 0x7f38000 (Store 0x7f00001 1 0x1)
    ∷ does 2 Nop
    ∷ reads_at 0 0x7f2800c (Load 0x7f00001 1) 0x1
    ∷ reads_at 1 0x7f38004 (Load 0x7f02001 1) 0
    ∷ does 2 Nop
    ∷ reads_at 0 0x7f2800c (Load 0x7f00002 1) 0
    ∷ reads_at 1 0x7f38008 (Load 0x7f01001 1) 0
    ∷ does 2 Nop
    ∷ reads_at 0 0x7f2800c (Load 0x7f00002 1) 0
    ∷ does_at 1 0x7f38000 (Store 0x7f00001 1 0x1)
    ∷ does 2 Nop
    ∷ reads_at 0 0x7f2800c (Load 0x7f00002 1) 0
    ∷ reads_at 1 0x7f38004 (Load 0x7f02001 1) 0
    ∷ does 2 Nop
    ∷ reads_at 0 0x7f2800c (Load 0x7f00002 1) 0
    ∷ reads_at 1 0x7f38008 (Load 0x7f01001 1) 0
    ∷ does 2 Nop
    ∷ reads_at 0 0x7f2800c (Load 0x7f00002 1) 0
    ∷ does_at 1 0x7f38000 (Store 0x7f00001 1 0x1)
    ∷ does 2 Nop
    ∷ reads_at 0 0x7f2800c (Load 0x7f00002 1) 0
    ∷ reads_at 1 0x7f38004 (Load 0x7f02001 1) 0
    ∷ does 2 Nop
    ∷ reads_at 0 0x7f2800c (Load 0x7f00002 1) 0
    ∷ reads_at 1 0x7f38008 (Load 0x7f01001 1) 0
    ∷ does 2 Nop
    ∷ reads_at 0 0x7f2800c (Load 0x7f00002 1) 0
    ∷ does_at 1 0x7f38000 (Store 0x7f00001 1 0x1)
    ∷ does 2 Nop
    ∷ reads_at 0 0x7f28010 (In 0xb2 1) 0x4
    ∷ reads_at 1 0x7f38004 (Load 0x7f02001 1) 0
    ∷ does 2 Nop
    ∷ does_at 0 0x7f28014 (Out 0xcd8 4 0)
    ∷ reads_at 1 0x7f38008 (Load 0x7f01001 1) 0
    ∷ does 2 Nop
    ∷ does_at 0 0x7f28018 (Out 0xcdd 1 0)
    ∷ does_at 1 0x7f38000 (Store 0x7f00001 1 0x1)
    ∷ does 2 Nop
    ∷ reads_at 0 0x7f2801c (In 0xce0 4) 0x1
    ∷ reads_at 1 0x7f38004 (Load 0x7f02001 1) 0
    ∷ does 2 Nop
    ∷ reads_at 0 0x7f28020 (In 0xcdc 1) 0x11
    ∷ reads_at 1 0x7f38008 (Load 0x7f01001 1) 0
    ∷ does 2 Nop
    ∷ does_at 0 0x7f28024 (Out 0xcdd 1 0x3)
    ∷ does_at 1 0x7f38000 (Store 0x7f00001 1 0x1)
    ∷ does 2 Nop
    ∷ reads_at 0 0x7f28028 (In 0xce0 4) 0x1
    ∷ reads_at 1 0x7f38004 (Load 0x7f02001 1) 0
    ∷ does 2 Nop
    ∷ does_at 0 0x7f28014 (Out 0xcd8 4 0x2)
    ∷ reads_at 1 0x7f38008 (Load 0x7f01001 1) 0
    ∷ does 2 Nop
    ∷ does_at 0 0x7f28018 (Out 0xcdd 1 0)
    ∷ does_at 1 0x7f38000 (Store 0x7f00001 1 0x1)
    ∷ does 2 Nop
    ∷ reads_at 0 0x7f2801c (In 0xce0 4) 0x1
    ∷ reads_at 1 0x7f38004 (Load 0x7f02001 1) 0
    ∷ does 2 Nop
    ∷ does_at 0 0x7f28064 (Store 0x7f03001 1 0)
    ∷ reads_at 1 0x7f38008 (Load 0x7f01001 1) 0
    ∷ does 2 Nop
    ∷ does_at 0 0x7f28068 (Store 0x7f02001 1 0x1)
    ∷ does_at 1 0x7f38000 (Store 0x7f00001 1 0x1)
    ∷ does 2 Nop
    ∷ reads_at 0 0x7f2806c (Load 0x7f03001 1) 0
    ∷ reads_at 1 0x7f38004 (Load 0x7f02001 1) 0x1
    ∷ does 2 Nop
    ∷ reads_at 0 0x7f2806c (Load 0x7f03001 1) 0
    ∷ does_at 1 0x7f38014 (Store 0x7f03001 1 0x1)
    ∷ does 2 Nop
    ∷ reads_at 0 0x7f2806c (Load 0x7f03001 1) 0x1
    ∷ reads_at 1 0x7f38004 (Load 0x7f02001 1) 0x1
    ∷ does 2 Nop
    ∷ does_at 0 0x7f28074 (Out 0xcd8 4 0x1)
    ∷ does_at 1 0x7f38014 (Store 0x7f03001 1 0x1)
    ∷ does 2 (Out 0xcd8 4 0x2)
    ∷ does_at 0 0x7f28078 (Out 0xcdc 1 0x8)
    ∷ reads_at 1 0x7f38004 (Load 0x7f02001 1) 0x1
    ∷ does_at 0 0x7f28098 (Out 0xcd8 4 0x1)
    ∷ does_at 1 0x7f38014 (Store 0x7f03001 1 0x1)
    ∷ reads_at 0 0x7f2809c (In 0xcdc 1) 0x11
    ∷ reads_at 1 0x7f38004 (Load 0x7f02001 1) 0x1
    ∷ does_at 0 0x7f280a0 (Store 0x7f02001 1 0)
    ∷ does_at 1 0x7f38014 (Store 0x7f03001 1 0x1)
    ∷ tells 0x7f28088 (Refused (StillPending 1 0x11))
    ∷ reads_at 1 0x7f38004 (Load 0x7f02001 1) 0
    ∷ does_at 0 0x7f2808c (Store 0x7f04000 1 0)
    ∷ reads_at 1 0x7f38008 (Load 0x7f01001 1) 0
    ∷ does_at 0 0x7f28090 (Store 0x7f01001 1 0x1)
    ∷ does_at 1 0x7f38000 (Store 0x7f00001 1 0x1)
    ∷ does_at 0 0x7f28090 (Store 0x7f01002 1 0x1)
    ∷ reads_at 1 0x7f38004 (Load 0x7f02001 1) 0
    ∷ resumes 0 0x7f28094
    ∷ reads_at 1 0x7f38008 (Load 0x7f01001 1) 0x1
    ∷ does 0 Halt
    ∷ does_at 1 0x7f3800c (Store 0x7f00001 1 0)
    ∷ resumes 1 0x7f38010
    ∷ does 1 Halt
    ∷ takes_smi 1
    ∷ does_at 1 0x7f38000 (Store 0x7f00001 1 0x1)
    ∷ reads_at 1 0x7f38004 (Load 0x7f02001 1) 0
    ∷ reads_at 1 0x7f38008 (Load 0x7f01001 1) 0x1
    ∷ does_at 1 0x7f3800c (Store 0x7f00001 1 0)
    ∷ resumes 1 0x7f38010
    ∷ does 1 Halt
    ∷ [])

-- the eject that went astray is told as one that went through
abbrev pub told_as_ejected : List Entry
told_as_ejected = with_entry 131 (tells 0x7f28088 (Ejected 1 1 1)) eject_led_astray
