-- A rendezvous that the second processor comes to late, entry by entry, and the same with one thing changed.
use Rattle.std.specs.Prelude.{List, [], ◌∷◌, ◌++◌}
use Rattle.hp_model.specs.declared.accesses.Access.TheVariants.{Load, Store, In, Out, Icr, Halt}
use Rattle.hp_model.specs.declared.entries.Entry.{Entry}
use Rattle.hp_worked.specs.Entries.{does, does_at, reads_at, takes_smi, resumes, with_entry, without_entry}
use Rattle.hp_worked.specs.Traces.{boot}

-- Processor 1 gets no turn until processor 0 has halted. Its arrived byte is looked at twice, as often as the platform
-- says, and the session goes on without it. Both its SMIs are one latch: it comes once, finds itself released, and leaves.
unfoldable pub late_processor : List Entry
late_processor =
    boot ++
    (does 0 (Out 0xb2 1 0x5)
    ∷ takes_smi 0
    ∷ does_at 0 0x7f28000 (Store 0x7f04000 1 0x1)
    ∷ does_at 0 0x7f28004 (Store 0x7f01001 1 0)
    ∷ does_at 0 0x7f28008 (Icr 0 0xc0200)
    ∷ reads_at 0 0x7f2800c (Load 0x7f00001 1) 0
    ∷ reads_at 0 0x7f2800c (Load 0x7f00001 1) 0
    ∷ reads_at 0 0x7f28010 (In 0xb2 1) 0x5
    ∷ does_at 0 0x7f2808c (Store 0x7f04000 1 0)
    ∷ does_at 0 0x7f28090 (Store 0x7f01001 1 0x1)
    ∷ resumes 0 0x7f28094
    ∷ does 0 Halt
    ∷ takes_smi 1
    ∷ does_at 1 0x7f38000 (Store 0x7f00001 1 0x1)
    ∷ reads_at 1 0x7f38004 (Load 0x7f02001 1) 0
    ∷ reads_at 1 0x7f38008 (Load 0x7f01001 1) 0x1
    ∷ does_at 1 0x7f3800c (Store 0x7f00001 1 0)
    ∷ resumes 1 0x7f38010
    ∷ does 1 Halt
    ∷ [])

-- processor 0 looks once
abbrev pub with_a_look_less : List Entry
with_a_look_less = without_entry 33 late_processor

-- processor 1 takes a second SMI
abbrev pub with_a_second_smi : List Entry
with_a_second_smi = with_entry 45 (takes_smi 1) late_processor
