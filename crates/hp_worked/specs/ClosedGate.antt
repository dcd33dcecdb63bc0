-- A new processor at the closed gate, entry by entry, and the same with one thing changed.
use Rattle.std.specs.Prelude.{List, [], ◌∷◌, ◌++◌}
use Rattle.hp_model.specs.declared.accesses.Access.TheVariants.{Load, Store, Swap, In, Out, Icr, Halt}
use Rattle.hp_model.specs.declared.entries.Entry.{Entry}
use Rattle.hp_worked.specs.Entries.{does, does_at, reads_at, takes_smi, resumes, inserts, with_entry, with_entry_before}
use Rattle.hp_worked.specs.Traces.{boot}

-- Processor 1 is inserted, started at page 10 and taken into SMM at the default SMBASE, where it tries the gate over and
-- over: the gate is closed. The session of processor 0 knows no slot but its own, so it waits for nobody.
unfoldable pub closed_gate : List Entry
closed_gate =
    boot ++
    (inserts 1
    ∷ does 0 (Icr 0x1000000 0x610)
    ∷ does 1 Halt
    ∷ does 0 (Out 0xb2 1 0x5)
    ∷ takes_smi 1
    ∷ takes_smi 0
    ∷ reads_at 1 0x38000 (Swap 0x30000 0x1 0xffffffffffffffff) 0xffffffffffffffff
    ∷ does_at 0 0x7f28000 (Store 0x7f04000 1 0x1)
    ∷ reads_at 1 0x38000 (Swap 0x30000 0x1 0xffffffffffffffff) 0xffffffffffffffff
    ∷ does_at 0 0x7f28008 (Icr 0 0xc0200)
    ∷ reads_at 1 0x38000 (Swap 0x30000 0x1 0xffffffffffffffff) 0xffffffffffffffff
    ∷ reads_at 0 0x7f28010 (In 0xb2 1) 0x5
    ∷ reads_at 1 0x38000 (Swap 0x30000 0x1 0xffffffffffffffff) 0xffffffffffffffff
    ∷ does_at 0 0x7f2808c (Store 0x7f04000 1 0)
    ∷ reads_at 1 0x38000 (Swap 0x30000 0x1 0xffffffffffffffff) 0xffffffffffffffff
    ∷ resumes 0 0x7f28094
    ∷ reads_at 1 0x38000 (Swap 0x30000 0x1 0xffffffffffffffff) 0xffffffffffffffff
    ∷ does 0 Halt
    ∷ reads_at 1 0x38000 (Swap 0x30000 0x1 0xffffffffffffffff) 0xffffffffffffffff
    ∷ [])

-- the gate answers as if it were open for APIC ID 1
abbrev pub with_an_open_gate : List Entry
with_an_open_gate = with_entry 33 (reads_at 1 0x38000 (Swap 0x30000 0x1 0xffffffffffffffff) 0x1) closed_gate

-- processor 1 goes on at the next label, though the gate is closed
abbrev pub past_the_closed_gate : List Entry
past_the_closed_gate = with_entry 35 (reads_at 1 0x38004 (Load 0x30008 4) 0) closed_gate

-- processor 1 halts in SMM
abbrev pub halted_in_smm : List Entry
halted_in_smm = with_entry_before 35 (does_at 1 0x38000 Halt) closed_gate
