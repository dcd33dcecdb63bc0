-- An add, entry by entry, and the same with one thing changed.
use Rattle.std.specs.Prelude.{List, [], ◌∷◌, ◌++◌}
use Rattle.hp_model.specs.declared.accesses.Access.TheVariants.{Load, Store, Swap, In, Out, Icr, Halt}
use Rattle.hp_model.specs.declared.outcomes.Outcome.TheVariants.{Added}
use Rattle.hp_model.specs.declared.entries.Entry.{Entry}
use Rattle.hp_worked.specs.Entries.{does, does_at, reads_at, takes_smi, resumes, inserts, tells, waits, with_entry, without_entry, with_entry_before}
use Rattle.hp_worked.specs.Traces.{boot}

-- Processor 1 is inserted, and processor 0 writes 04 to the SMI command port. The monarch finds the insert event, calls the
-- processor into SMM at the default SMBASE and opens the gate for its APIC ID; it takes the SMBASE of the tile of slot 1,
-- comes back there by an SMI to itself, and has arrived when the add is told. Released, it goes to the pen.
unfoldable pub an_add : List Entry
an_add =
    boot ++
    (inserts 1
    ∷ does 0 (Out 0xb2 1 0x4)
    ∷ takes_smi 0
    ∷ does_at 0 0x7f28000 (Store 0x7f04000 1 0x1)
    ∷ does_at 0 0x7f28008 (Icr 0 0xc0200)
    ∷ reads_at 0 0x7f28010 (In 0xb2 1) 0x4
    ∷ does_at 0 0x7f28014 (Out 0xcd8 4 0)
    ∷ does_at 0 0x7f28018 (Out 0xcdd 1 0)
    ∷ reads_at 0 0x7f2801c (In 0xce0 4) 0x1
    ∷ reads_at 0 0x7f28020 (In 0xcdc 1) 0x3
    ∷ does_at 0 0x7f28024 (Out 0xcdd 1 0x3)
    ∷ reads_at 0 0x7f28028 (In 0xce0 4) 0x1
    ∷ does_at 0 0x7f2802c (Store 0x7f01001 1 0)
    ∷ does_at 0 0x7f28030 (Store 0x7f00001 1 0)
    ∷ does_at 0 0x7f28034 (Store 0x3000c 1 0)
    ∷ does_at 0 0x7f28038 (Store 0x30008 4 0x7f30000)
    ∷ does_at 0 0x7f2803c (Icr 0x1000000 0x200)
    ∷ does_at 0 0x7f28040 (Icr 0x1000000 0x500)
    ∷ does_at 0 0x7f28044 (Icr 0x1000000 0x69f)
    ∷ takes_smi 1
    ∷ does_at 0 0x7f28048 (Icr 0x1000000 0x69f) ∷ waits 1
    ∷ does_at 0 0x7f2804c (Store 0x30000 8 0x1)
    ∷ reads_at 1 0x38000 (Swap 0x30000 0x1 0xffffffffffffffff) 0x1
    ∷ reads_at 0 0x7f28050 (Load 0x3000c 1) 0
    ∷ reads_at 1 0x38004 (Load 0x30008 4) 0x7f30000
    ∷ reads_at 0 0x7f28054 (Load 0x7f00001 1) 0
    ∷ does_at 1 0x38008 (Store 0x3ff00 4 0x7f30000)
    ∷ reads_at 0 0x7f28050 (Load 0x3000c 1) 0
    ∷ does_at 1 0x3800c (Store 0x3000c 1 0x1)
    ∷ reads_at 0 0x7f28054 (Load 0x7f00001 1) 0
    ∷ does_at 1 0x38010 (Icr 0x1000000 0x200)
    ∷ reads_at 0 0x7f28050 (Load 0x3000c 1) 0x1
    ∷ resumes 1 0x38014
    ∷ does_at 0 0x7f28058 (Store 0x30000 8 0xffffffffffffffff)
    ∷ takes_smi 1
    ∷ does_at 0 0x7f2805c (Store 0x7f00001 1 0)
    ∷ does_at 1 0x7f38000 (Store 0x7f00001 1 0x1)
    ∷ reads_at 0 0x7f28060 (Load 0x7f00001 1) 0x1
    ∷ reads_at 1 0x7f38004 (Load 0x7f02001 1) 0
    ∷ tells 0x7f28088 (Added 1 1 1)
    ∷ reads_at 1 0x7f38008 (Load 0x7f01001 1) 0
    ∷ does_at 0 0x7f2808c (Store 0x7f04000 1 0)
    ∷ does_at 1 0x7f38000 (Store 0x7f00001 1 0x1)
    ∷ does_at 0 0x7f28090 (Store 0x7f01001 1 0x1)
    ∷ reads_at 1 0x7f38004 (Load 0x7f02001 1) 0
    ∷ resumes 0 0x7f28094
    ∷ reads_at 1 0x7f38008 (Load 0x7f01001 1) 0x1
    ∷ does 0 (Out 0xcd8 4 0x1)
    ∷ does_at 1 0x7f3800c (Store 0x7f00001 1 0)
    ∷ does 0 (Out 0xcdc 1 0x2)
    ∷ resumes 1 0x7f38010
    ∷ does 0 Halt
    ∷ does 1 (Store 0x9f010 1 0x1)
    ∷ does 1 Halt
    ∷ [])

-- processor 0 has stored the byte of the pen before: no handler looks at it, and all goes as without it
abbrev pub add_with_a_stored_pen_byte : List Entry
add_with_a_stored_pen_byte = with_entry_before 28 (does 0 (Store 0x9f010 1 0x1)) an_add

-- the add is told once the gate is closed, before the arrived byte is cleared (N10) and looked at (N11)
abbrev pub told_without_arrival : List Entry
told_without_arrival = with_entry 63 (tells 0x7f28088 (Added 1 1 1)) an_add

-- the gate is opened before the new SMBASE is stored
abbrev pub opened_too_early : List Entry
opened_too_early = with_entry 42 (does_at 0 0x7f28038 (Store 0x30000 8 0x1)) an_add

-- the new SMBASE is the tile of slot 2
abbrev pub with_another_tile : List Entry
with_another_tile = with_entry 42 (does_at 0 0x7f28038 (Store 0x30008 4 0x7f40000)) an_add

-- processor 1 sends itself no SMI before it leaves the default SMBASE
abbrev pub without_its_own_smi : List Entry
without_its_own_smi = without_entry 58 an_add

-- the gate isn't closed behind processor 1 by the monarch
abbrev pub with_the_gate_left_open : List Entry
with_the_gate_left_open = without_entry 61 an_add
