-- The rendezvous of two boot processors, entry by entry, and the same with one thing changed.
use Rattle.std.specs.Prelude.{List, [], ◌∷◌, ◌++◌}
use Rattle.hp_model.specs.declared.accesses.Access.TheVariants.{Load, Store, In, Out, Icr, Halt}
use Rattle.hp_model.specs.declared.entries.Entry.{Entry}
use Rattle.hp_worked.specs.Entries.{does, does_at, reads_at, takes_smi, resumes, with_entry, without_entry, with_entry_before}
use Rattle.hp_worked.specs.Traces.{boot}

-- Processor 0 leads the session and sets the release byte of processor 1, which polls it in its tile. The SMI that the
-- session sends to all others stays latched meanwhile, and takes processor 1 into SMM once more.
unfoldable pub rendezvous : List Entry
rendezvous =
    boot ++
    (does 0 (Out 0xb2 1 0x5)
    ∷ takes_smi 1
    ∷ takes_smi 0
    ∷ does_at 1 0x7f38000 (Store 0x7f00001 1 0x1)
    ∷ does_at 0 0x7f28000 (Store 0x7f04000 1 0x1)
    ∷ reads_at 1 0x7f38004 (Load 0x7f02001 1) 0
    ∷ does_at 0 0x7f28004 (Store 0x7f01001 1 0)
    ∷ reads_at 1 0x7f38008 (Load 0x7f01001 1) 0
    ∷ does_at 0 0x7f28008 (Icr 0 0xc0200)
    ∷ does_at 1 0x7f38000 (Store 0x7f00001 1 0x1)
    ∷ reads_at 0 0x7f2800c (Load 0x7f00001 1) 0x1
    ∷ reads_at 1 0x7f38004 (Load 0x7f02001 1) 0
    ∷ reads_at 0 0x7f28010 (In 0xb2 1) 0x5
    ∷ reads_at 1 0x7f38008 (Load 0x7f01001 1) 0
    ∷ does_at 0 0x7f2808c (Store 0x7f04000 1 0)
    ∷ does_at 1 0x7f38000 (Store 0x7f00001 1 0x1)
    ∷ does_at 0 0x7f28090 (Store 0x7f01001 1 0x1)
    ∷ reads_at 1 0x7f38004 (Load 0x7f02001 1) 0
    ∷ resumes 0 0x7f28094
    ∷ reads_at 1 0x7f38008 (Load 0x7f01001 1) 0x1
    ∷ does 0 Halt
    ∷ does_at 1 0x7f3800c (Store 0x7f00001 1 0)
    ∷ resumes 1 0x7f38010
    ∷ takes_smi 1
    ∷ does_at 1 0x7f38000 (Store 0x7f00001 1 0x1)
    ∷ reads_at 1 0x7f38004 (Load 0x7f02001 1) 0
    ∷ reads_at 1 0x7f38008 (Load 0x7f01001 1) 0x1
    ∷ does_at 1 0x7f3800c (Store 0x7f00001 1 0)
    ∷ resumes 1 0x7f38010
    ∷ does 1 Halt
    ∷ [])

-- processor 0 clears another byte than the release byte of processor 1
abbrev pub with_another_byte : List Entry
with_another_byte = with_entry 33 (does_at 0 0x7f28004 (Store 0x7f01000 1 0)) rendezvous

-- processor 0 stores the session byte from the next cell
abbrev pub from_another_cell : List Entry
from_another_cell = with_entry 31 (does_at 0 0x7f28004 (Store 0x7f04000 1 0x1)) rendezvous

-- processor 0 reads that processor 1 hasn't arrived, when it has
abbrev pub with_another_answer : List Entry
with_another_answer = with_entry 37 (reads_at 0 0x7f2800c (Load 0x7f00001 1) 0) rendezvous

-- processor 0 doesn't store the session byte
abbrev pub without_a_session : List Entry
without_a_session = without_entry 31 rendezvous

-- processor 0 sets the release byte before it clears the session byte
abbrev pub released_too_early : List Entry
released_too_early = with_entry 41 (does_at 0 0x7f2808c (Store 0x7f01001 1 0x1)) rendezvous

-- processor 1 leaves SMM before it is released
abbrev pub left_unreleased : List Entry
left_unreleased = with_entry_before 42 (resumes 1 0x7f38000) rendezvous
