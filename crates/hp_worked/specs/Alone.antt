-- Worked traces of the machine alone, without the boot.
use Rattle.std.specs.Prelude.{List, [], ◌∷◌}
use Rattle.hp_model.specs.declared.accesses.Access.TheVariants.{Load, Store, Swap, In, Out, CfgRead, CfgWrite, Icr, Halt}
use Rattle.hp_model.specs.declared.entries.Entry.{Entry}
use Rattle.hp_worked.specs.Entries.{does, reads, does_at, takes_smi, takes_init, inserts, with_entry}

-- the register block begins in its legacy form, and a write of 0 makes it modern
unfoldable pub modern_form : List Entry
modern_form =
    reads 0 (In 0xcd8 4) 0x1
    ∷ does 0 (Out 0xcd8 4 0)
    ∷ reads 0 (In 0xcd8 4) 0
    ∷ reads 0 (In 0xcdc 1) 0x1
    ∷ does 0 (Out 0xcdd 1 0x3)
    ∷ reads 0 (In 0xce0 4) 0
    ∷ does 0 Halt
    ∷ []

-- the default area is locked by ff and then 02, and for good; from then on it is a hole, as is what lies past RAM
unfoldable pub default_area : List Entry
default_area =
    does 0 (Store 0x30000 4 0x11223344)
    ∷ does 0 (CfgWrite 0x9c 0x2)
    ∷ reads 0 (CfgRead 0x9c) 0
    ∷ does 0 (CfgWrite 0x9c 0xff)
    ∷ reads 0 (CfgRead 0x9c) 0x1
    ∷ reads 0 (Swap 0x30000 0x11223344 0x5) 0x11223344
    ∷ does 0 (CfgWrite 0x9c 0x2)
    ∷ reads 0 (Load 0x30000 8) 0xffffffffffffffff
    ∷ does 0 (CfgWrite 0x9c 0)
    ∷ reads 0 (CfgRead 0x9c) 0x2
    ∷ reads 0 (Load 0xfffffe 4) 0xffffffff
    ∷ does 0 Halt
    ∷ []

-- an inserted processor drops INIT while it waits for SIPI, and SIPI while it doesn't. Its SMI saves SMBASE, the
-- revision and RIP in the area at its default SMBASE, which isn't locked here.
unfoldable pub interrupts : List Entry
interrupts =
    inserts 1
    ∷ does 0 (Icr 0x1000000 0x500)
    ∷ does 0 (Icr 0x1000000 0x610)
    ∷ does 1 Halt
    ∷ does 0 (Icr 0x1000000 0x610)
    ∷ does 0 (Icr 0x1000000 0x500)
    ∷ takes_init 1
    ∷ does 0 (Icr 0x1000000 0x200)
    ∷ does 0 (Icr 0x1000000 0x610)
    ∷ takes_smi 1
    ∷ reads 0 (Load 0x3ff00 4) 0x30000
    ∷ reads 0 (Load 0x3fefc 4) 0x20064
    ∷ reads 0 (Load 0x3ff78 8) 0x10000
    ∷ does 0 Halt
    ∷ []

-- with INIT and an SMI latched, the SMI is taken: a boot processor comes to its handler, which is in memory from the start
unfoldable pub smi_before_init : List Entry
smi_before_init =
    does 0 (Icr 0x1000000 0x500)
    ∷ does 0 (Icr 0x1000000 0x200)
    ∷ does 0 Halt
    ∷ takes_smi 1
    ∷ does_at 1 0x7f38000 (Store 0x7f00001 1 0x1)
    ∷ []

-- INIT is taken instead
abbrev pub init_before_smi : List Entry
init_before_smi = with_entry 3 (takes_init 1) smi_before_init
