-- The SMM state save area (own layout): what SMI entry stores at a processor's own SMBASE, and what RSM reads back.
use Rattle.std.specs.Prelude.{ℕ, true, ◌+◌, ◌*◌, List}
use Rattle.hp_model.specs.declared.processors.Cpu.{Cpu}
use Rattle.hp_model.specs.Memory.{Write, byte_at}
use Rattle.hp_model.specs.View.{Locks, loaded, stored}
use Rattle.hp_model.specs.Cpu.{page_of}

-- the three fields, from SMBASE: SMBASE itself, the revision, RIP
abbrev pub smbase_field : ℕ
smbase_field = 0xff00

abbrev pub revision_field : ℕ
revision_field = 0xfefc

abbrev pub rip_field : ℕ
rip_field = 0xff78

abbrev pub revision : ℕ
revision = 0x20064

-- RIP outside SMM is the page's first address (own rule)
abbrev pub rip_of : Cpu → ℕ
rip_of c = page_of c.mode * 0x1000

-- SMI entry stores SMBASE, revision and RIP, in this order, as accesses made in SMM
unfoldable pub saved : Locks → Cpu → List Write → List Write
saved l c ws =
    stored l true (c.smbase + rip_field) 8 (rip_of c)
    (stored l true (c.smbase + revision_field) 4 revision
    (stored l true (c.smbase + smbase_field) 4 c.smbase ws))

-- what RSM loads, likewise
unfoldable pub saved_smbase : Locks → List Write → Cpu → ℕ
saved_smbase l ws c = loaded l true (byte_at ws) (c.smbase + smbase_field) 4

unfoldable pub saved_rip : Locks → List Write → Cpu → ℕ
saved_rip l ws c = loaded l true (byte_at ws) (c.smbase + rip_field) 8
