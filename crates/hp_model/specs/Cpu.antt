-- Processors: presence, modes and latches (Intel SDM vol. 3, System Management Mode and APIC).
use Rattle.std.specs.Prelude.{ℕ, Bool, true, false, ◌&&◌, ◌||◌, not, ◌+◌, ◌-◌, ◌/◌, ◌%◌, List, [], ◌∷◌, Option, Some, None, slice_index_or, slice_set, replicate, if◌then◌else◌}
use Rattle.hp_model.specs.declared.platforms.Platform.{Platform}
use Rattle.hp_model.specs.declared.processors.Mode.{Mode}
use Rattle.hp_model.specs.declared.processors.Mode.TheVariants.{Wait, Running, Halted, Smm}
use Rattle.hp_model.specs.declared.processors.Cpu.{Cpu}
use Rattle.hp_model.specs.declared.processors.Kind.{Kind}
use Rattle.hp_model.specs.declared.processors.Kind.TheVariants.{Smi, Init, Start}
use Rattle.hp_model.specs.Platform.{count_of, tile}

-- a processor that isn't there
abbrev pub absent : Cpu
absent = record { present = false; mode = Wait; smbase = 0x30000; smi = false; init = false; base = 0 }

-- a boot processor at the start: it runs at page 0 and has its own SMBASE (own rule)
abbrev pub booted : ℕ → Cpu
booted smbase = record { present = true; mode = Running 0; smbase = smbase; smi = false; init = false; base = 0 }

-- the boot processors at the tiles of their slots, the first of these at this slot
unfoldable pub boot_cpus : Platform → ℕ → List ℕ → List Cpu → List Cpu
boot_cpus p slot [] cs = cs
boot_cpus p slot (b ∷ bs) cs = boot_cpus p (slot + 1) bs (slice_set cs b (booted (tile p slot)))

-- the processors at the start: the boot processors, all others absent
unfoldable pub cpus_start : Platform → List Cpu
cpus_start p = boot_cpus p 0 p.boot (replicate (count_of p) absent)

-- the processor in a place; in a place that isn't possible there is none
abbrev pub cpu_at : List Cpu → ℕ → Cpu
cpu_at cs k = slice_index_or cs k absent

abbrev pub is_running : Mode → Bool
is_running Wait = false
is_running (Running page) = true
is_running (Halted page) = false
is_running (Smm address) = false

abbrev pub is_waiting : Mode → Bool
is_waiting Wait = true
is_waiting (Running page) = false
is_waiting (Halted page) = false
is_waiting (Smm address) = false

-- outside SMM, and not waiting for SIPI
abbrev pub is_outside : Mode → Bool
is_outside Wait = false
is_outside (Running page) = true
is_outside (Halted page) = true
is_outside (Smm address) = false

abbrev pub is_in_smm : Mode → Bool
is_in_smm Wait = false
is_in_smm (Running page) = false
is_in_smm (Halted page) = false
is_in_smm (Smm address) = true

-- the page outside SMM, 0 elsewhere
abbrev pub page_of : Mode → ℕ
page_of Wait = 0
page_of (Running page) = page
page_of (Halted page) = page
page_of (Smm address) = 0

-- the instruction address in SMM
abbrev pub address_in : Mode → Option ℕ
address_in Wait = None
address_in (Running page) = None
address_in (Halted page) = None
address_in (Smm address) = Some address

abbrev pub smm_address : Cpu → Option ℕ
smm_address c = if c.present then address_in c.mode else None

-- nothing is latched that goes before its next access: neither SMI nor INIT, but a latched SMI may come late (own rule)
abbrev pub is_unlatched : Bool → Cpu → Bool
is_unlatched late c = (late && c.smi) || (not c.smi && not c.init)

-- it may make any access: present, running outside SMM, and nothing goes before
abbrev pub is_free : Bool → Cpu → Bool
is_free late c = c.present && (is_running c.mode && is_unlatched late c)

-- a running processor halts at its page
abbrev pub halted : Mode → Mode
halted Wait = Wait
halted (Running page) = Halted page
halted (Halted page) = Halted page
halted (Smm address) = Smm address

-- HLT
abbrev pub halt : Cpu → Cpu
halt c = record c { mode = halted c.mode }

-- a host insert: present and waiting for SIPI, with the default SMBASE and no latch
abbrev pub inserted : Cpu
inserted = record absent { present = true }

-- SIPI starts a waiting processor at the vector's page; elsewhere it is dropped (own rule)
abbrev pub started : ℕ → Mode → Mode
started page Wait = Running page
started page (Running old) = Running old
started page (Halted old) = Halted old
started page (Smm address) = Smm address

-- what a hit does to a present processor: an SMI is latched in each mode, INIT in each but wait for SIPI (own rule), and no more than one of each
abbrev pub hit_present : Kind → Cpu → Cpu
hit_present Smi c = record c { smi = true }
hit_present Init c = if is_waiting c.mode then c else record c { init = true }
hit_present (Start page) c = record c { mode = started page c.mode }

abbrev pub hit : Kind → Cpu → Cpu
hit kind c = if c.present then hit_present kind c else c

-- SMI entry, outside SMM with the SMI latch set; it goes before INIT (own rule)
abbrev pub may_take_smi : Cpu → Bool
may_take_smi c = c.present && (c.smi && is_outside c.mode)

-- the SMI latch is cleared, and the first instruction lies at SMBASE + 8000
abbrev pub take_smi : Cpu → Cpu
take_smi c = record c { smi = false; mode = Smm (c.smbase + 0x8000) }

-- INIT, outside SMM without an SMI latch
abbrev pub may_take_init : Cpu → Bool
may_take_init c = c.present && (not c.smi && (c.init && is_outside c.mode))

-- the processor waits for SIPI, the boot processor too (own rule); SMBASE stays
abbrev pub take_init : Cpu → Cpu
take_init c = record c { init = false; mode = Wait }

-- RSM: SMBASE is what was read with bits 15:0 cleared, and the page is RIP / 1000 in 20 bits (own rules)
abbrev pub resumed : ℕ → ℕ → Cpu → Cpu
resumed smbase rip c = record c { smbase = smbase - smbase % 0x10000; mode = Running (rip / 0x1000 % 0x100000) }

-- the next instruction in SMM, and the base that the first handler loaded
abbrev pub moved : ℕ → ℕ → Cpu → Cpu
moved address base c = record c { mode = Smm address; base = base }
