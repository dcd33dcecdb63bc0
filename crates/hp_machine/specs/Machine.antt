-- What contracts see of a machine, and which states of the model it stands for.
use Rattle.std.specs.Prelude.{◌≡◌, ℕ, Bool, ◌-◌, ◌++◌, take, drop, slice_set, length, ◌≤◌, List, [], Option, if◌then◌else◌}
use Rattle.hp_model.specs.declared.platforms.Platform.{Platform}
use Rattle.hp_model.specs.declared.processors.Cpu.{Cpu}
use Rattle.hp_model.specs.declared.accesses.Answer.{Answer}
use Rattle.hp_model.specs.declared.entries.Event.{Event}
use Rattle.hp_model.specs.declared.entries.Event.TheVariants.{Insert, Remove, Do, TakeSmi, TakeInit, Resume, Tell}
use Rattle.hp_model.specs.declared.processors.Kind.{Kind}
use Rattle.hp_model.specs.Platform.{is_late}
use Rattle.hp_model.specs.Cpu.{hit, cpu_at}
use Rattle.hp_model.specs.Interrupts.{hit_each}
use Rattle.hp_model.specs.View.{Locks}
use Rattle.hp_model.specs.Block.{Block, block_read}
use Rattle.hp_model.specs.Ich9.{Ich9, ich9_read}
use Rattle.hp_model.specs.FwCfg.{FwCfg, next_byte, advanced}
use Rattle.hp_model.specs.Fitting.{IsQuiet, FitsAccess}
use Rattle.hp_model.specs.State.{State, start}
use Rattle.hp_model.specs.Ports.{is_on_block, is_fw_cfg_data}
use Rattle.hp_model.specs.Step.{answer_of, effect_of}
use Rattle.hp_image.specs.declared.stores.Cell.{Cell}
use Rattle.hp_image.specs.Cells.{stored_cells}
use Rattle.hp_mem.specs.Kept.{Kept, StandsFor as MemoryStandsFor}

-- the memory's bytes are all that is seen of the writes that made them
pub record Machine : Type 0 where
  pub apic : List ℕ
  pub memory : Kept
  pub locks : Locks
  pub cpus : List Cpu
  pub block : Block
  pub ich9 : Ich9
  pub fw_cfg : FwCfg
  pub ejected : Option ℕ  -- the processor that the last step ejected
  pub late : Bool  -- whether a latched SMI may be taken later than at once
  pub x2apic : Bool  -- whether the high half of an interrupt command is an APIC ID

-- the machine stands for this state of the model: its memory by the writes, all else by equality.
-- Where the boot stands and what the monarch keeps aren't the machine's to know.
pub record StandsFor (p : Platform) (m : Machine) (s : State) : Type 0 where
  pub apic : m.apic ≡ p.apic
  pub memory : MemoryStandsFor m.memory s.writes
  pub locks : m.locks ≡ s.locks
  pub cpus : m.cpus ≡ s.cpus
  pub block : m.block ≡ s.block
  pub ich9 : m.ich9 ≡ s.ich9
  pub fw_cfg : m.fw_cfg ≡ s.fw_cfg
  pub late : m.late ≡ is_late p.delivery
  pub x2apic : m.x2apic ≡ p.x2apic

-- the answer is the event's in this state, and the machine stands for the state after it
pub record IsStep (p : Platform) (m : Machine) (s : State) (e : Event) (answer : Answer) : Type 0 where
  pub answers : answer ≡ answer_of s e
  pub state : StandsFor p m (effect_of p s e)

-- the answer fits the event: a value of the width that an access asks for, or none
abbrev pub FitsEvent : Event → Answer → Type 0
FitsEvent (Insert k) answer = IsQuiet answer
FitsEvent (Remove k) answer = IsQuiet answer
FitsEvent (Do k a) answer = FitsAccess a answer
FitsEvent (TakeSmi k) answer = IsQuiet answer
FitsEvent (TakeInit k) answer = IsQuiet answer
FitsEvent (Resume k) answer = IsQuiet answer
FitsEvent (Tell o) answer = IsQuiet answer

-- what a port reads, and what the read leaves of fw_cfg
abbrev pub port_value : ℕ → ℕ → Block → Ich9 → FwCfg → ℕ
port_value port width b i f =
    if is_on_block port then block_read b (port - 0xcd8) width
    else if is_fw_cfg_data port width then next_byte f
    else ich9_read i port width

abbrev pub port_read : ℕ → ℕ → FwCfg → FwCfg
port_read port width f = if is_fw_cfg_data port width then advanced 1 f else f

-- the processors once the one in place k is hit, if it is a target
abbrev pub hit_at : Bool → Kind → ℕ → List Cpu → List Cpu
hit_at is_aimed kind k cs = if is_aimed then slice_set cs k (hit kind (cpu_at cs k)) else cs

-- the processors once those from place k on are hit too
unfoldable pub hit_from : (ℕ → Bool) → Kind → ℕ → List ℕ → List Cpu → List Cpu
hit_from aims kind k ids cs = take k cs ++ hit_each aims kind (drop k ids) (drop k cs)

abbrev pub most_processors : ℕ
most_processors = 512

-- as many processors, slots of the block and APIC IDs, and no more than are possible
pub record IsSized (apic : List ℕ) (cpus : List Cpu) (block : Block) : Type 0 where
  pub same_cpus : length cpus ≡ length apic
  pub same_slots : length block.slots ≡ length apic
  pub few : length apic ≤ most_processors

-- the machine before its first step, with these cells in memory
abbrev pub started : Platform → List Cell → State
started p cells = record (start p) { writes = stored_cells cells [] }
