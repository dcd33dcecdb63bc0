-- The state of the machine and its firmware, and where each run starts.
use Rattle.std.specs.Prelude.{ℕ, Bool, false, List, slice_set}
use Rattle.hp_model.specs.declared.platforms.Platform.{Platform}
use Rattle.hp_model.specs.declared.processors.Cpu.{Cpu}
use Rattle.hp_model.specs.Memory.{Write}
use Rattle.hp_model.specs.View.{Locks, locks_start}
use Rattle.hp_model.specs.Cpu.{cpus_start, cpu_at}
use Rattle.hp_model.specs.Block.{Block, block_start}
use Rattle.hp_model.specs.Ich9.{Ich9, ich9_start}
use Rattle.hp_model.specs.FwCfg.{FwCfg, fw_cfg_start}
use Rattle.hp_model.specs.Boot.{Stage, boot_start}
use Rattle.hp_model.specs.Image.{image}
use Rattle.hp_model.specs.Monarch.{Monarch, monarch_start}

-- the machine and its firmware
pub record State : Type 0 where
  pub cpus : List Cpu
  pub writes : List Write
  pub locks : Locks
  pub block : Block
  pub ich9 : Ich9
  pub fw_cfg : FwCfg
  pub monarch : Monarch  -- the record that the handler of processor 0 keeps
  pub stage : Stage
  pub disturbed : Bool  -- set where a processor outside SMM writes to the register block after the monarch's S2, up to its E5; cleared at its S2

-- the machine before its first step: memory holds the handlers' marks
abbrev pub start : Platform → State
start p =
    record {
      cpus = cpus_start p;
      writes = image p;
      locks = locks_start p;
      block = block_start p;
      ich9 = ich9_start;
      fw_cfg = fw_cfg_start p.features;
      monarch = monarch_start p;
      stage = boot_start;
      disturbed = false;
    }

abbrev pub at : State → ℕ → Cpu
at s k = cpu_at s.cpus k

abbrev pub set_cpu : ℕ → Cpu → State → State
set_cpu k c s = record s { cpus = slice_set s.cpus k c }
