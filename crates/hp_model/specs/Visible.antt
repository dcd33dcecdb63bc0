-- What a run shows to whoever is outside SMM (own rule): all of a state but the bytes in locked ranges and what SMM alone goes by.
use Rattle.std.specs.Prelude.{ℕ, ◌≡◌, Bool, true, false, map, Option, Some, None}
use Rattle.hp_model.specs.declared.processors.Mode.{Mode}
use Rattle.hp_model.specs.declared.processors.Mode.TheVariants.{Wait, Running, Halted, Smm}
use Rattle.hp_model.specs.declared.processors.Cpu.{Cpu}
use Rattle.hp_model.specs.declared.accesses.Answer.{Answer}
use Rattle.hp_model.specs.declared.accesses.Answer.TheVariants.{Quiet}
use Rattle.hp_model.specs.declared.entries.Event.{Event}
use Rattle.hp_model.specs.declared.entries.Event.TheVariants.{Insert, Remove, Do, TakeSmi, TakeInit, Resume, Tell}
use Rattle.hp_model.specs.declared.entries.Entry.{Entry}
use Rattle.hp_model.specs.Memory.{byte_at}
use Rattle.hp_model.specs.View.{is_locked}
use Rattle.hp_model.specs.Cpu.{is_in_smm}
use Rattle.hp_model.specs.State.{State, at}

-- a mode without its page or its instruction address
abbrev pub visible_mode : Mode → Mode
visible_mode Wait = Wait
visible_mode (Running page) = Running 0
visible_mode (Halted page) = Halted 0
visible_mode (Smm address) = Smm 0

-- a processor without these, without its SMBASE, and without the base that it has loaded
abbrev pub visible_cpu : Cpu → Cpu
visible_cpu c = record { present = c.present; mode = visible_mode c.mode; smbase = 0; smi = c.smi; init = c.init; base = 0 }

-- two states agree in all that is visible. The monarch's record isn't, and neither is whether its session is disturbed
pub record IsAlike (s t : State) : Type 0 where
  pub cpus : map visible_cpu s.cpus ≡ map visible_cpu t.cpus
  pub memory : (x : ℕ) → is_locked s.locks x ≡ false → byte_at s.writes x ≡ byte_at t.writes x
  pub locks : s.locks ≡ t.locks
  pub block : s.block ≡ t.block
  pub ich9 : s.ich9 ≡ t.ich9
  pub fw_cfg : s.fw_cfg ≡ t.fw_cfg
  pub stage : s.stage ≡ t.stage

-- an event of a handler: an access made in SMM, RSM, or an outcome that is told
abbrev pub is_made_in_smm : State → Event → Bool
is_made_in_smm s (Insert k) = false
is_made_in_smm s (Remove k) = false
is_made_in_smm s (Do k a) = is_in_smm (at s k).mode
is_made_in_smm s (TakeSmi k) = false
is_made_in_smm s (TakeInit k) = false
is_made_in_smm s (Resume k) = true
is_made_in_smm s (Tell o) = true

-- an entry made outside SMM is visible as it is; of one made in SMM neither the instruction address is, nor what it was answered
abbrev pub visible_by : Event → Option ℕ → Answer → Entry
visible_by event None answer = record { event = event; at = None; answer = answer }
visible_by event (Some address) answer = record { event = event; at = Some 0; answer = Quiet }

abbrev pub visible_entry : Entry → Entry
visible_entry e = visible_by e.event e.at e.answer
