-- What contracts see of a machine with its firmware, and which states of the model it shows.
use Rattle.std.specs.Prelude.{◌≡◌, ⊤, ℕ, Bool, true, false, ◌&&◌, ◌||◌, ◌==◌, not, List, Some, if◌then◌else◌}
use Rattle.hp_model.specs.declared.platforms.Platform.{Platform}
use Rattle.hp_model.specs.declared.entries.Event.{Event}
use Rattle.hp_model.specs.declared.entries.Event.TheVariants.{Insert, Remove, Do, TakeSmi, TakeInit, Resume, Tell}
use Rattle.hp_model.specs.declared.labels.Label.{Label}
use Rattle.hp_model.specs.declared.processors.Cpu.{Cpu}
use Rattle.hp_model.specs.declared.processors.Mode.{Mode}
use Rattle.hp_model.specs.declared.processors.Mode.TheVariants.{Wait, Running, Halted, Smm}
use Rattle.hp_model.specs.declared.turns.Due.{Due}
use Rattle.hp_model.specs.declared.turns.Due.TheVariants as due
use Rattle.hp_model.specs.Boot.{is_booting, is_handed}
use Rattle.hp_model.specs.Cpu.{is_in_smm, moved}
use Rattle.hp_model.specs.Monarch.{restarted}
use Rattle.hp_model.specs.Platform.{IsFit, apic_of}
use Rattle.hp_model.specs.SharedBytes.{Layout, layout_of}
use Rattle.hp_model.specs.State.{State, at}
use Rattle.hp_model.specs.Access.{stands_in_smm}
use Rattle.hp_model.specs.Firmware.{mark_at, is_wanted}
use Rattle.hp_model.specs.Step.{is_enabled}
use Rattle.hp_boot.specs.Booting.{Booting}
use Rattle.hp_machine.specs.Machine.{Machine, StandsFor as MachineStandsFor}
use Rattle.hp_monarch.specs.Session.{Session}
use Rattle.hp_smm.specs.Rows.{row_for}
use Rattle.hp_smm.specs.declared.handlers.SmmCpu.{SmmCpu}
use Rattle.hp_platform.specs.declared.findings.Found.{Found}
use Rattle.hp_platform.specs.declared.findings.Found.TheVariants.{Boot, Row, Plain}
use Rattle.hp_platform.specs.declared.findings.Finding.{Finding}
use Rattle.hp_platform.specs.declared.findings.Finding.TheVariants as finding

pub record Board : Type 0 where
  pub platform : Platform
  pub machine : Machine
  pub boot : Booting
  pub handlers : Session

-- the machine and the handlers are those of a platform that fits
pub record IsOf (p : Platform) (ids : List ℕ) (y : Layout) : Type 0 where
  pub fit : IsFit p
  pub apic : ids ≡ p.apic
  pub layout : y ≡ layout_of p

-- the machine stands for the state, the boot stands where it does, and the handlers keep its record of the monarch
pub record StandsFor (b : Board) (s : State) : Type 0 where
  pub state : MachineStandsFor b.platform b.machine s
  pub mib : b.boot.mib ≡ b.platform.tseg_mib
  pub stage : b.boot.stage ≡ s.stage
  pub layout : b.handlers.layout ≡ layout_of b.platform
  pub monarch : b.handlers.monarch ≡ s.monarch

-- what the handlers are told of a processor in SMM
pub record IsSmmCpu (p : Platform) (s : State) (k : ℕ) (x : SmmCpu) : Type 0 where
  pub cpu : x.cpu ≡ k
  pub apic : x.apic ≡ apic_of p k
  pub smbase : x.smbase ≡ (at s k).smbase
  pub base : x.base ≡ (at s k).base
  pub mark : mark_at s k ≡ Some x.mark

abbrev pub is_step : Platform → State → Event → Bool
is_step p s e = is_enabled p s e && is_wanted p s e

-- a state that the board shows has the event as a step
pub record IsReady (b : Board) (e : Event) : Type 0 where
  pub state : State
  pub shows : StandsFor b state
  pub is : is_step b.platform state e ≡ true

-- the event is what a row of this processor makes: an access, or of processor 0 an outcome that is told
abbrev pub IsRowEvent : ℕ → Event → Type 0
IsRowEvent k (Insert j) = ⊥
IsRowEvent k (Remove j) = ⊥
IsRowEvent k (Do j a) = j ≡ k
IsRowEvent k (TakeSmi j) = ⊥
IsRowEvent k (TakeInit j) = ⊥
IsRowEvent k (Resume j) = ⊥
IsRowEvent k (Tell o) = k ≡ 0

-- the event is no row's answer: an access is made outside SMM
abbrev pub IsPlain : State → Event → Type 0
IsPlain s (Insert k) = ⊤
IsPlain s (Remove k) = ⊤
IsPlain s (Do k a) = is_in_smm (at s k).mode ≡ false
IsPlain s (TakeSmi k) = ⊤
IsPlain s (TakeInit k) = ⊤
IsPlain s (Resume k) = ⊤
IsPlain s (Tell o) = ⊥

-- what was found of a row: where its processor stands, and its label
pub record IsRow (b : Board) (x : SmmCpu) (l : Label) (e : Event) : Type 0 where
  pub handed : is_handed b.boot.stage ≡ true
  pub stands : (s : State) → StandsFor b s → IsSmmCpu b.platform s x.cpu x
  pub label : row_for b.handlers x ≡ Some l
  pub event : IsRowEvent x.cpu e

pub record IsOther (b : Board) (e : Event) : Type 0 where
  pub handed : is_handed b.boot.stage ≡ true
  pub plain : (s : State) → StandsFor b s → IsPlain s e

abbrev pub IsFound : Board → Found → Type 0
IsFound b (Boot e) = is_booting b.boot.stage ≡ true
IsFound b (Row x l e) = IsRow b x l e
IsFound b (Plain e) = IsOther b e

-- the step that was found, and what a turn comes to
abbrev pub event_of : Found → Event
event_of (Boot e) = e
event_of (Row x l e) = e
event_of (Plain e) = e

abbrev pub due_by : Finding → Due
due_by finding.Idle = due.Idle
due_by (finding.Makes f) = due.Makes (event_of f)
due_by (finding.Asks k) = due.Asks k

abbrev pub IsFinding : Board → Finding → Type 0
IsFinding b finding.Idle = ⊤
IsFinding b (finding.Makes f) = IsFound b f
IsFinding b (finding.Asks k) = ⊤

-- outside SMM a processor that is absent, that waits for SIPI, or that is halted with nothing latched has nothing to do
abbrev pub rests : Mode → Bool → Bool
rests Wait latched = true
rests (Running page) latched = false
rests (Halted page) latched = not latched
rests (Smm address) latched = false

abbrev pub is_asleep : Cpu → Bool
is_asleep c = not c.present || rests c.mode (c.smi || c.init)

-- a processor that is in SMM goes on at this instruction address, with this base
abbrev pub moved_to : ℕ → ℕ → Cpu → Cpu
moved_to address base c = if stands_in_smm c then moved address base c else c

-- SMI entry of processor 0 begins a session; no other event is told to the handlers but as an answer
abbrev pub session_after : Event → Session → Session
session_after (Insert k) h = h
session_after (Remove k) h = h
session_after (Do k a) h = h
session_after (TakeSmi k) h = if k == 0 then record h { monarch = restarted h.monarch } else h
session_after (TakeInit k) h = h
session_after (Resume k) h = h
session_after (Tell o) h = h
