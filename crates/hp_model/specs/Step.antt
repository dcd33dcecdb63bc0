-- One step of the machine and its firmware: a table of events over guards and effects, where the boot sequence and the handlers in SMM say what is wanted.
use Rattle.std.specs.Prelude.{ℕ, Bool, not, ◌&&◌, ◌||◌, ◌==◌, nat_lt, List, Option, Some, None, slice_set, if◌then◌else◌}
use Rattle.hp_model.specs.declared.platforms.Platform.{Platform}
use Rattle.hp_model.specs.declared.processors.Cpu.{Cpu}
use Rattle.hp_model.specs.declared.accesses.Access.{Access}
use Rattle.hp_model.specs.declared.accesses.Answer.{Answer}
use Rattle.hp_model.specs.declared.accesses.Answer.TheVariants.{Quiet}
use Rattle.hp_model.specs.declared.labels.Label.{Label}
use Rattle.hp_model.specs.declared.labels.Label.TheVariants.{S2, E6, E7}
use Rattle.hp_model.specs.declared.entries.Event.{Event}
use Rattle.hp_model.specs.declared.entries.Event.TheVariants.{Insert, Remove, Do, TakeSmi, TakeInit, Resume, Tell}
use Rattle.hp_model.specs.Platform.{count_of, is_late}
use Rattle.hp_model.specs.Cpu.{inserted, cpu_at, is_in_smm, may_take_smi, take_smi, may_take_init, take_init, resumed}
use Rattle.hp_model.specs.Block.{with_insert, with_removal}
use Rattle.hp_model.specs.Ich9.{with_event, processor_event}
use Rattle.hp_model.specs.Boot.{stage_after}
use Rattle.hp_model.specs.SaveArea.{saved, saved_smbase, saved_rip}
use Rattle.hp_model.specs.Labels.{index_of, same_label}
use Rattle.hp_model.specs.State.{State, at, set_cpu}
use Rattle.hp_model.specs.Ports.{writes_block}
use Rattle.hp_model.specs.Access.{is_normal, stands_in_smm, may_access, answer_to, access_effect}
use Rattle.hp_model.specs.Firmware.{is_wanted, firmware_effect}

-- what a step answers, and the state after it
pub record After : Type 0 where
  pub answer : Answer
  pub state : State

-- by presence, modes and latches alone: what the machine can do, where SMIs may come late or not, with so many possible processors
abbrev pub can_do : Bool → ℕ → List Cpu → Event → Bool
can_do late count cs (Insert k) = nat_lt k count && not (cpu_at cs k).present
can_do late count cs (Remove k) = not (k == 0) && (cpu_at cs k).present
can_do late count cs (Do k a) = is_normal a && may_access late (cpu_at cs k) a
can_do late count cs (TakeSmi k) = may_take_smi (cpu_at cs k)
can_do late count cs (TakeInit k) = may_take_init (cpu_at cs k)
can_do late count cs (Resume k) = stands_in_smm (cpu_at cs k)
can_do late count cs (Tell o) = stands_in_smm (cpu_at cs 0)

abbrev pub is_enabled : Platform → State → Event → Bool
is_enabled p s e = can_do (is_late p.delivery) (count_of p) s.cpus e

-- host events: a processor comes, and its removal is requested; both are announced in the GPE status
abbrev pub insert : ℕ → State → State
insert k s = record s { cpus = slice_set s.cpus k inserted; block = with_insert s.block k; ich9 = with_event processor_event s.ich9 }

abbrev pub request_removal : ℕ → State → State
request_removal k s = record s { block = with_removal s.block k; ich9 = with_event processor_event s.ich9 }

-- SMI entry, with its three fields
abbrev pub enter_smm : ℕ → State → State
enter_smm k s = record s { writes = saved s.locks (at s k) s.writes; cpus = slice_set s.cpus k (take_smi (at s k)) }

-- RSM, with the two fields that it reads
abbrev pub leave_smm : ℕ → State → State
leave_smm k s = set_cpu k (resumed (saved_smbase s.locks s.writes (at s k)) (saved_rip s.locks s.writes (at s k)) (at s k)) s

abbrev pub answer_of : State → Event → Answer
answer_of s (Insert k) = Quiet
answer_of s (Remove k) = Quiet
answer_of s (Do k a) = answer_to (is_in_smm (at s k).mode) a s
answer_of s (TakeSmi k) = Quiet
answer_of s (TakeInit k) = Quiet
answer_of s (Resume k) = Quiet
answer_of s (Tell o) = Quiet

abbrev pub effect_of : Platform → State → Event → State
effect_of p s (Insert k) = insert k s
effect_of p s (Remove k) = request_removal k s
effect_of p s (Do k a) = access_effect p k (is_in_smm (at s k).mode) a s
effect_of p s (TakeSmi k) = enter_smm k s
effect_of p s (TakeInit k) = set_cpu k (take_init (at s k)) s
effect_of p s (Resume k) = leave_smm k s
effect_of p s (Tell o) = s

-- the labels that come after S2 in a session, up to E5
abbrev pub is_after_broadcast : Label → Bool
is_after_broadcast l = nat_lt (index_of S2) (index_of l) && not (same_label l E6 || same_label l E7)

-- the access of processor k disturbs a session from outside SMM, and the monarch's S2 begins anew
abbrev pub disturbs : State → ℕ → Access → Bool
disturbs s k a =
    if is_in_smm (at s k).mode then not ((k == 0) && same_label s.monarch.label S2) && s.disturbed
    else s.disturbed || (writes_block a && is_after_broadcast s.monarch.label)

abbrev pub is_disturbed_by : State → Event → Bool
is_disturbed_by s (Insert k) = s.disturbed
is_disturbed_by s (Remove k) = s.disturbed
is_disturbed_by s (Do k a) = disturbs s k a
is_disturbed_by s (TakeSmi k) = s.disturbed
is_disturbed_by s (TakeInit k) = s.disturbed
is_disturbed_by s (Resume k) = s.disturbed
is_disturbed_by s (Tell o) = s.disturbed

-- an event's answer and the state after it, where the firmware has gone on
abbrev pub after : Platform → State → Event → After
after p s e =
    record {
      answer = answer_of s e;
      state = record (firmware_effect p s s.stage e (effect_of p s e)) {
        stage = stage_after p.tseg_mib (answer_of s e) s.stage;
        disturbed = is_disturbed_by s e;
      };
    }

-- nothing where the event isn't enabled, or isn't what the boot sequence or a handler wants
unfoldable pub step : Platform → State → Event → Option After
step p s e = if is_enabled p s e && is_wanted p s e then Some (after p s e) else None
