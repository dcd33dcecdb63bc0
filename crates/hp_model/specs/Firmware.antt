-- What the boot sequence and the handlers in SMM want of an event, and where its answer leads them.
use Rattle.std.specs.Prelude.{ℕ, Bool, true, false, not, ◌&&◌, ◌||◌, ◌==◌, Option, Some, None, option_map, option_and_then, slice_set, if◌then◌else◌}
use Rattle.std.specs.Option.{unwrap_or}
use Rattle.hp_model.specs.declared.platforms.Platform.{Platform}
use Rattle.hp_model.specs.declared.processors.Cpu.{Cpu}
use Rattle.hp_model.specs.declared.accesses.Access.{Access}
use Rattle.hp_model.specs.declared.accesses.Answer.{Answer}
use Rattle.hp_model.specs.declared.accesses.Answer.TheVariants.{Quiet}
use Rattle.hp_model.specs.declared.accesses.Want.{Want}
use Rattle.hp_model.specs.declared.accesses.Want.TheVariants as want
use Rattle.hp_model.specs.declared.outcomes.Outcome.{Outcome}
use Rattle.hp_model.specs.declared.outcomes.Outcome.TheVariants as outcome
use Rattle.hp_model.specs.declared.outcomes.Refusal.{Refusal}
use Rattle.hp_model.specs.declared.outcomes.Refusal.TheVariants as refusal
use Rattle.hp_model.specs.declared.labels.Label.{Label}
use Rattle.hp_model.specs.declared.entries.Event.{Event}
use Rattle.hp_model.specs.declared.entries.Event.TheVariants.{Insert, Remove, Do, TakeSmi, TakeInit, Resume, Tell}
use Rattle.hp_model.specs.Platform.{apic_of}
use Rattle.hp_model.specs.Memory.{byte_at}
use Rattle.hp_model.specs.View.{loaded}
use Rattle.hp_model.specs.Cpu.{is_in_smm, smm_address, moved}
use Rattle.hp_model.specs.Boot.{Stage, Boots, Refused, Handed, boot_access, value_in}
use Rattle.hp_model.specs.SharedBytes.{layout_of}
use Rattle.hp_model.specs.Monarch.{restarted, with_features}
use Rattle.hp_model.specs.Handlers.{Seat, Next, seat_of, label_of_mark, wanted_at, next_at, address_of_label}
use Rattle.hp_model.specs.State.{State, at}
use Rattle.hp_model.specs.Access.{same_access, stands_in_smm, answer_to}

-- two refusals, and two outcomes, are one where their kinds and fields are
unfoldable pub same_refusal : Refusal → Refusal → Bool
same_refusal (refusal.Disabled cpu status) (refusal.Disabled k t) = (cpu == k) && (status == t)
same_refusal (refusal.Both cpu status) (refusal.Both k t) = (cpu == k) && (status == t)
same_refusal (refusal.AlreadyKnown cpu apic slot) (refusal.AlreadyKnown k a t) = (cpu == k) && ((apic == a) && (slot == t))
same_refusal (refusal.GateHeld cpu apic held) (refusal.GateHeld k a h) = (cpu == k) && ((apic == a) && (held == h))
same_refusal (refusal.NotAtGate cpu apic) (refusal.NotAtGate k a) = (cpu == k) && (apic == a)
same_refusal (refusal.NotCheckedIn cpu apic) (refusal.NotCheckedIn k a) = (cpu == k) && (apic == a)
same_refusal (refusal.NoUnplug cpu features) (refusal.NoUnplug k f) = (cpu == k) && (features == f)
same_refusal (refusal.NotKnown cpu apic) (refusal.NotKnown k a) = (cpu == k) && (apic == a)
same_refusal (refusal.NotArrived cpu apic) (refusal.NotArrived k a) = (cpu == k) && (apic == a)
same_refusal (refusal.NotParked cpu apic) (refusal.NotParked k a) = (cpu == k) && (apic == a)
same_refusal (refusal.Foreign cpu apic) (refusal.Foreign k a) = (cpu == k) && (apic == a)
same_refusal (refusal.StillPending cpu status) (refusal.StillPending k t) = (cpu == k) && (status == t)
same_refusal _ _ = false

unfoldable pub same_outcome : Outcome → Outcome → Bool
same_outcome (outcome.Added cpu apic slot) (outcome.Added k a t) = (cpu == k) && ((apic == a) && (slot == t))
same_outcome (outcome.Ejected cpu apic slot) (outcome.Ejected k a t) = (cpu == k) && ((apic == a) && (slot == t))
same_outcome (outcome.Refused why) (outcome.Refused other) = same_refusal why other
same_outcome _ _ = false

-- the four bytes at the instruction address of a processor in SMM, as it loads them
unfoldable pub mark_at : State → ℕ → Option ℕ
mark_at s k = option_map (λ address. loaded s.locks true (byte_at s.writes) address 4) (smm_address (at s k))

-- the label whose row a processor in SMM has, by the mark where it stands
unfoldable pub label_at : Platform → State → ℕ → Option Label
label_at p s k = option_and_then (label_of_mark (layout_of p) s.monarch k (at s k).smbase) (mark_at s k)

-- who stands there
abbrev pub seat : Platform → State → ℕ → Seat
seat p s k = seat_of (layout_of p) (apic_of p k) (at s k).smbase (at s k).base

-- what a processor in SMM wants; none where it has no row
abbrev pub wanted : Platform → State → ℕ → Option Want
wanted p s k = wanted_at (layout_of p) s.monarch (seat p s k) (label_at p s k)

abbrev pub is_that_access : Option Want → Access → Bool
is_that_access None a = false
is_that_access (Some (want.Do b)) a = same_access a b
is_that_access (Some (want.Tell o)) a = false
is_that_access (Some want.Resume) a = false

abbrev pub is_that_outcome : Option Want → Outcome → Bool
is_that_outcome None o = false
is_that_outcome (Some (want.Do a)) o = false
is_that_outcome (Some (want.Tell t)) o = same_outcome o t
is_that_outcome (Some want.Resume) o = false

abbrev pub is_rsm : Option Want → Bool
is_rsm None = false
is_rsm (Some (want.Do a)) = false
is_rsm (Some (want.Tell o)) = false
is_rsm (Some want.Resume) = true

-- before the hand-over only the boot sequence steps, on processor 0
abbrev pub is_boots : ℕ → ℕ → ℕ → Event → Bool
is_boots mib done supported (Insert k) = false
is_boots mib done supported (Remove k) = false
is_boots mib done supported (Do k a) = (k == 0) && same_access a (boot_access mib supported done)
is_boots mib done supported (TakeSmi k) = false
is_boots mib done supported (TakeInit k) = false
is_boots mib done supported (Resume k) = false
is_boots mib done supported (Tell o) = false

-- after the hand-over a processor in SMM does what its handler wants, and nothing else
abbrev pub is_handlers : Platform → State → Event → Bool
is_handlers p s (Insert k) = true
is_handlers p s (Remove k) = true
is_handlers p s (Do k a) = not (is_in_smm (at s k).mode) || is_that_access (wanted p s k) a
is_handlers p s (TakeSmi k) = true
is_handlers p s (TakeInit k) = true
is_handlers p s (Resume k) = is_rsm (wanted p s k)
is_handlers p s (Tell o) = is_that_outcome (wanted p s 0) o

-- nothing is wanted after a refusal
abbrev pub wanted_in : Platform → State → Stage → Event → Bool
wanted_in p s (Boots done supported) e = is_boots p.tseg_mib done supported e
wanted_in p s (Refused fact) e = false
wanted_in p s (Handed requested) e = is_handlers p s e

abbrev pub is_wanted : Platform → State → Event → Bool
is_wanted p s e = wanted_in p s s.stage e

-- where a handler's row leads: its processor goes on at the next label, if it is still in SMM, and the monarch's record with it
abbrev pub moved_in_smm : ℕ → Next → Cpu → Cpu
moved_in_smm smbase n c = if stands_in_smm c then moved (address_of_label smbase n.label) n.base c else c

abbrev pub with_next : ℕ → ℕ → Next → State → State
with_next k smbase n t = record t { cpus = slice_set t.cpus k (moved_in_smm smbase n (at t k)); monarch = n.monarch }

-- the state t after a processor's event in SMM, where its answer has led its row in s on
abbrev pub row_effect : Platform → State → ℕ → Answer → Option Label → State → State
row_effect p s k answer None t = t
row_effect p s k answer (Some l) t = with_next k (at s k).smbase (next_at (layout_of p) (seat p s k) s.monarch l (value_in answer)) t

-- SMI entry of processor 0 begins a session of the monarch
abbrev pub with_session : ℕ → State → State
with_session k t = if k == 0 then record t { monarch = restarted t.monarch } else t

-- what the handlers make of an event
abbrev pub handlers_effect : Platform → State → Event → State → State
handlers_effect p s (Insert k) t = t
handlers_effect p s (Remove k) t = t
handlers_effect p s (Do k a) t = if is_in_smm (at s k).mode then row_effect p s k (answer_to (is_in_smm (at s k).mode) a s) (label_at p s k) t else t
handlers_effect p s (TakeSmi k) t = with_session k t
handlers_effect p s (TakeInit k) t = t
handlers_effect p s (Resume k) t = t
handlers_effect p s (Tell o) t = row_effect p s 0 Quiet (label_at p s 0) t

-- the boot tells the monarch the features that were agreed on, none as 0
abbrev pub with_agreed : State → State
with_agreed t = record t { monarch = with_features (unwrap_or t.fw_cfg.negotiated 0) t.monarch }

-- what the firmware makes of an event: the boot before the hand-over, the handlers after it
abbrev pub firmware_effect : Platform → State → Stage → Event → State → State
firmware_effect p s (Boots done supported) e t = with_agreed t
firmware_effect p s (Refused fact) e t = t
firmware_effect p s (Handed requested) e t = handlers_effect p s e t
