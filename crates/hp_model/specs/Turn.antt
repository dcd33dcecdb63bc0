-- What an actor's turn makes of a state: an event that is a step, the question to its voice, or nothing.
use Rattle.std.specs.Prelude.{ℕ, ◌==◌, ◌&&◌, not, Option, Some, None, if◌then◌else◌}
use Rattle.hp_model.specs.declared.platforms.Platform.{Platform}
use Rattle.hp_model.specs.declared.accesses.Want.{Want}
use Rattle.hp_model.specs.declared.accesses.Want.TheVariants as want
use Rattle.hp_model.specs.declared.entries.Actor.{Actor}
use Rattle.hp_model.specs.declared.entries.Actor.TheVariants as actor
use Rattle.hp_model.specs.declared.entries.Event.{Event}
use Rattle.hp_model.specs.declared.entries.Event.TheVariants as event
use Rattle.hp_model.specs.Boot.{Stage, Boots, Refused, Handed, boot_access}
use Rattle.hp_model.specs.Cpu.{is_free, may_take_smi, may_take_init}
use Rattle.hp_model.specs.Platform.{is_late}
use Rattle.hp_model.specs.State.{State, at}
use Rattle.hp_model.specs.Access.{stands_in_smm}
use Rattle.hp_model.specs.Firmware.{wanted}
use Rattle.hp_model.specs.Step.{is_enabled}
use Rattle.hp_model.specs.declared.turns.Due.{Due}
use Rattle.hp_model.specs.declared.turns.Due.TheVariants.{Idle, Makes, Asks}

abbrev pub makes_if : Platform → State → Event → Due
makes_if p s e = if is_enabled p s e then Makes e else Idle

-- before the hand-over processor 0 makes the boot's next access
abbrev pub boot_due : Platform → State → ℕ → ℕ → Actor → Due
boot_due p s done supported (actor.Insert k) = Idle
boot_due p s done supported (actor.Remove k) = Idle
boot_due p s done supported (actor.Cpu k) = if k == 0 then makes_if p s (event.Do 0 (boot_access p.tseg_mib supported done)) else Idle
boot_due p s done supported (actor.Smi k) = Idle

-- in SMM a processor does what its handler wants; outcomes are told by processor 0
abbrev pub smm_due : Platform → State → ℕ → Option Want → Due
smm_due p s k None = Idle
smm_due p s k (Some (want.Do a)) = makes_if p s (event.Do k a)
smm_due p s k (Some (want.Tell o)) = if k == 0 then makes_if p s (event.Tell o) else Idle
smm_due p s k (Some want.Resume) = makes_if p s (event.Resume k)

-- a processor takes a latched SMI that doesn't come late, else a latched INIT, else in SMM does what its handler wants, and its voice is asked where it
-- runs
abbrev pub cpu_due : Platform → State → ℕ → Due
cpu_due p s k =
    if not (is_late p.delivery) && may_take_smi (at s k) then Makes (event.TakeSmi k)
    else if may_take_init (at s k) then Makes (event.TakeInit k)
    else if stands_in_smm (at s k) then smm_due p s k (wanted p s k)
    else if is_free (is_late p.delivery) (at s k) then Asks k
    else Idle

abbrev pub handed_due : Platform → State → Actor → Due
handed_due p s (actor.Insert k) = makes_if p s (event.Insert k)
handed_due p s (actor.Remove k) = makes_if p s (event.Remove k)
handed_due p s (actor.Cpu k) = cpu_due p s k
handed_due p s (actor.Smi k) = makes_if p s (event.TakeSmi k)

-- after a refusal nothing is due
abbrev pub due_in : Platform → State → Stage → Actor → Due
due_in p s (Boots done supported) a = boot_due p s done supported a
due_in p s (Refused fact) a = Idle
due_in p s (Handed requested) a = handed_due p s a

abbrev pub due_of : Platform → State → Actor → Due
due_of p s a = due_in p s s.stage a
