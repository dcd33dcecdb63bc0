-- An eject (own rule): the monarch has one processor park in its handler, and has the register block eject it.
use Rattle.std.specs.Prelude.{ℕ, Bool, ◌==◌, nat_le, ◌-◌, bit_and, if◌then◌else◌}
use Rattle.hp_model.specs.declared.labels.Label.{Label}
use Rattle.hp_model.specs.declared.labels.Label.TheVariants.{E2, E3, E4a, E4c, E4f, E4h}
use Rattle.hp_model.specs.declared.outcomes.Outcome.{Outcome}
use Rattle.hp_model.specs.declared.outcomes.Outcome.TheVariants.{Ejected, Refused}
use Rattle.hp_model.specs.declared.outcomes.Refusal.TheVariants.{NotParked, StillPending}

pub record Eject : Type 0 where
  pub cpu : ℕ
  pub apic : ℕ
  pub slot : ℕ
  pub polls : ℕ  -- looks left at its parked byte
  pub status : ℕ  -- the status byte that was read after control was written, where its bit 4 was set

-- the eject of this processor, before its first look
abbrev pub eject_of : ℕ → ℕ → ℕ → Eject
eject_of cpu apic slot = record { cpu = cpu; apic = apic; slot = slot; polls = 0; status = 0 }

-- where an answer leads the eject: on at a label, or to its outcome
pub data EjectNext : Type 0 where
  EjectsAt : Label → Eject → EjectNext
  EjectEnds : Outcome → EjectNext

-- from here on so many looks are taken
abbrev pub awaits : ℕ → Eject → EjectNext
awaits polls j = EjectsAt E2 (record j { polls = polls })

-- the parked byte was read: 1 tells that the processor stays in its handler
abbrev pub saw_parked : ℕ → Eject → EjectNext
saw_parked parked j =
    if parked == 1 then EjectsAt E4a j
    else if nat_le j.polls 1 then EjectsAt E3 j
    else awaits (j.polls - 1) j

-- it is no longer asked to park
abbrev pub unparked : Eject → EjectNext
unparked j = EjectEnds (Refused (NotParked j.cpu j.apic))

-- control 8 was written; where others may have moved the selector meanwhile, the processor is selected again and the status looked at
abbrev pub handed_to_block : Bool → Label
handed_to_block late = if late then E4f else E4c

-- the status was read: with bit 4 set the processor isn't taken as ejected
abbrev pub saw_status : ℕ → Eject → EjectNext
saw_status status j = if bit_and status 0x10 == 0x10 then EjectsAt E4h (record j { status = status }) else EjectsAt E4c j

abbrev pub given_up : Eject → EjectNext
given_up j = EjectEnds (Refused (StillPending j.cpu j.status))

-- its bytes are cleared
abbrev pub gone : Eject → EjectNext
gone j = EjectEnds (Ejected j.cpu j.apic j.slot)
