-- An add (own rule): the monarch leads one processor from the default SMBASE to the tile of its slot, in up to three attempts.
use Rattle.std.specs.Prelude.{ℕ, Bool, true, false, ◌==◌, nat_lt, nat_le, ◌+◌, ◌-◌, if◌then◌else◌}
use Rattle.hp_model.specs.declared.labels.Label.{Label}
use Rattle.hp_model.specs.declared.labels.Label.TheVariants.{N0, N8a, N8b, N9, N10, N11}
use Rattle.hp_model.specs.declared.outcomes.Outcome.{Outcome}
use Rattle.hp_model.specs.declared.outcomes.Outcome.TheVariants.{Added, Refused}
use Rattle.hp_model.specs.declared.outcomes.Refusal.TheVariants.{NotAtGate, NotCheckedIn}

pub record Add : Type 0 where
  pub cpu : ℕ
  pub apic : ℕ
  pub slot : ℕ
  pub attempt : ℕ  -- from 1 to 3
  pub polls : ℕ  -- looks left: pairs of flag and arrived byte while the gate is open, arrived bytes after that
  pub seen : Bool  -- whether one of them was 1 while the gate was open

-- the add of this processor, before its first attempt
abbrev pub add_of : ℕ → ℕ → ℕ → Add
add_of cpu apic slot = record { cpu = cpu; apic = apic; slot = slot; attempt = 0; polls = 0; seen = false }

-- where an answer leads the add: on at a label, or to its outcome
pub data AddNext : Type 0 where
  AddsAt : Label → Add → AddNext
  Ends : Outcome → AddNext

-- the first attempt begins
abbrev pub begun : Add → AddNext
begun a = AddsAt N0 (record a { attempt = 1 })

-- an attempt has failed: the next one begins, and the third ends the add
abbrev pub failed : Outcome → Add → AddNext
failed why a = if nat_lt a.attempt 3 then AddsAt N0 (record a { attempt = a.attempt + 1 }) else Ends why

-- from here on so many looks are taken
abbrev pub looks : Label → ℕ → Add → AddNext
looks l polls a = AddsAt l (record a { polls = polls })

abbrev pub is_last_look : Add → Bool
is_last_look a = nat_le a.polls 1

-- the flag was read, first of a pair: 1 tells that the processor has passed the gate
abbrev pub saw_flag : ℕ → Add → AddNext
saw_flag flag a = if flag == 1 then AddsAt N9 (record a { seen = true }) else AddsAt N8b a

-- the arrived byte was read, second of a pair
abbrev pub saw_pair : ℕ → Add → AddNext
saw_pair arrived a =
    if arrived == 1 then AddsAt N9 (record a { seen = true })
    else if is_last_look a then AddsAt N9 (record a { seen = false })
    else looks N8a (a.polls - 1) a

-- the gate is closed again
abbrev pub shut : Add → AddNext
shut a = if a.seen then AddsAt N10 a else failed (Refused (NotAtGate a.cpu a.apic)) a

-- the arrived byte was read after it was cleared: 1 tells that the processor stands at its own handler
abbrev pub saw_arrival : ℕ → Add → AddNext
saw_arrival arrived a =
    if arrived == 1 then Ends (Added a.cpu a.apic a.slot)
    else if is_last_look a then failed (Refused (NotCheckedIn a.cpu a.apic)) a
    else looks N11 (a.polls - 1) a
