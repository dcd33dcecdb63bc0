-- What the entries of a run, newest first, tell of APIC IDs (own rules): which are bound, known, and held after a refusal. No state is looked at.
use Rattle.std.specs.Prelude.{ℕ, Bool, true, false, ◌==◌, List, [], ◌∷◌, ◌++◌, Option, Some, None, option_and_then, if◌then◌else◌}
use Rattle.std.specs.Option.{unwrap_or}
use Rattle.hp_model.specs.declared.platforms.Platform.{Platform}
use Rattle.hp_model.specs.declared.accesses.Access.{Access}
use Rattle.hp_model.specs.declared.accesses.Access.TheVariants.{Load, Store, Swap, In, Out, CfgRead, CfgWrite, Icr, Halt, Nop}
use Rattle.hp_model.specs.declared.labels.Label.{Label}
use Rattle.hp_model.specs.declared.labels.Label.TheVariants.{N7}
use Rattle.hp_model.specs.declared.outcomes.Outcome.{Outcome}
use Rattle.hp_model.specs.declared.outcomes.Outcome.TheVariants.{Added, Ejected, Refused}
use Rattle.hp_model.specs.declared.outcomes.Refusal.{Refusal}
use Rattle.hp_model.specs.declared.outcomes.Refusal.TheVariants.{Disabled, Both, AlreadyKnown, GateHeld, NotAtGate, NotCheckedIn, NoUnplug, NotKnown, NotArrived, NotParked, Foreign, StillPending}
use Rattle.hp_model.specs.declared.entries.Entry.{Entry}
use Rattle.hp_model.specs.Block.{is_in}
use Rattle.hp_model.specs.Labels.{cell_of}
use Rattle.hp_model.specs.Slots.{boot_ids}
use Rattle.hp_model.specs.Monarch.{is_that}
use Rattle.hp_model.specs.Runs.{same_address}
use Rattle.hp_model.specs.Events.{access_in, outcome_in}

-- an entry is at a label of the monarch or of the first handler where its instruction address is the label's cell
abbrev pub is_at : Platform → Label → Entry → Bool
is_at p l e = same_address e.at (Some (cell_of p l 0))

-- the value that an access stores
abbrev pub stored_by : Access → Option ℕ
stored_by (Load addr width) = None
stored_by (Store addr width value) = Some value
stored_by (Swap addr expected desired) = None
stored_by (In port width) = None
stored_by (Out port width value) = None
stored_by (CfgRead reg) = None
stored_by (CfgWrite reg value) = None
stored_by (Icr high low) = None
stored_by Halt = None
stored_by Nop = None

-- the APIC ID for which an entry at N7 opens the gate
abbrev pub opened_for : Platform → Entry → Option ℕ
opened_for p e = if is_at p N7 e then option_and_then stored_by (access_in e.event) else None

abbrev pub with_bound : Option ℕ → List ℕ → List ℕ
with_bound None ids = ids
with_bound (Some apic) ids = if is_in apic ids then ids else ids ++ apic ∷ []

-- bound: the boot processors' APIC IDs in order, then each one for which the gate was opened, in the order of the first time
unfoldable pub bound : Platform → List Entry → List ℕ
bound p [] = boot_ids p
bound p (e ∷ older) = with_bound (opened_for p e) (bound p older)

-- what a told outcome says of an APIC ID: that it is known, or no longer, or nothing
abbrev pub told_known : ℕ → Outcome → Option Bool
told_known apic (Added cpu other slot) = if other == apic then Some true else None
told_known apic (Ejected cpu other slot) = if other == apic then Some false else None
told_known apic (Refused why) = None

-- known: what was last told of it, and at first a boot processor's
unfoldable pub is_known : Platform → List Entry → ℕ → Bool
is_known p [] apic = is_in apic (boot_ids p)
is_known p (e ∷ older) apic = unwrap_or (option_and_then (told_known apic) (outcome_in e.event)) (is_known p older apic)

-- a refusal that leaves its APIC ID held, and any other
abbrev pub refused_held : Option ℕ → Refusal → Option ℕ
refused_held held (Disabled cpu status) = held
refused_held held (Both cpu status) = held
refused_held held (AlreadyKnown cpu apic slot) = held
refused_held held (GateHeld cpu apic other) = held
refused_held held (NotAtGate cpu apic) = Some apic
refused_held held (NotCheckedIn cpu apic) = Some apic
refused_held held (NoUnplug cpu features) = held
refused_held held (NotKnown cpu apic) = held
refused_held held (NotArrived cpu apic) = held
refused_held held (NotParked cpu apic) = held
refused_held held (Foreign cpu apic) = held
refused_held held (StillPending cpu status) = held

abbrev pub told_held : Option ℕ → Outcome → Option ℕ
told_held held (Added cpu apic slot) = if is_that held apic then None else held
told_held held (Ejected cpu apic slot) = held
told_held held (Refused why) = refused_held held why

abbrev pub held_by : Option ℕ → Option Outcome → Option ℕ
held_by held None = held
held_by held (Some o) = told_held held o

-- held after a refusal: the APIC ID of the last NotAtGate or NotCheckedIn, until it is told as added
unfoldable pub left_held : List Entry → Option ℕ
left_held [] = None
left_held (e ∷ older) = held_by (left_held older) (outcome_in e.event)
