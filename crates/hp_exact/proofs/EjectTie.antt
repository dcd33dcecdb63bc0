-- What is said of an eject's processor, label by label: it has a slot, has parked in its tile before it is ejected, and it alone leaves.
use Rattle.std.proofs.Common.{ℕ, ◌≡◌, ◌<◌, ◌==◌, Bool, true, false, ◌&&◌, List, [], ◌∷◌, Some}
use Rattle.hp_model.specs.declared.platforms.Platform.{Platform}
use Rattle.hp_model.specs.declared.processors.Cpu.{Cpu}
use Rattle.hp_model.specs.declared.labels.Label.{Label}
use Rattle.hp_model.specs.declared.labels.Label.TheVariants.{R1, R2, R3, R6, E0, E1, E2, E4a, E4b, E4c, E4d, E4e, E4f, E4g, T}
use Rattle.hp_model.specs.declared.outcomes.Outcome.{Outcome}
use Rattle.hp_model.specs.declared.outcomes.Outcome.TheVariants.{Added, Ejected, Refused}
use Rattle.hp_model.specs.Platform.{count_of, apic_of, tile}
use Rattle.hp_model.specs.Memory.{Write, byte_at}
use Rattle.hp_model.specs.Cpu.{cpu_at, smm_address}
use Rattle.hp_model.specs.Block.{is_in}
use Rattle.hp_model.specs.SharedBytes.{layout_of, parked_byte}
use Rattle.hp_model.specs.Slots.{slot_among}
use Rattle.hp_model.specs.Monarch.{Monarch}
use Rattle.hp_model.specs.Handlers.{address_of_label}
use Rattle.hp_model.specs.Transitions.{Transition}
use Rattle.hp_model.specs.Outcomes.{departures, is_eject_of, is_only}
use Rattle.hp_exact.proofs.Monarchs.{is_among}

-- the labels of a processor that stays in its tile
abbrev pub looping : List Label
looping = R1 ∷ R2 ∷ R3 ∷ R6 ∷ []

-- a processor stays in the tile of a slot
pub record Parked (p : Platform) (slot : ℕ) (c : Cpu) : Type 0 where
  pub present : c.present ≡ true
  pub smbase : c.smbase ≡ tile p slot
  pub label : Label
  pub loops : is_among label looping ≡ true
  pub place : smm_address c ≡ Some (address_of_label (tile p slot) label)

-- the running eject is of a processor with this APIC ID, and this is its slot
pub record IsBoundEject (p : Platform) (r : Monarch) : Type 0 where
  pub own : apic_of p r.eject.cpu ≡ r.eject.apic
  pub less : r.eject.cpu < count_of p
  pub bound : is_in r.eject.apic r.slots.bound ≡ true
  pub place : slot_among r.slots.bound r.eject.apic ≡ r.eject.slot

-- while its parked byte is looked at: once it is 1, the processor stays in its tile
abbrev pub Waits : Platform → Bool → List Cpu → List Write → Monarch → Type 0
Waits p d cs ws r = d ≡ false → byte_at ws (parked_byte (layout_of p) r.eject.slot) ≡ 1 → Parked p r.eject.slot (cpu_at cs r.eject.cpu)

-- it alone has left
abbrev pub Alone : Platform → List Transition → Bool → Monarch → Type 0
Alone p own d r = d ≡ false → is_only (is_eject_of p r.eject.cpu r.eject.slot) (departures p own) ≡ true

-- what is told of an eject
abbrev pub Gone : Platform → List Transition → Bool → Monarch → Outcome → Type 0
Gone p own d r (Added cpu apic slot) = Unit {0}
Gone p own d r (Ejected cpu apic slot) = ((is_in apic r.slots.bound && (slot_among r.slots.bound apic == slot)) ≡ true) × (d ≡ false → is_only (is_eject_of p cpu slot) (departures p own) ≡ true)
Gone p own d r (Refused why) = Unit {0}

-- by the label at which the monarch stands
abbrev pub PartsAt : Platform → List Transition → Bool → List Cpu → List Write → Monarch → Label → Type 0
PartsAt p own d cs ws r E0 = IsBoundEject p r
PartsAt p own d cs ws r E1 = IsBoundEject p r × Waits p d cs ws r
PartsAt p own d cs ws r E2 = IsBoundEject p r × Waits p d cs ws r
PartsAt p own d cs ws r E4a = IsBoundEject p r × (d ≡ false → Parked p r.eject.slot (cpu_at cs r.eject.cpu))
PartsAt p own d cs ws r E4b = IsBoundEject p r × (d ≡ false → Parked p r.eject.slot (cpu_at cs r.eject.cpu))
PartsAt p own d cs ws r E4c = IsBoundEject p r × Alone p own d r
PartsAt p own d cs ws r E4d = IsBoundEject p r × Alone p own d r
PartsAt p own d cs ws r E4e = IsBoundEject p r × Alone p own d r
PartsAt p own d cs ws r E4f = IsBoundEject p r × Alone p own d r
PartsAt p own d cs ws r E4g = IsBoundEject p r × Alone p own d r
PartsAt p own d cs ws r T = Gone p own d r r.outcome
PartsAt p own d cs ws r _ = Unit {0}
