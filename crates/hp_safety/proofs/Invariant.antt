-- What each state of a run keeps after the hand-over, part by part.
use Rattle.std.specs.Prelude.{ℕ, ◌≡◌, ◌⊎◌, Bool, true, false, ◌&&◌, ◌||◌, ◌==◌, nat_lt, ◌<◌, ◌+◌, List, Option, Some, None}
use Rattle.std.specs.Option.{unwrap_or}
use Rattle.hp_model.specs.declared.platforms.Platform.{Platform}
use Rattle.hp_model.specs.declared.processors.Cpu.{Cpu}
use Rattle.hp_model.specs.declared.outcomes.Outcome.{Outcome}
use Rattle.hp_model.specs.declared.outcomes.Outcome.TheVariants.{Added, Ejected, Refused}
use Rattle.hp_model.specs.declared.labels.Label.{Label}
use Rattle.hp_model.specs.Platform.{tile, count_of, apic_of}
use Rattle.hp_model.specs.Memory.{Write, byte_at, value_from}
use Rattle.hp_model.specs.Cpu.{smm_address}
use Rattle.hp_model.specs.Block.{is_in}
use Rattle.hp_model.specs.Boot.{is_handed}
use Rattle.hp_model.specs.Labels.{handler_of, mark_of}
use Rattle.hp_model.specs.SharedBytes.{layout_of, gate, closed, new_smbase, default_smbase_field, arrived_byte}
use Rattle.hp_model.specs.SaveArea.{smbase_field}
use Rattle.hp_model.specs.Slots.{Slots, slot_among}
use Rattle.hp_model.specs.Monarch.{Monarch, is_that}
use Rattle.hp_model.specs.Handlers.{runs_at, is_current, address_of_label}
use Rattle.hp_model.specs.State.{State, at}
use Rattle.hp_sealed.specs.Left.{IsLeft, Locked, is_kept}
use Rattle.hp_sealed.specs.Sealed.{is_based, Recorded, IsAtSlot}
use Rattle.hp_safety.proofs.Needs.{Nothing, need_of, is_open, settles, IsSlot, Facts, Needs}

-- the tile of the slot of the APIC ID that is held
abbrev pub held_tile : Platform → Slots → ℕ
held_tile p s = tile p (slot_among s.bound (unwrap_or s.held 0))

-- the new SMBASE in memory is that tile
abbrev pub is_ready : Platform → Slots → List Write → Bool
is_ready p s ws = value_from (byte_at ws) new_smbase 4 == held_tile p s

-- what RSM reads at the default SMBASE is the default SMBASE, or that tile
abbrev pub may_return : Platform → Slots → List Write → Bool
may_return p s ws = (value_from (byte_at ws) default_smbase_field 4 == 0x30000) || (value_from (byte_at ws) default_smbase_field 4 == held_tile p s)

-- the add is of the held APIC ID, to its slot
abbrev pub is_adding : Monarch → Bool
is_adding r = is_that r.slots.held r.add.apic && (r.add.slot == slot_among r.slots.bound r.add.apic)

abbrev pub facts_of : Platform → Monarch → List Write → ℕ → ℕ → Facts
facts_of p r ws apic base = record { count = count_of p; held = is_that r.slots.held apic; ready = is_ready p r.slots ws; tiled = base == held_tile p r.slots; returns = may_return p r.slots ws; adds = is_adding r; slot = r.add.slot; ejects = nat_lt r.eject.slot (count_of p) }

-- what the label needs of whoever stands there, with this APIC ID and this base loaded
abbrev pub Met : Platform → Monarch → List Write → ℕ → ℕ → Label → Type 0
Met p r ws apic base l = Needs (facts_of p r ws apic base) (handler_of l) (need_of l)

-- address a is the cell of a label of the handler that runs at SMBASE b on processor k, whose row is due, and has what it needs
pub record AtCell (p : Platform) (r : Monarch) (ws : List Write) (k b base a : ℕ) (l : Label) : Type 0 where
  pub runs : runs_at (layout_of p) (handler_of l) k b ≡ true
  pub current : is_current r (handler_of l) l ≡ true
  pub here : a ≡ address_of_label b l
  pub met : Met p r ws (apic_of p k) base l

-- whoever is in SMM stands at such a cell
abbrev pub IsAtCell : Platform → Monarch → List Write → ℕ → ℕ → ℕ → Option ℕ → Type 0
IsAtCell p r ws k b base None = Unit {0}
IsAtCell p r ws k b base (Some a) = (l : Label) × AtCell p r ws k b base a l

-- whoever is in SMM in a tile finds this tile in the field that RSM reads
abbrev pub Saves : List Write → ℕ → Option ℕ → Type 0
Saves ws b None = Unit {0}
Saves ws b (Some a) = (b ≡ 0x30000) ⊎ (value_from (byte_at ws) (b + smbase_field) 4 ≡ b)

-- memory m holds each handler's marks, the lock registers are fixed, and no write since m has covered a byte that is kept
pub record IsLocked (p : Platform) (m : List Write) (s : State) : Type 0 where
  pub marks : (l : Label) (k b : ℕ) → runs_at (layout_of p) (handler_of l) k b ≡ true → value_from (byte_at m) (address_of_label b l) 4 ≡ mark_of l
  pub registers : Locked p s.locks
  pub kept : (x : ℕ) → is_kept p x ≡ true → IsLeft x m s.writes

-- each processor in SMM stands at a cell of its handler
pub record AreAtCells (p : Platform) (s : State) : Type 0 where
  pub each : (k : ℕ) → IsAtCell p s.monarch s.writes k (at s k).smbase (at s k).base (smm_address (at s k))

-- each present processor is a possible one, has the default SMBASE or its slot's tile, and returns to it from a tile; processor 0 is there
pub record HasSlots (p : Platform) (s : State) : Type 0 where
  pub first : (at s 0).present ≡ true
  pub based : (k : ℕ) → (at s k).present ≡ true → is_based p k (at s k).smbase ≡ true
  pub possible : (k : ℕ) → (at s k).present ≡ true → k < count_of p
  pub slotted : (k : ℕ) → (at s k).present ≡ true → IsAtSlot p s.monarch.slots.bound (apic_of p k) (at s k).smbase
  pub saved : (k : ℕ) → Saves s.writes (at s k).smbase (smm_address (at s k))

abbrev pub IsShut : List Write → Type 0
IsShut ws = value_from (byte_at ws) gate 8 ≡ closed

-- the gate is open to the held APIC ID, and whoever passes it finds the tile of its slot
pub record IsOpened (p : Platform) (r : Monarch) (ws : List Write) : Type 0 where
  pub may : is_open (need_of r.label) ≡ true
  pub held : is_that r.slots.held (value_from (byte_at ws) gate 8) ≡ true
  pub ready : is_ready p r.slots ws ≡ true

-- the gate is closed, or that
abbrev pub IsGated : Platform → Monarch → List Write → Type 0
IsGated p r ws = IsShut ws ⊎ IsOpened p r ws

-- while processor 0 isn't in SMM, the monarch's record is at a label that needs nothing
abbrev pub Rests : State → Type 0
Rests s = smm_address (at s 0) ≡ None → need_of s.monarch.label ≡ Nothing

-- the held APIC ID has a slot other than slot 0
pub record Holding (p : Platform) (s : Slots) : Type 0 where
  pub in_bound : (a : ℕ) → s.held ≡ Some a → is_in a s.bound ≡ true
  pub slot : (a : ℕ) → s.held ≡ Some a → IsSlot (count_of p) (slot_among s.bound a)

abbrev pub is_added : Outcome → Bool
is_added (Added cpu apic slot) = true
is_added (Ejected cpu apic slot) = false
is_added (Refused why) = false

-- the monarch has read, or will read, that its add's processor stands in its tile
abbrev pub is_settled : Platform → Monarch → List Write → Bool
is_settled p r ws = settles (value_from (byte_at ws) (arrived_byte (layout_of p) r.add.slot) 1 == 1) (is_added r.outcome) (need_of r.label)

-- past the gate: in SMM at a cell of the first handler, and not its first one
abbrev pub is_past : Option ℕ → Bool
is_past None = false
is_past (Some a) = nat_lt 0x38000 a && nat_lt a 0x38018

-- then nobody is past the gate
abbrev pub Settled : Platform → State → Type 0
Settled p s = is_settled p s.monarch s.writes ≡ true → (k : ℕ) → is_past (smm_address (at s k)) ≡ false

-- all parts, since memory was m
pub record Invariant (p : Platform) (m : List Write) (s : State) : Type 0 where
  pub handed : is_handed s.stage ≡ true
  pub locked : IsLocked p m s
  pub stand : AreAtCells p s
  pub slots : HasSlots p s
  pub gated : IsGated p s.monarch s.writes
  pub rests : Rests s
  pub recorded : Recorded p s.monarch
  pub holding : Holding p s.monarch.slots
  pub settled : Settled p s

-- of one processor, with this presence, SMBASE, loaded base and instruction address: its share of the parts
pub record CpuPartsBy (p : Platform) (r : Monarch) (ws : List Write) (k : ℕ) (present : Bool) (b base : ℕ) (o : Option ℕ) : Type 0 where
  pub based : present ≡ true → is_based p k b ≡ true
  pub possible : present ≡ true → k < count_of p
  pub slotted : present ≡ true → IsAtSlot p r.slots.bound (apic_of p k) b
  pub stands : IsAtCell p r ws k b base o
  pub saves : Saves ws b o

abbrev pub CpuParts : Platform → Monarch → List Write → ℕ → Cpu → Type 0
CpuParts p r ws k c = CpuPartsBy p r ws k c.present c.smbase c.base (smm_address c)
