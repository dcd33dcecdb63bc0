-- Sealed SMRAM: what holds in the state in which the boot sequence hands the machine over.
use Rattle.std.specs.Prelude.{ℕ, ◌≡◌, Bool, true, not, ◌&&◌, ◌||◌, ◌==◌, ◌<◌, ◌≤◌, ◌⊎◌, List, length, None, slice_get, if◌then◌else◌}
use Rattle.std.specs.List.{list_all}
use Rattle.hp_model.specs.declared.platforms.Platform.{Platform}
use Rattle.hp_model.specs.declared.labels.Label.{Label}
use Rattle.hp_model.specs.Platform.{tile, count_of, all_distinct, apic_of}
use Rattle.hp_model.specs.Memory.{Write, byte_at, value_from}
use Rattle.hp_model.specs.Cpu.{smm_address}
use Rattle.hp_model.specs.Block.{is_in}
use Rattle.hp_model.specs.Labels.{handler_of, mark_of}
use Rattle.hp_model.specs.SharedBytes.{Layout, layout_of, gate, closed}
use Rattle.hp_model.specs.Slots.{Slots, boot_ids, slot_among}
use Rattle.hp_model.specs.Monarch.{Monarch, monarch_start, with_features, is_that}
use Rattle.hp_model.specs.Handlers.{slot_at, is_tile, runs_at, address_of_label}
use Rattle.hp_model.specs.Boot.{is_handed}
use Rattle.hp_model.specs.State.{State, at}
use Rattle.hp_sealed.specs.Left.{Locked}

-- the tile of a possible slot other than slot 0
abbrev pub is_other_tile : Layout → ℕ → Bool
is_other_tile y smbase = not (slot_at y smbase == 0) && is_tile y smbase

-- where processor k may have its SMBASE: processor 0 in the tile of slot 0, each other at the default or in another tile
abbrev pub is_based : Platform → ℕ → ℕ → Bool
is_based p k smbase = if k == 0 then smbase == tile p 0 else ((smbase == 0x30000) || is_other_tile (layout_of p) smbase)

-- distinct possible APIC IDs have a slot, that of processor 0 the first, and each of them is known or not
pub record Placed (p : Platform) (s : Slots) : Type 0 where
  pub first : is_that (slice_get s.bound 0) (apic_of p 0) ≡ true
  pub distinct : all_distinct s.bound ≡ true
  pub possible : list_all (λ a. is_in a p.apic) s.bound ≡ true
  pub known : length s.known ≡ length s.bound

-- the monarch's record has such slots, and looks at one of the first
abbrev pub Recorded : Platform → Monarch → Type 0
Recorded p r = (r.slot ≤ 512) × Placed p r.slots

-- an SMBASE that a processor of this APIC ID may have where these are bound: the default one, or the tile of its slot among them
abbrev pub IsAtSlot : Platform → List ℕ → ℕ → ℕ → Type 0
IsAtSlot p bound apic smbase = (smbase ≡ 0x30000) ⊎ ((is_in apic bound ≡ true) × (smbase ≡ tile p (slot_among bound apic)))

-- no processor is in SMM, each is based where it may be, a boot processor in the tile of its slot, processor 0 is present, and the monarch's record is as at the start
pub record IsOutside (p : Platform) (s : State) : Type 0 where
  pub outside : (k : ℕ) → smm_address (at s k) ≡ None
  pub based : (k : ℕ) → (at s k).present ≡ true → is_based p k (at s k).smbase ≡ true
  pub possible : (k : ℕ) → (at s k).present ≡ true → k < count_of p
  pub slotted : (k : ℕ) → (at s k).present ≡ true → IsAtSlot p (boot_ids p) (apic_of p k) (at s k).smbase
  pub first : (at s 0).present ≡ true
  pub recorded : Recorded p s.monarch
  pub begun : s.monarch ≡ with_features s.monarch.features (monarch_start p)

-- wherever a handler runs, each of its cells holds its label's mark, and the gate is closed
pub record Holds (p : Platform) (ws : List Write) : Type 0 where
  pub cells : (l : Label) (k smbase : ℕ) → runs_at (layout_of p) (handler_of l) k smbase ≡ true → value_from (byte_at ws) (address_of_label smbase l) 4 ≡ mark_of l
  pub gate : value_from (byte_at ws) gate 8 ≡ closed

-- handed over with SMRAM locked, the handlers in it, the gate closed, everybody outside, and all features of the platform agreed on
pub record IsSealed (p : Platform) (s : State) : Type 0 where
  pub stage : is_handed s.stage ≡ true
  pub locks : Locked p s.locks
  pub holds : Holds p s.writes
  pub cpus : IsOutside p s
  pub features : s.monarch.features ≡ p.features
