-- Slots: the APIC IDs that the firmware has given a place (own rule). A slot stays with its APIC ID for good.
use Rattle.std.specs.Prelude.{ℕ, Bool, true, false, ◌==◌, ◌+◌, List, [], ◌∷◌, ◌++◌, length, drop, map, replicate, Option, Some, None, slice_index_or, slice_set, if◌then◌else◌}
use Rattle.hp_model.specs.declared.platforms.Platform.{Platform}
use Rattle.hp_model.specs.Platform.{apic_of}
use Rattle.hp_model.specs.Block.{is_in}

pub record Slots : Type 0 where
  pub bound : List ℕ  -- the APIC IDs that have a slot, each at its slot's place
  pub known : List Bool  -- of each of them, whether it is a boot processor's or was added, and not ejected since
  pub held : Option ℕ  -- the APIC ID whose add isn't complete

-- the APIC IDs of the boot processors, in their order
abbrev pub boot_ids : Platform → List ℕ
boot_ids p = map (apic_of p) p.boot

-- boot processors are bound and known
abbrev pub slots_start : Platform → Slots
slots_start p = record { bound = boot_ids p; known = replicate (length p.boot) true; held = None }

-- the slot of an APIC ID among those bound, their number where it isn't bound
abbrev pub slot_among : List ℕ → ℕ → ℕ
slot_among [] apic = 0
slot_among (a ∷ as') apic = if a == apic then 0 else slot_among as' apic + 1

-- the slot of an APIC ID, if it has one
abbrev pub slot_in : Slots → ℕ → Option ℕ
slot_in s apic = if is_in apic s.bound then Some (slot_among s.bound apic) else None

abbrev pub is_known : Slots → ℕ → Bool
is_known s apic = slice_index_or s.known (slot_among s.bound apic) false

-- the first known slot from k on
abbrev pub first_true : ℕ → List Bool → Option ℕ
first_true k [] = None
first_true k (true ∷ bs) = Some k
first_true k (false ∷ bs) = first_true (k + 1) bs

abbrev pub known_from : Slots → ℕ → Option ℕ
known_from s k = first_true k (drop k s.known)

-- an APIC ID gets the next slot, unless it has one
abbrev pub with_slot : ℕ → Slots → Slots
with_slot apic s = if is_in apic s.bound then s else record s { bound = s.bound ++ apic ∷ []; known = s.known ++ false ∷ [] }

-- binding holds it, too
abbrev pub bind : ℕ → Slots → Slots
bind apic s = record (with_slot apic s) { held = Some apic }

-- an add is complete: its APIC ID is known and no longer held
abbrev pub completed : ℕ → Slots → Slots
completed apic s = record s { known = slice_set s.known (slot_among s.bound apic) true; held = None }

-- an ejected APIC ID is forgotten; its slot stays bound
abbrev pub forgotten : ℕ → Slots → Slots
forgotten apic s = record s { known = slice_set s.known (slot_among s.bound apic) false }
