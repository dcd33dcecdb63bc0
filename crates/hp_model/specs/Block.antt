-- The processor hot-plug register block (source: QEMU docs/specs/acpi_cpu_hotplug; docs/MACHINE.md marks what is our own).
use Rattle.std.specs.Prelude.{ℕ, Bool, true, false, ◌+◌, ◌*◌, ◌%◌, ◌^◌, ◌==◌, ◌&&◌, ◌||◌, not, nat_lt, if◌then◌else◌, List, [], ◌∷◌, length, take, drop, Option, Some, None, option_map, slice_index_or, bit_and, slice_set}
use Rattle.hp_model.specs.declared.platforms.Platform.{Platform}

-- what the block keeps of one processor
pub record Slot : Type 0 where
  pub enabled : Bool
  pub inserting : Bool  -- insert event
  pub removing : Bool  -- remove event
  pub ejecting : Bool  -- the eject was handed to the firmware
  pub ost_event : ℕ
  pub ost_status : ℕ

pub record Block : Type 0 where
  pub can_switch : Bool  -- whether the platform has the modern form
  pub modern : Bool
  pub selector : ℕ
  pub command : ℕ
  pub apic : List ℕ
  pub slots : List Slot

abbrev pub no_slot : Slot
no_slot = record { enabled = false; inserting = false; removing = false; ejecting = false; ost_event = 0; ost_status = 0 }

abbrev pub slot_at : Block → ℕ → Slot
slot_at b k = slice_index_or b.slots k no_slot

abbrev pub set_slot : Block → ℕ → Slot → Block
set_slot b k s = record b { slots = slice_set b.slots k s }

-- the selector names a possible processor
abbrev pub is_selected : Block → Bool
is_selected b = nat_lt b.selector (length b.slots)

-- a value cut to a width in bytes
abbrev pub cut : ℕ → ℕ → ℕ
cut width value = value % 256 ^ width

abbrev pub bit : Bool → ℕ
bit true = 1
bit false = 0

-- status: bit 0 enabled, bit 1 insert event, bit 2 remove event, bit 4 eject handed to the firmware
abbrev pub status : Slot → ℕ
status s = bit s.enabled + 2 * bit s.inserting + 4 * bit s.removing + 16 * bit s.ejecting

-- the legacy form: one bit per present processor, the first lowest
abbrev pub bitmap : List Slot → ℕ
bitmap [] = 0
bitmap (s ∷ ss) = bit s.enabled + 2 * bitmap ss

-- those below 32, which the legacy form shows
unfoldable pub first_places : List Slot → List Slot
first_places ss = take 32 ss

abbrev pub has_event : Slot → Bool
has_event s = s.inserting || (s.removing || s.ejecting)

-- the place of the first with an event
abbrev pub first_event : List Slot → Option ℕ
first_event [] = None
first_event (s ∷ ss) = if has_event s then Some 0 else option_map (λ k. k + 1) (first_event ss)

-- the first with an event, from the selector upward and then from 0; the selector itself where none has one
abbrev pub found_below : ℕ → Option ℕ → ℕ
found_below selector None = selector
found_below selector (Some k) = k

abbrev pub found_from : ℕ → List Slot → Option ℕ → ℕ
found_from selector slots (Some k) = selector + k
found_from selector slots None = found_below selector (first_event (take selector slots))

abbrev pub found : ℕ → List Slot → ℕ
found selector slots = found_from selector slots (first_event (drop selector slots))

-- what a control byte does to a processor: the lowest of bits 1 to 4 that is set acts alone, and processor 0 isn't ejected
abbrev pub controlled : Slot → Bool → ℕ → Slot
controlled s is_first value =
    if bit_and value 2 == 2 then record s { inserting = false }
    else if bit_and value 4 == 4 then record s { removing = false }
    else if is_first || not s.enabled then s
    else if bit_and value 8 == 8 then record s { enabled = false; ejecting = false }
    else if bit_and value 16 == 16 then record s { ejecting = true }
    else s

-- control, at offset 4
abbrev pub write_control : Block → ℕ → Block
write_control b value = set_slot b b.selector (controlled (slot_at b b.selector) (b.selector == 0) value)

-- command, at offset 5: it is kept, and command 0 moves the selector
abbrev pub write_command : Block → ℕ → Block
write_command b value = record b { command = value; selector = (if value == 0 then found b.selector b.slots else b.selector) }

-- what command data does to a processor: after command 1 the OST event, after command 2 the OST status
abbrev pub with_data : Slot → ℕ → ℕ → Slot
with_data s command value =
    if command == 1 then record s { ost_event = value }
    else if command == 2 then record s { ost_status = value }
    else s

-- command data, at offset 8
abbrev pub write_data : Block → ℕ → Block
write_data b value = set_slot b b.selector (with_data (slot_at b b.selector) b.command value)

-- the modern form: a register answers at its first offset, and while the selector names no processor, only the selector is written
abbrev pub modern_write : Block → ℕ → ℕ → Block
modern_write b offset value =
    if offset == 0 then record b { selector = value }
    else if not (is_selected b) then b
    else if offset == 4 then write_control b (value % 256)
    else if offset == 5 then write_command b (value % 256)
    else if offset == 8 then write_data b value
    else b

-- a write of `width` bytes; the legacy form takes a 0 at offset 0, which switches to the modern form for good
abbrev pub block_write : Block → ℕ → ℕ → ℕ → Block
block_write b offset width value =
    if b.modern then modern_write b offset (cut width value)
    else if b.can_switch && ((offset == 0) && (cut width value == 0)) then record b { modern = true }
    else b

-- the processor that a write ejected: the selected one, where it was enabled before and isn't after
abbrev pub ejected_by : Block → Block → Option ℕ
ejected_by old new =
    if (slot_at old old.selector).enabled && not (slot_at new old.selector).enabled then Some old.selector else None

-- command data: after command 0 the selector, after command 3 the APIC ID
abbrev pub read_data : Block → ℕ
read_data b =
    if b.command == 0 then b.selector
    else if b.command == 3 then slice_index_or b.apic b.selector 0
    else 0

-- command data 2, at offset 0: the high half of an APIC ID, which is 0 for each of 32 bits
abbrev pub modern_read : Block → ℕ → ℕ
modern_read b offset =
    if not (is_selected b) then 0
    else if offset == 4 then status (slot_at b b.selector)
    else if offset == 8 then read_data b
    else 0

-- a read of `width` bytes
abbrev pub block_read : Block → ℕ → ℕ → ℕ
block_read b offset width =
    if b.modern then cut width (modern_read b offset)
    else if offset == 0 then cut width (bitmap (first_places b.slots))
    else 0

-- the place is among these
abbrev pub is_in : ℕ → List ℕ → Bool
is_in k [] = false
is_in k (x ∷ xs) = (x == k) || is_in k xs

-- a slot for each APIC ID, from place k on, enabled where the place is among the boot processors
abbrev pub slots_from : ℕ → List ℕ → List ℕ → List Slot
slots_from k [] boot = []
slots_from k (a ∷ as') boot = record no_slot { enabled = is_in k boot } ∷ slots_from (k + 1) as' boot

-- the block at the start: legacy, with the boot processors enabled
abbrev pub block_start : Platform → Block
block_start p = record { can_switch = p.modern; modern = false; selector = 0; command = 0; apic = p.apic; slots = slots_from 0 p.apic p.boot }

-- a host insert: enabled, with an insert event
abbrev pub with_insert : Block → ℕ → Block
with_insert b k = set_slot b k (record (slot_at b k) { enabled = true; inserting = true })

-- a host remove request: a remove event
abbrev pub with_removal : Block → ℕ → Block
with_removal b k = set_slot b k (record (slot_at b k) { removing = true })
