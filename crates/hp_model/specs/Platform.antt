-- The rules that a platform meets (own rules), and where its TSEG lies (Q35 memory controller: registers 9d and 9e).
use Rattle.std.specs.Prelude.{◌≡◌, ℕ, Bool, true, false, ◌&&◌, ◌||◌, not, ◌==◌, nat_lt, nat_le, List, [], ◌∷◌, length, ◌+◌, ◌-◌, ◌*◌, ◌%◌, Option, Some, None, slice_index_or, if◌then◌else◌}
use Rattle.std.specs.List.{list_all, list_any}
use Rattle.hp_model.specs.declared.platforms.Platform.{Platform}
use Rattle.hp_model.specs.declared.platforms.Delivery.{Delivery}
use Rattle.hp_model.specs.declared.platforms.Delivery.TheVariants.{Prompt, Late}

-- how many processors are possible
abbrev pub count_of : Platform → ℕ
count_of p = length p.apic

-- rule 2: there are 1 to 512 processors
abbrev pub counts_fit : Platform → Bool
counts_fit p = nat_lt 0 (count_of p) && nat_le (count_of p) 512

abbrev pub all_distinct : List ℕ → Bool
all_distinct [] = true
all_distinct (x ∷ xs) = not (list_any (λ y. y == x) xs) && all_distinct xs

-- an APIC ID has 8 bits, or 32 under x2APIC, and isn't the one of all ones
abbrev pub greatest_id : Bool → ℕ
greatest_id x2apic = if x2apic then 0xfffffffe else 254

-- rule 3: APIC IDs are at most the greatest, and distinct
abbrev pub ids_fit : Platform → Bool
ids_fit p = list_all (λ a. nat_le a (greatest_id p.x2apic)) p.apic && all_distinct p.apic

-- each number is above the one before it, the first above `low`
abbrev pub ascends_from : ℕ → List ℕ → Bool
ascends_from low [] = true
ascends_from low (x ∷ xs) = nat_lt low x && ascends_from x xs

abbrev pub ascends_from_zero : List ℕ → Bool
ascends_from_zero [] = false
ascends_from_zero (x ∷ xs) = (x == 0) && ascends_from 0 xs

-- rule 4: the boot processors start with 0, ascend, and are possible
abbrev pub boot_fits : Platform → Bool
boot_fits p = ascends_from_zero p.boot && list_all (λ k. nat_lt k (count_of p)) p.boot

-- rule 5: RAM is whole MiB, from 16 MiB to 2 GiB
abbrev pub memory_fits : Platform → Bool
memory_fits p = (p.low_memory % 0x100000 == 0) && (nat_le 0x1000000 p.low_memory && nat_le p.low_memory 0x80000000)

-- rule 6: TSEG has 1, 2, 8 or 48 MiB
abbrev pub tseg_fits : Platform → Bool
tseg_fits p = (p.tseg_mib == 1) || ((p.tseg_mib == 2) || ((p.tseg_mib == 8) || (p.tseg_mib == 48)))

-- how many tiles of 64 KiB a TSEG has room for, past the 128 KiB of shared bytes; of the largest 512 are used
abbrev pub most_tiles : ℕ → ℕ
most_tiles mib = if mib == 48 then 512 else 16 * mib - 2

-- the largest TSEG needs 64 MiB of RAM
abbrev pub has_room : Platform → Bool
has_room p = not (p.tseg_mib == 48) || nat_le 0x4000000 p.low_memory

-- rule 7: each possible processor has a tile: at most 14, 30, 126 or 512
abbrev pub tiles_fit : Platform → Bool
tiles_fit p = tseg_fits p && (nat_le (count_of p) (most_tiles p.tseg_mib) && has_room p)

-- rule 8: features are bits 0 to 2
abbrev pub features_fit : Platform → Bool
features_fit p = nat_le p.features 7

-- rule 9
abbrev pub polls_fit : Platform → Bool
polls_fit p = nat_le 1 p.polls && nat_le p.polls 4096

-- rule 10
abbrev pub turns_fit : Platform → Bool
turns_fit p = nat_le p.turns 200000

-- rule 11: delivery is prompt, or late with a lag from 1 to 1000
abbrev pub delivery_is_known : Delivery → Bool
delivery_is_known Prompt = true
delivery_is_known (Late lag) = nat_le 1 lag && nat_le lag 1000

abbrev pub delivery_fits : Platform → Bool
delivery_fits p = delivery_is_known p.delivery

-- the first of rules 2 to 11 that fails
abbrev pub first_broken : Platform → Option ℕ
first_broken p =
    if not (counts_fit p) then Some 2
    else if not (ids_fit p) then Some 3
    else if not (boot_fits p) then Some 4
    else if not (memory_fits p) then Some 5
    else if not (tseg_fits p) then Some 6
    else if not (tiles_fit p) then Some 7
    else if not (features_fit p) then Some 8
    else if not (polls_fit p) then Some 9
    else if not (turns_fit p) then Some 10
    else if not (delivery_fits p) then Some 11
    else None

-- the platform meets its rules
abbrev pub IsFit : Platform → Type 0
IsFit p = first_broken p ≡ None

-- the first address of TSEG
abbrev pub tseg : Platform → ℕ
tseg p = p.low_memory - p.tseg_mib * 0x100000

-- the first address of a slot's tile
abbrev pub tile : Platform → ℕ → ℕ
tile p slot = tseg p + 0x20000 + slot * 0x10000

-- what no APIC ID is
abbrev pub no_id : ℕ
no_id = 0xffffffff

-- the APIC ID of the processor in a place
abbrev pub apic_of : Platform → ℕ → ℕ
apic_of p k = slice_index_or p.apic k no_id

-- the high half of an interrupt command to an APIC ID (Intel SDM vol. 3, local APIC): bits 31:24, or under x2APIC all of it
abbrev pub high_half : Bool → ℕ → ℕ
high_half x2apic apic = if x2apic then apic else apic * 0x1000000

-- a latched SMI may be taken later than at once
abbrev pub is_late : Delivery → Bool
is_late Prompt = false
is_late (Late lag) = true
