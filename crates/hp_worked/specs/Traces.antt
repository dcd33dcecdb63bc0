-- Worked traces, entry by entry, as they were written down by hand from the rules.
use Rattle.std.specs.Prelude.{List, [], ◌∷◌, ◌++◌, take, drop}
use Rattle.hp_model.specs.declared.accesses.Access.TheVariants.{Load, Store, In, Out, CfgRead, CfgWrite, Halt}
use Rattle.hp_model.specs.declared.entries.Entry.{Entry}
use Rattle.hp_worked.specs.Entries.{does, reads, inserts, requests_removal, with_entry, without_entry}

-- the boot of a platform with a TSEG of 1 MiB and all features
unfoldable pub boot : List Entry
boot =
    does 0 (Out 0xcd8 4 0)
    ∷ does 0 (Out 0xcd8 4 0)
    ∷ does 0 (Out 0xcdd 1 0)
    ∷ reads 0 (In 0xcd8 4) 0
    ∷ does 0 (CfgWrite 0x9c 0xff)
    ∷ reads 0 (CfgRead 0x9c) 0x1
    ∷ does 0 (Store 0x9f000 4 0x4e4550)
    ∷ does 0 (Store 0x38000 4 0x53000001)
    ∷ does 0 (Store 0x38004 4 0x53000002)
    ∷ does 0 (Store 0x38008 4 0x53000003)
    ∷ does 0 (Store 0x3800c 4 0x53000004)
    ∷ does 0 (Store 0x38010 4 0x53000005)
    ∷ does 0 (Store 0x38014 4 0x53000006)
    ∷ does 0 (Store 0x30000 8 0xffffffffffffffff)
    ∷ does 0 (CfgWrite 0x9c 0x2)
    ∷ does 0 (CfgWrite 0x9e 0x1)
    ∷ does 0 (CfgWrite 0x9d 0x18)
    ∷ does 0 (Store 0x1000 8 0x80000000a002200)
    ∷ does 0 (Store 0x1008 8 0x1010000000000000)
    ∷ does 0 (Out 0x518 4 0x100000)
    ∷ reads 0 (Load 0x1010 8) 0x7
    ∷ does 0 (Store 0x1000 8 0x800000018002100)
    ∷ does 0 (Store 0x1010 8 0x7)
    ∷ does 0 (Out 0x518 4 0x100000)
    ∷ does 0 (Out 0x510 2 0x20)
    ∷ reads 0 (In 0x511 1) 0x1
    ∷ does 0 (Out 0x630 4 0x21)
    ∷ []

-- a boot where the platform supports features 0 and 1 alone
abbrev pub boot_of_two_features : List Entry
boot_of_two_features = with_entry 22 (does 0 (Store 0x1010 8 0x3)) (with_entry 20 (reads 0 (Load 0x1010 8) 0x3) boot)

-- one processor, and no turn: the boot alone
unfoldable pub smallest : List Entry
smallest = boot

-- a boot with a TSEG of 8 MiB: register 9e holds another size
abbrev pub boot_of_8_mib : List Entry
boot_of_8_mib = with_entry 15 (does 0 (CfgWrite 0x9e 0x5)) boot

-- 64 processors: under a selector that names none, commands are ignored
unfoldable pub selector_past_the_end : List Entry
selector_past_the_end =
    boot_of_8_mib ++
    (does 0 (Out 0xcd8 4 0)
    ∷ does 0 (Out 0xcd8 4 0x40)
    ∷ reads 0 (In 0xcdc 1) 0
    ∷ does 0 (Out 0xcdd 1 0x3)
    ∷ reads 0 (In 0xce0 4) 0
    ∷ does 0 (Out 0xcd8 4 0x3f)
    ∷ reads 0 (In 0xcdc 1) 0
    ∷ reads 0 (In 0xce0 4) 0x3f
    ∷ [])

-- of several control bits the lowest of bits 1 to 4 acts alone
unfoldable pub several_control_bits : List Entry
several_control_bits =
    boot ++
    (does 0 (Out 0xcd8 4 0x1)
    ∷ does 1 Halt
    ∷ does 0 (Out 0xcdc 1 0x1e)
    ∷ reads 0 (In 0xcdc 1) 0x1
    ∷ does 0 (Out 0xcdc 1 0x10)
    ∷ reads 0 (In 0xcdc 1) 0x11
    ∷ does 0 (Out 0xcdc 1 0x8)
    ∷ reads 0 (In 0xcdc 1) 0
    ∷ [])

-- a transfer that is aimed at the locked default area stores nothing, and a straddle is a hole
unfoldable pub transfer_into_locked_memory : List Entry
transfer_into_locked_memory =
    boot ++
    (does 0 (Store 0x1000 8 0x80000000a002200)
    ∷ does 0 (Store 0x1008 8 0x80030000000000)
    ∷ does 0 (Out 0x518 4 0x100000)
    ∷ reads 0 (Load 0x1000 4) 0
    ∷ reads 0 (Load 0x38000 4) 0xffffffff
    ∷ reads 0 (Load 0x2fffc 8) 0xffffffffffffffff
    ∷ reads 0 (Load 0x2fffc 4) 0
    ∷ [])

-- a store that begins in one 64 KiB of RAM and ends in the next, read there
unfoldable pub store_across_64_kib : List Entry
store_across_64_kib =
    boot ++
    (does 0 (Store 0x1fffe 4 0x11223344)
    ∷ reads 0 (Load 0x20000 2) 0x1122
    ∷ does 0 Halt
    ∷ [])

-- A removal and an insert are announced in the GPE status, and found one after the other in the register block; both are
-- acknowledged, and processor 1 is ejected. The processor in place 2 has APIC ID 3.
unfoldable pub host_events : List Entry
host_events =
    boot ++
    (inserts 2
    ∷ requests_removal 1
    ∷ reads 0 (In 0x620 1) 0x4
    ∷ does 1 Halt
    ∷ does 0 (Out 0xcd8 4 0)
    ∷ does 0 (Out 0xcdd 1 0)
    ∷ reads 0 (In 0xce0 4) 0x1
    ∷ reads 0 (In 0xcdc 1) 0x5
    ∷ does 0 (Out 0xcdc 1 0x4)
    ∷ does 0 (Out 0xcdd 1 0)
    ∷ reads 0 (In 0xcdc 1) 0x3
    ∷ does 0 (Out 0xcdd 1 0x3)
    ∷ reads 0 (In 0xce0 4) 0x3
    ∷ does 0 (Out 0xcdc 1 0x2)
    ∷ reads 0 (In 0xcdc 1) 0x1
    ∷ does 0 (Out 0xcd8 4 0x1)
    ∷ does 0 (Out 0xcdc 1 0x8)
    ∷ reads 0 (In 0xcdc 1) 0
    ∷ does 0 (Out 0x620 1 0x4)
    ∷ reads 0 (In 0x620 1) 0
    ∷ [])

-- the fourth access reads another value than 0
unfoldable pub refused_for_the_legacy_form : List Entry
refused_for_the_legacy_form = take 3 boot ++ reads 0 (In 0xcd8 4) 0x1 ∷ []

-- the sixth reads 0
unfoldable pub refused_for_an_open_default_area : List Entry
refused_for_an_open_default_area = take 5 boot ++ reads 0 (CfgRead 0x9c) 0 ∷ []

-- features 5 are requested, and not agreed on
unfoldable pub refused_for_its_features : List Entry
refused_for_its_features =
    take 20 boot ++
    (reads 0 (Load 0x1010 8) 0x5
    ∷ does 0 (Store 0x1000 8 0x800000018002100)
    ∷ does 0 (Store 0x1010 8 0x5)
    ∷ does 0 (Out 0x518 4 0x100000)
    ∷ does 0 (Out 0x510 2 0x20)
    ∷ reads 0 (In 0x511 1) 0
    ∷ [])

-- the boot without the access that locks the default area, with two accesses in each other's place
abbrev pub unlocked_boot : List Entry
unlocked_boot = without_entry 14 boot

abbrev pub boot_out_of_order : List Entry
boot_out_of_order = with_entry 16 (does 0 (CfgWrite 0x9e 0x1)) (with_entry 15 (does 0 (CfgWrite 0x9d 0x18)) boot)

-- a boot that goes on where it is refused
abbrev pub boot_after_a_refusal : List Entry
boot_after_a_refusal = refused_for_its_features ++ drop 26 boot
