-- Platform files of the worked traces, as data.
use Rattle.std.specs.Prelude.{ℕ, zero, suc, ◌+◌, true, false, List, [], ◌∷◌, ◌++◌, replicate}
use Rattle.hp_model.specs.declared.platforms.Platform.{Platform}
use Rattle.hp_model.specs.declared.platforms.Delivery.TheVariants.{Prompt, Late}
use Rattle.hp_model.specs.declared.accesses.Access.{Access}
use Rattle.hp_model.specs.declared.accesses.Access.TheVariants.{Load, Store, Swap, In, Out, CfgRead, CfgWrite, Icr, Nop}
use Rattle.hp_model.specs.declared.entries.Actor.TheVariants as actor
use Rattle.hp_model.specs.declared.files.VoiceKind.{VoiceKind}
use Rattle.hp_model.specs.declared.files.VoiceKind.TheVariants.{Script, Pen}
use Rattle.hp_model.specs.declared.files.HostEvent.{HostEvent}
use Rattle.hp_model.specs.declared.files.Stall.{Stall}
use Rattle.hp_model.specs.declared.files.File.{File}

-- one processor, 128 MiB of RAM with 1 MiB of TSEG, all features, and no turn
abbrev pub one_processor : Platform
one_processor = record { apic = 0 ∷ []; boot = 0 ∷ []; low_memory = 0x8000000; tseg_mib = 1; features = 7; polls = 8; turns = 0; modern = true; default_smram = true; delivery = Prompt; x2apic = false; ext_tseg = true }

-- two processors, the second one not there at boot, or there
abbrev pub one_of_two : Platform
one_of_two = record one_processor { apic = 0 ∷ 1 ∷ []; turns = 72 }

abbrev pub two_processors : Platform
two_processors = record one_processor { apic = 0 ∷ 1 ∷ []; boot = 0 ∷ 1 ∷ [] }

-- a file with neither host events nor stalls
abbrev pub file_of : Platform → List VoiceKind → File
file_of p voices = record { platform = p; hosts = []; stalls = []; voices = voices }

abbrev pub smallest_file : File
smallest_file = file_of one_processor (Script [] ∷ [])

-- 64 processors, of which one is there
abbrev pub sixty_four_ids : Platform
sixty_four_ids = record one_processor { apic = 0 ∷ 1 ∷ 2 ∷ 3 ∷ 4 ∷ 5 ∷ 6 ∷ 7 ∷ 8 ∷ 9 ∷ 10 ∷ 11 ∷ 12 ∷ 13 ∷ 14 ∷ 15 ∷ 16 ∷ 17 ∷ 18 ∷ 19 ∷ 20 ∷ 21 ∷ 22 ∷ 23 ∷ 24 ∷ 25 ∷ 26 ∷ 27 ∷ 28 ∷ 29 ∷ 30 ∷ 31 ∷ 32 ∷ 33 ∷ 34 ∷ 35 ∷ 36 ∷ 37 ∷ 38 ∷ 39 ∷ 40 ∷ 41 ∷ 42 ∷ 43 ∷ 44 ∷ 45 ∷ 46 ∷ 47 ∷ 48 ∷ 49 ∷ 50 ∷ 51 ∷ 52 ∷ 53 ∷ 54 ∷ 55 ∷ 56 ∷ 57 ∷ 58 ∷ 59 ∷ 60 ∷ 61 ∷ 62 ∷ 63 ∷ []; tseg_mib = 8; turns = 449 }

abbrev pub selector_past_the_end_file : File
selector_past_the_end_file = file_of sixty_four_ids (Script (Out 0xcd8 4 0 ∷ Out 0xcd8 4 0x40 ∷ In 0xcdc 1 ∷ Out 0xcdd 1 0x3 ∷ In 0xce0 4 ∷ Out 0xcd8 4 0x3f ∷ In 0xcdc 1 ∷ In 0xce0 4 ∷ []) ∷ replicate 63 Pen)

abbrev pub several_control_bits_file : File
several_control_bits_file = file_of (record two_processors { turns = 13 }) (Script (Out 0xcd8 4 0x1 ∷ Out 0xcdc 1 0x1e ∷ In 0xcdc 1 ∷ Out 0xcdc 1 0x10 ∷ In 0xcdc 1 ∷ Out 0xcdc 1 0x8 ∷ In 0xcdc 1 ∷ []) ∷ Script [] ∷ [])

abbrev pub transfer_into_locked_memory_file : File
transfer_into_locked_memory_file = file_of (record one_processor { turns = 7 }) (Script (Store 0x1000 8 0x80000000a002200 ∷ Store 0x1008 8 0x80030000000000 ∷ Out 0x518 4 0x100000 ∷ Load 0x1000 4 ∷ Load 0x38000 4 ∷ Load 0x2fffc 8 ∷ Load 0x2fffc 4 ∷ []) ∷ [])

abbrev pub store_across_64_kib_file : File
store_across_64_kib_file = file_of (record one_processor { turns = 3 }) (Script (Store 0x1fffe 4 0x11223344 ∷ Load 0x20000 2 ∷ []) ∷ [])

-- a processor would be inserted at turn 0, and then looked for; a boot that is refused never comes to it
abbrev pub refused_file : Platform → File
refused_file p = record (file_of p (Script (Out 0xb2 1 0x4 ∷ Out 0xcd8 4 0x1 ∷ Out 0xcdc 1 0x2 ∷ []) ∷ Pen ∷ [])) { hosts = record { turn = 0; actor = actor.Insert 1 } ∷ [] }

-- a register block that has no modern form
abbrev pub refused_for_the_legacy_form_file : File
refused_for_the_legacy_form_file = refused_file (record one_of_two { modern = false })

-- a default area that can't be locked
abbrev pub refused_for_an_open_default_area_file : File
refused_for_an_open_default_area_file = refused_file (record one_of_two { default_smram = false })

-- hot-unplug without hot-plug
abbrev pub refused_for_its_features_file : File
refused_for_its_features_file = refused_file (record one_of_two { features = 5 })

-- an SMI command to two boot processors
abbrev pub rendezvous_file : File
rendezvous_file = file_of (record two_processors { turns = 38 }) (Script (Out 0xb2 1 0x5 ∷ []) ∷ Script [] ∷ [])

-- the same where processor 1 gets no turn until processor 0 has halted, and an arrived byte is looked at twice
abbrev pub late_processor_file : File
late_processor_file = record (file_of (record two_processors { polls = 2; turns = 36 }) (Script (Out 0xb2 1 0x5 ∷ []) ∷ Script [] ∷ [])) { stalls = record { cpu = 1; from = 1; to = 21 } ∷ [] }

-- three processors with APIC IDs 0, 7 and 3: the host inserts the third and requests the removal of the second
abbrev pub host_events_file : File
host_events_file = record (file_of (record two_processors { apic = 0 ∷ 7 ∷ 3 ∷ []; turns = 49 }) (Script (In 0x620 1 ∷ Out 0xcd8 4 0 ∷ Out 0xcdd 1 0 ∷ In 0xce0 4 ∷ In 0xcdc 1 ∷ Out 0xcdc 1 0x4 ∷ Out 0xcdd 1 0 ∷ In 0xcdc 1 ∷ Out 0xcdd 1 0x3 ∷ In 0xce0 4 ∷ Out 0xcdc 1 0x2 ∷ In 0xcdc 1 ∷ Out 0xcd8 4 0x1 ∷ Out 0xcdc 1 0x8 ∷ In 0xcdc 1 ∷ Out 0x620 1 0x4 ∷ In 0x620 1 ∷ []) ∷ Script [] ∷ Pen ∷ [])) { hosts = record { turn = 0; actor = actor.Insert 2 } ∷ record { turn = 0; actor = actor.Remove 1 } ∷ [] }

-- a processor is inserted at turn 0, started at page 10 and called into SMM
abbrev pub closed_gate_file : File
closed_gate_file = record (file_of (record one_of_two { turns = 18 }) (Script (Icr 0x1000000 0x610 ∷ Out 0xb2 1 0x5 ∷ []) ∷ Pen ∷ [])) { hosts = record { turn = 0; actor = actor.Insert 1 } ∷ [] }

-- a host insert in a turn, and the turns in which a processor gets none
abbrev pub inserts_in : ℕ → ℕ → HostEvent
inserts_in turn k = record { turn = turn; actor = actor.Insert k }

abbrev pub stalls_in : ℕ → ℕ → ℕ → Stall
stalls_in k from to = record { cpu = k; from = from; to = to }

-- a file with host events and stalls, where all but processor 0 are pens
abbrev pub add_file : Platform → List HostEvent → List Stall → List Access → ℕ → File
add_file p hosts stalls steps pens =
    record { platform = p; hosts = hosts; stalls = stalls; voices = Script steps ∷ replicate pens Pen }

-- three and five processors, of which one is there at boot
abbrev pub one_of_three : Platform
one_of_three = record one_processor { apic = 0 ∷ 1 ∷ 2 ∷ [] }

abbrev pub one_of_five : Platform
one_of_five = record one_processor { apic = 0 ∷ 1 ∷ 2 ∷ 3 ∷ 4 ∷ [] }

-- a processor is inserted at turn 0, and the SMI command is written; its event is cleared after the add
abbrev pub an_add_file : File
an_add_file = add_file one_of_two (inserts_in 0 1 ∷ []) [] (Out 0xb2 1 0x4 ∷ Out 0xcd8 4 0x1 ∷ Out 0xcdc 1 0x2 ∷ []) 1

-- the same, and the byte of the pen is stored before that
abbrev pub add_with_a_stored_pen_byte_file : File
add_with_a_stored_pen_byte_file =
    add_file (record one_of_two { turns = 74 }) (inserts_in 0 1 ∷ []) []
    (Store 0x9f010 1 0x1 ∷ Out 0xb2 1 0x4 ∷ Out 0xcd8 4 0x1 ∷ Out 0xcdc 1 0x2 ∷ []) 1

-- two processors are inserted at turn 0, and started at page 10
abbrev pub two_adds_file : File
two_adds_file =
    add_file (record one_of_three { turns = 300 }) (inserts_in 0 1 ∷ inserts_in 0 2 ∷ []) []
    (Icr 0x1000000 0x610 ∷ Icr 0x2000000 0x610 ∷ Out 0xb2 1 0x4 ∷ []) 2

-- two are inserted at turn 0; the second has no event, is started, and gets no turn until the first stores its SMBASE
abbrev pub two_new_processors_file : File
two_new_processors_file =
    add_file (record one_of_three { turns = 210 }) (inserts_in 0 1 ∷ inserts_in 0 2 ∷ []) (stalls_in 2 11 85 ∷ [])
    (Out 0xcd8 4 0x2 ∷ Out 0xcdc 1 0x2 ∷ Icr 0x2000000 0x610 ∷ Out 0xb2 1 0x4 ∷ []) 2

-- four are inserted at turn 0; the second to fourth are started, and each gets its turns from an attempt of the first on
abbrev pub gate_held_file : File
gate_held_file =
    add_file (record one_of_five { turns = 850 }) (inserts_in 0 1 ∷ inserts_in 0 2 ∷ inserts_in 0 3 ∷ inserts_in 0 4 ∷ [])
    (stalls_in 2 37 191 ∷ stalls_in 3 38 307 ∷ stalls_in 4 39 423 ∷ [])
    (Out 0xcd8 4 0x3 ∷ Out 0xcdc 1 0x2 ∷ Out 0xcd8 4 0x4 ∷ Out 0xcdc 1 0x2
    ∷ Icr 0x2000000 0x610 ∷ Icr 0x3000000 0x610 ∷ Icr 0x4000000 0x610 ∷ Out 0xb2 1 0x4 ∷ Out 0xb2 1 0x4 ∷ []) 4

-- the eject of an inserted processor is handed to the firmware
abbrev pub insert_and_eject_file : File
insert_and_eject_file =
    add_file (record one_of_two { turns = 60 }) (inserts_in 0 1 ∷ []) []
    (Out 0xcd8 4 0x1 ∷ Out 0xcdc 1 0x10 ∷ Out 0xb2 1 0x4 ∷ []) 1

-- an inserted processor is ejected before the SMI command is written
abbrev pub disabled_processor_file : File
disabled_processor_file =
    add_file (record one_of_two { turns = 60 }) (inserts_in 0 1 ∷ []) []
    (Out 0xcd8 4 0x1 ∷ Out 0xcdc 1 0x8 ∷ Out 0xb2 1 0x4 ∷ []) 1

-- the event of an inserted processor is cleared; it is started and gets an SMI
abbrev pub cleared_event_file : File
cleared_event_file =
    add_file (record one_of_two { turns = 60 }) (inserts_in 0 1 ∷ []) []
    (Out 0xcd8 4 0x1 ∷ Out 0xcdc 1 0x2 ∷ Icr 0x1000000 0x610 ∷ Icr 0x1000000 0x200 ∷ Out 0xb2 1 0x4 ∷ []) 1

-- a processor is inserted at turn 0, ejected after its add, and inserted anew at turn 70
abbrev pub already_known_file : File
already_known_file =
    add_file (record one_of_two { turns = 130 }) (inserts_in 0 1 ∷ inserts_in 70 1 ∷ []) []
    (Out 0xb2 1 0x4 ∷ Out 0xcd8 4 0x1 ∷ Out 0xcdc 1 0x2 ∷ Out 0xcdc 1 0x8 ∷ Out 0xb2 1 0x4 ∷ []) 1

-- an inserted processor gets no turn, and looks are taken twice
abbrev pub not_at_gate_file : File
not_at_gate_file =
    add_file (record one_of_two { polls = 2; turns = 120 }) (inserts_in 0 1 ∷ []) (stalls_in 1 0 999 ∷ [])
    (Out 0xb2 1 0x4 ∷ Out 0xcd8 4 0x1 ∷ Out 0xcdc 1 0x2 ∷ []) 1

-- a processor is inserted at turn 0, its eject is handed to the firmware after its add, and it is inserted anew at turn 121
abbrev pub ejected_and_added_again_file : File
ejected_and_added_again_file =
    add_file (record one_of_two { turns = 200 }) (inserts_in 0 1 ∷ inserts_in 121 1 ∷ []) []
    (Out 0xb2 1 0x4 ∷ Out 0xcd8 4 0x1 ∷ Out 0xcdc 1 0x2 ∷ Out 0xcdc 1 0x10 ∷ Out 0xb2 1 0x4 ∷ Out 0xb2 1 0x4 ∷ []) 1

-- the same without the second insert, where hot-unplug isn't supported
abbrev pub no_unplug_file : File
no_unplug_file =
    add_file (record one_of_two { features = 3; turns = 120 }) (inserts_in 0 1 ∷ []) []
    (Out 0xb2 1 0x4 ∷ Out 0xcd8 4 0x1 ∷ Out 0xcdc 1 0x2 ∷ Out 0xcdc 1 0x10 ∷ Out 0xb2 1 0x4 ∷ []) 1

-- an inserted processor's event is cleared, and its eject handed to the firmware
abbrev pub not_known_file : File
not_known_file =
    add_file (record one_of_two { turns = 60 }) (inserts_in 0 1 ∷ []) []
    (Out 0xcd8 4 0x1 ∷ Out 0xcdc 1 0x2 ∷ Out 0xcdc 1 0x10 ∷ Out 0xb2 1 0x4 ∷ []) 1

-- the eject of a boot processor is handed to the firmware, and from a turn on it gets no turn
abbrev pub boot_eject_file : ℕ → File
boot_eject_file turn =
    record {
      platform = record two_processors { turns = 100 };
      hosts = [];
      stalls = stalls_in 1 turn 999 ∷ [];
      voices = Script (Out 0xcd8 4 0x1 ∷ Out 0xcdc 1 0x10 ∷ Out 0xb2 1 0x4 ∷ []) ∷ Script [] ∷ [];
    }

abbrev pub not_arrived_file : File
not_arrived_file = boot_eject_file 0

abbrev pub not_parked_file : File
not_parked_file = boot_eject_file 15

-- of a processor's turns one in four is its SMI's
abbrev pub late_alone_file : File
late_alone_file = file_of (record one_processor { turns = 11; delivery = Late 3 }) (Script (Out 0xb2 1 0x5 ∷ Nop ∷ Load 0 4 ∷ []) ∷ [])

-- processor k gets none of n turns, which are `step` apart
unfoldable pub without_turns : ℕ → ℕ → ℕ → ℕ → List Stall
without_turns k zero turn step = []
without_turns k (suc n) turn step = stalls_in k turn turn ∷ without_turns k n (turn + step) step

-- late delivery, where the eject of processor 1 is handed to the firmware
abbrev pub late_file : Platform → List Stall → List VoiceKind → File
late_file p stalls others =
    record {
      platform = record p { delivery = Late 3 };
      hosts = [];
      stalls = stalls;
      voices = Script (Out 0xcd8 4 0x1 ∷ Out 0xcdc 1 0x10 ∷ Out 0xb2 1 0x4 ∷ []) ∷ others;
    }

-- processor 1 gets no turn for its SMI, and selects processor 0 after 18 steps
abbrev pub selector_taken_away_file : File
selector_taken_away_file =
    late_file (record two_processors { turns = 120 }) (without_turns 1 12 7 8) (Script (replicate 18 Nop ++ Out 0xcd8 4 0 ∷ []) ∷ [])

-- processor 2 gets no turn for its SMI, and selects itself after 31 steps
abbrev pub eject_led_astray_file : File
eject_led_astray_file =
    late_file (record two_processors { apic = 0 ∷ 1 ∷ 2 ∷ []; boot = 0 ∷ 1 ∷ 2 ∷ []; turns = 240 }) (without_turns 2 16 11 12)
    (Script [] ∷ Script (replicate 31 Nop ++ Out 0xcd8 4 0x2 ∷ []) ∷ [])

-- the plainest add, of an APIC ID past 8 bits
abbrev pub wide_add_file : File
wide_add_file =
    add_file (record one_of_two { apic = 0 ∷ 70000 ∷ []; x2apic = true }) (inserts_in 0 1 ∷ []) []
    (Out 0xb2 1 0x4 ∷ Out 0xcd8 4 0x1 ∷ Out 0xcdc 1 0x2 ∷ []) 1

-- n numbers from k on
unfoldable pub numbers_from : ℕ → ℕ → List ℕ
numbers_from zero k = []
numbers_from (suc n) k = k ∷ numbers_from n (k + 1)

-- 512 processors, of which one is there, and a TSEG of 48 MiB
abbrev pub largest : Platform
largest = record one_processor { apic = numbers_from 512 0; tseg_mib = 48; x2apic = true }

abbrev pub largest_file : File
largest_file = file_of largest (Script [] ∷ replicate 511 Pen)

abbrev pub refused_for_its_tseg_file : File
refused_for_its_tseg_file = file_of (record largest { ext_tseg = false }) (Script [] ∷ replicate 511 Pen)

-- one processor, and 16 MiB of RAM
abbrev pub small_memory : Platform
small_memory = record one_processor { low_memory = 0x1000000 }

abbrev pub modern_form_file : File
modern_form_file = file_of (record small_memory { turns = 8 }) (Script (In 0xcd8 4 ∷ Out 0xcd8 4 0 ∷ In 0xcd8 4 ∷ In 0xcdc 1 ∷ Out 0xcdd 1 0x3 ∷ In 0xce0 4 ∷ []) ∷ [])

abbrev pub default_area_file : File
default_area_file = file_of (record small_memory { turns = 12 }) (Script (Store 0x30000 4 0x11223344 ∷ CfgWrite 0x9c 0x2 ∷ CfgRead 0x9c ∷ CfgWrite 0x9c 0xff ∷ CfgRead 0x9c ∷ Swap 0x30000 0x11223344 0x5 ∷ CfgWrite 0x9c 0x2 ∷ Load 0x30000 8 ∷ CfgWrite 0x9c 0 ∷ CfgRead 0x9c ∷ Load 0xfffffe 4 ∷ []) ∷ [])

-- a processor is inserted at turn 0, and gets INIT, SIPI and an SMI
abbrev pub interrupts_file : File
interrupts_file = record (file_of (record one_of_two { turns = 20 }) (Script (Icr 0x1000000 0x500 ∷ Icr 0x1000000 0x610 ∷ Icr 0x1000000 0x610 ∷ Icr 0x1000000 0x500 ∷ Icr 0x1000000 0x200 ∷ Icr 0x1000000 0x610 ∷ Load 0x3ff00 4 ∷ Load 0x3fefc 4 ∷ Load 0x3ff78 8 ∷ []) ∷ Pen ∷ [])) { hosts = record { turn = 0; actor = actor.Insert 1 } ∷ [] }

-- both INIT and an SMI are sent before processor 1 gets a turn
abbrev pub smi_before_init_file : File
smi_before_init_file = record (file_of (record two_processors { turns = 8 }) (Script (Icr 0x1000000 0x500 ∷ Icr 0x1000000 0x200 ∷ []) ∷ Script [] ∷ [])) { stalls = record { cpu = 1; from = 1; to = 3 } ∷ [] }

-- the same file where SMIs don't come late
abbrev pub prompt_file : File → File
prompt_file f = record f { platform = record f.platform { delivery = Prompt } }

-- two processors are inserted, and looks are taken four times
abbrev pub few_looks_file : File
few_looks_file = add_file (record one_of_three { polls = 4; turns = 300 }) (inserts_in 0 1 ∷ inserts_in 0 2 ∷ []) (stalls_in 1 0 999 ∷ []) (Out 0xb2 1 0x4 ∷ []) 2
