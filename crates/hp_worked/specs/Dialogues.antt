-- What voices say to questions, one after the other, worked out by hand; and the same with one thing changed, which they don't say.
use Rattle.std.specs.Prelude.{ℕ, Bool, true, ◌&&◌, List, [], ◌∷◌, ◌++◌, map, take, slice_set}
use Rattle.hp_model.specs.declared.platforms.Platform.{Platform}
use Rattle.hp_model.specs.declared.accesses.Access.{Access}
use Rattle.hp_model.specs.declared.accesses.Access.TheVariants.{Load, Store, In, Out, Icr, Nop}
use Rattle.hp_model.specs.declared.accesses.Answer.{Answer}
use Rattle.hp_model.specs.declared.accesses.Answer.TheVariants.{Quiet, Value}
use Rattle.hp_model.specs.declared.files.VoiceKind.TheVariants.{Os}
use Rattle.hp_model.specs.Access.{same_access}
use Rattle.hp_model.specs.Voices.{Voice, Question, says, voice_of}
use Rattle.hp_worked.specs.Files.{one_of_two, one_of_three}

-- what was said, where the access before had this answer
pub record Line : Type 0 where
  pub last : Answer
  pub access : Access

abbrev pub asked_with : Answer → Question
asked_with last = record { cpu = 0; page = 0; last = last }

-- the voice says these accesses, each where its question has this last answer
unfoldable pub says_all : Voice → List Line → Bool
says_all v [] = true
says_all v (l ∷ ls) = same_access (says v (asked_with l.last)).access l.access && says_all (says v (asked_with l.last)).voice ls

-- after this value, and where there was none
abbrev pub at : ℕ → Access → Line
at value access = record { last = Value value; access = access }

abbrev pub then_says : Access → Line
then_says access = record { last = Quiet; access = access }

abbrev pub says_then : List Access → List Line
says_then as' = map then_says as'

-- another access in this line's place, counted from 0
abbrev pub with_line : ℕ → Line → List Line → List Line
with_line k l ls = slice_set ls k l

-- the operating systems of two processors, of three, and of two where the second has an APIC ID of more than 8 bits
abbrev pub os_of_two : Voice
os_of_two = voice_of one_of_two Os

abbrev pub os_of_three : Voice
os_of_three = voice_of one_of_three Os

abbrev pub wide_platform : Platform
wide_platform = record one_of_two { apic = 0 ∷ 70000 ∷ []; x2apic = true }

abbrev pub os_of_wide : Voice
os_of_wide = voice_of wide_platform Os

-- no event is told by the GPE status, whatever its other bits; then one is, and is cleared
abbrev pub looks_until_an_event : List Line
looks_until_an_event = then_says (In 0x620 1) ∷ at 0 (In 0x620 1) ∷ at 0xfb (In 0x620 1) ∷ at 4 (Out 0x620 1 4) ∷ then_says (Out 0xcd8 4 0) ∷ []

-- an event is told, and the scan begins at processor 0: command 0, and the selector is read
abbrev pub scan_begins : List Line
scan_begins = then_says (In 0x620 1) ∷ at 4 (Out 0x620 1 4) ∷ says_then (Out 0xcd8 4 0 ∷ Out 0xcdd 1 0 ∷ In 0xce0 4 ∷ [])

-- the scan goes on at this processor
abbrev pub scan_goes_on : ℕ → Answer → List Line
scan_goes_on cpu status = record { last = status; access = Out 0xcd8 4 cpu } ∷ says_then (Out 0xcdd 1 0 ∷ In 0xce0 4 ∷ [])

-- a processor is started: its insert event is cleared, eight waits, INIT, two waits, and two SIPIs
abbrev pub start_lines : ℕ → ℕ → List Line
start_lines cpu high =
    says_then
    (Out 0xcd8 4 cpu ∷ Out 0xcdc 1 2 ∷ Nop ∷ Nop ∷ Nop ∷ Nop ∷ Nop ∷ Nop ∷ Nop ∷ Nop
    ∷ Icr high 0x500 ∷ Nop ∷ Nop ∷ Icr high 0x610 ∷ Icr high 0x610 ∷ [])

-- a processor is ejected: its remove event is cleared before its eject is handed to the firmware
abbrev pub removal_lines : ℕ → List Line
removal_lines cpu = says_then (Out 0xcd8 4 cpu ∷ Out 0xcdc 1 4 ∷ Out 0xcdc 1 0x10 ∷ Out 0xb2 1 4 ∷ [])

-- processor 1 of two is enabled with an insert event: the firmware is called, and then it is started
abbrev pub starts_one : ℕ → List Line
starts_one high =
    scan_begins ++ (at 1 (In 0xcdc 1) ∷ at 3 (Out 0xb2 1 4) ∷ [])
    ++ start_lines 1 high ++ says_then (In 0x620 1 ∷ [])

-- of three, processor 1 has a remove event and processor 2 both events: 2 is started, and then 1 and 2 are ejected
abbrev pub starts_and_ejects : List Line
starts_and_ejects =
    scan_begins ++ (at 1 (In 0xcdc 1) ∷ scan_goes_on 2 (Value 5)) ++ (at 2 (In 0xcdc 1) ∷ at 7 (Out 0xb2 1 4) ∷ [])
    ++ start_lines 2 0x2000000 ++ removal_lines 1 ++ removal_lines 2 ++ says_then (In 0x620 1 ∷ [])

-- processors 0 and 1 of three have no event, or aren't enabled: they are passed over, and nothing is to do
abbrev pub passes_over : List Line
passes_over =
    scan_begins ++ (at 0 (In 0xcdc 1) ∷ scan_goes_on 1 (Value 1)) ++ (at 1 (In 0xcdc 1) ∷ scan_goes_on 2 (Value 6))
    ++ (at 2 (In 0xcdc 1) ∷ at 0 (In 0x620 1) ∷ [])

-- the scan ends where the selector is below, as it began anew, or names no processor; of what was read its 32 bits count
abbrev pub ends_below : List Line
ends_below = scan_begins ++ (at 0 (In 0xcdc 1) ∷ scan_goes_on 1 (Value 3)) ++ (at 0 (Out 0xb2 1 4) ∷ start_lines 0 0)

abbrev pub ends_past_the_last : List Line
ends_past_the_last = scan_begins ++ (at 2 (In 0x620 1) ∷ [])

abbrev pub counts_32_bits : List Line
counts_32_bits = scan_begins ++ (at 0x100000001 (In 0xcdc 1) ∷ [])

-- an event that is told later is found by a later look, and cleared then
abbrev pub looks_again : List Line
looks_again = starts_one 0x1000000 ++ (at 0 (In 0x620 1) ∷ at 4 (Out 0x620 1 4) ∷ [])

-- wrong: the event is cleared after the scan; a scan without command 0; the one that was found is started before the firmware is called; without its
-- insert event cleared; without waits; by its place in the command; and one SIPI
abbrev pub clears_after_the_scan : List Line
clears_after_the_scan = take 1 scan_begins ++ (at 4 (Out 0xcd8 4 0) ∷ [])

abbrev pub scans_without_a_command : List Line
scans_without_a_command = with_line 3 (then_says (In 0xce0 4)) scan_begins

abbrev pub starts_before_the_call : List Line
starts_before_the_call = take 6 (starts_one 0x1000000) ++ (at 3 (Out 0xcd8 4 1) ∷ [])

abbrev pub keeps_the_insert_event : List Line
keeps_the_insert_event = with_line 8 (then_says Nop) (starts_one 0x1000000)

abbrev pub waits_no_time : List Line
waits_no_time = with_line 9 (then_says (Icr 0x1000000 0x500)) (starts_one 0x1000000)

abbrev pub sends_one_sipi : List Line
sends_one_sipi = with_line 21 (then_says (In 0x620 1)) (starts_one 0x1000000)

-- wrong: ejects come before starts; the eject is handed over before the remove event is cleared; the firmware is called once for both
abbrev pub ejects_first : List Line
ejects_first = with_line 11 (then_says (Out 0xcd8 4 1)) starts_and_ejects

abbrev pub hands_over_first : List Line
hands_over_first = with_line 27 (then_says (Out 0xcdc 1 0x10)) starts_and_ejects

abbrev pub calls_once : List Line
calls_once = with_line 29 (then_says (Out 0xcd8 4 2)) starts_and_ejects

-- wrong: one that isn't enabled is started; a scan begins anew at 0; one past the last is asked for its status
abbrev pub starts_a_disabled_one : List Line
starts_a_disabled_one = take 14 passes_over ++ (at 6 (Out 0xb2 1 4) ∷ [])

abbrev pub goes_round : List Line
goes_round = take 9 ends_below ++ (at 0 (In 0xcdc 1) ∷ [])

abbrev pub asks_past_the_last : List Line
asks_past_the_last = scan_begins ++ (at 2 (In 0xcdc 1) ∷ [])

-- the first twelve words of seed 2, each as its access; the first two of seed 0 are those of the value that rand_pcg's tests have
abbrev pub drawn_of_seed_2 : List Line
drawn_of_seed_2 =
    says_then
    (Load 0xe31ac 4 ∷ Icr 0xb000000 0x200 ∷ Store 0xfbb74 4 0x1feedd39 ∷ Load 0x30000 8 ∷ In 0xce0 4 ∷ Out 0xcd8 4 39
    ∷ Store 0x49360 4 0xd524d821 ∷ Out 0xcd8 4 64 ∷ In 0xce0 4 ∷ Load 0xe55d8 4 ∷ Nop ∷ In 0xcdc 1 ∷ [])

abbrev pub drawn_of_seed_0 : List Line
drawn_of_seed_0 = says_then (Out 0xcd8 4 9 ∷ Nop ∷ [])

-- a storm for two processors selects 0 and 2 by turns: 0, 6, 12 and so on modulo 4
abbrev pub storm_of_two : List Line
storm_of_two =
    says_then
    (Out 0xcd8 4 0 ∷ Out 0xcdc 1 0x10 ∷ Icr 0 0xc0500 ∷ Icr 0 0xc0200 ∷ Store 0x30000 8 0 ∷ Out 0xb2 1 4
    ∷ Out 0xcd8 4 2 ∷ Out 0xcdc 1 0x10 ∷ [])

abbrev pub flood_of_one : List Line
flood_of_one = says_then (Icr 0x1000000 0x500 ∷ Icr 0x1000000 0x610 ∷ Icr 0x1000000 0x200 ∷ Icr 0x1000000 0x500 ∷ [])

abbrev pub digger_lines : List Line
digger_lines =
    says_then
    (Store 0x1000 8 0x080000000a002200 ∷ Store 0x1008 8 0x0080030000000000 ∷ Out 0x518 4 0x00100000 ∷ Store 0x38000 4 0
    ∷ Store 0x1000 8 0x080000000a002200 ∷ [])

abbrev pub churn_of_one : List Line
churn_of_one = says_then (Out 0xcd8 4 1 ∷ Out 0xcdc 1 8 ∷ Out 0xb2 1 4 ∷ Out 0xcd8 4 1 ∷ [])

-- past 2^32 questions a count begins anew at 0, which isn't its next place modulo 6
abbrev pub storm_past_the_last : List Line
storm_past_the_last = says_then (Icr 0 0xc0200 ∷ Out 0xcd8 4 0 ∷ Out 0xcdc 1 0x10 ∷ [])
