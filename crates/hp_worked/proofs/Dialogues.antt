-- What voices say to the dialogues that were worked out by hand, and to those with a mistake.
use Rattle.std.proofs.Common.{◌≡◌, true, false, refl}
use Rattle.std.specs.Prelude.{⊤}
use Rattle.rand_core.specs.Pcg32Seed.{pcg32_seed}
use Rattle.rand_core.specs.Steps.{u32_at, word_bytes}
use Rattle.hp_model.specs.Seeded.{draw, generator_of}
use Rattle.hp_model.specs.Access.{same_access}
use Rattle.hp_model.specs.Voices.{says, seeded, storm, flood, digger, churn}
use Rattle.hp_worked.specs.Dialogues.{says_all, os_of_two, os_of_three, os_of_wide, looks_until_an_event, starts_one, starts_and_ejects, passes_over, ends_below, ends_past_the_last, counts_32_bits, looks_again, clears_after_the_scan, scans_without_a_command, starts_before_the_call, keeps_the_insert_event, waits_no_time, sends_one_sipi, ejects_first, hands_over_first, calls_once, starts_a_disabled_one, goes_round, asks_past_the_last, drawn_of_seed_2, drawn_of_seed_0, storm_of_two, flood_of_one, digger_lines, churn_of_one, storm_past_the_last}

-- what the check opens to compute a dialogue
unfoldable pub the_dialogue : ⊤
unfolding says_all says same_access draw generator_of pcg32_seed word_bytes u32_at
the_dialogue = tt

pub looks_until_an_event_holds : says_all os_of_two looks_until_an_event ≡ true
unfolding the_dialogue
looks_until_an_event_holds = refl

pub starts_one_holds : says_all os_of_two (starts_one 0x1000000) ≡ true
unfolding the_dialogue
starts_one_holds = refl

pub starts_a_wide_one_holds : says_all os_of_wide (starts_one 70000) ≡ true
unfolding the_dialogue
starts_a_wide_one_holds = refl

pub starts_and_ejects_holds : says_all os_of_three starts_and_ejects ≡ true
unfolding the_dialogue
starts_and_ejects_holds = refl

pub passes_over_holds : says_all os_of_three passes_over ≡ true
unfolding the_dialogue
passes_over_holds = refl

pub ends_below_holds : says_all os_of_three ends_below ≡ true
unfolding the_dialogue
ends_below_holds = refl

pub ends_past_the_last_holds : says_all os_of_two ends_past_the_last ≡ true
unfolding the_dialogue
ends_past_the_last_holds = refl

pub counts_32_bits_holds : says_all os_of_two counts_32_bits ≡ true
unfolding the_dialogue
counts_32_bits_holds = refl

pub looks_again_holds : says_all os_of_two looks_again ≡ true
unfolding the_dialogue
looks_again_holds = refl

pub ruleset os_facts = (looks_until_an_event_holds, starts_one_holds, starts_a_wide_one_holds, starts_and_ejects_holds, passes_over_holds, ends_below_holds, ends_past_the_last_holds, counts_32_bits_holds, looks_again_holds)

pub clears_after_the_scan_fails : says_all os_of_two clears_after_the_scan ≡ false
unfolding the_dialogue
clears_after_the_scan_fails = refl

pub scans_without_a_command_fails : says_all os_of_two scans_without_a_command ≡ false
unfolding the_dialogue
scans_without_a_command_fails = refl

pub starts_before_the_call_fails : says_all os_of_two starts_before_the_call ≡ false
unfolding the_dialogue
starts_before_the_call_fails = refl

pub keeps_the_insert_event_fails : says_all os_of_two keeps_the_insert_event ≡ false
unfolding the_dialogue
keeps_the_insert_event_fails = refl

pub waits_no_time_fails : says_all os_of_two waits_no_time ≡ false
unfolding the_dialogue
waits_no_time_fails = refl

pub sends_one_sipi_fails : says_all os_of_two sends_one_sipi ≡ false
unfolding the_dialogue
sends_one_sipi_fails = refl

pub starts_by_the_place_fails : says_all os_of_two (starts_one 1) ≡ false
unfolding the_dialogue
starts_by_the_place_fails = refl

pub starts_a_wide_one_by_its_low_bits_fails : says_all os_of_wide (starts_one 0x70000000) ≡ false
unfolding the_dialogue
starts_a_wide_one_by_its_low_bits_fails = refl

pub ejects_first_fails : says_all os_of_three ejects_first ≡ false
unfolding the_dialogue
ejects_first_fails = refl

pub hands_over_first_fails : says_all os_of_three hands_over_first ≡ false
unfolding the_dialogue
hands_over_first_fails = refl

pub calls_once_fails : says_all os_of_three calls_once ≡ false
unfolding the_dialogue
calls_once_fails = refl

pub starts_a_disabled_one_fails : says_all os_of_three starts_a_disabled_one ≡ false
unfolding the_dialogue
starts_a_disabled_one_fails = refl

pub goes_round_fails : says_all os_of_three goes_round ≡ false
unfolding the_dialogue
goes_round_fails = refl

pub asks_past_the_last_fails : says_all os_of_two asks_past_the_last ≡ false
unfolding the_dialogue
asks_past_the_last_fails = refl

pub ruleset os_mistakes = (clears_after_the_scan_fails, scans_without_a_command_fails, starts_before_the_call_fails, keeps_the_insert_event_fails, waits_no_time_fails, sends_one_sipi_fails, starts_by_the_place_fails, starts_a_wide_one_by_its_low_bits_fails, ejects_first_fails, hands_over_first_fails, calls_once_fails, starts_a_disabled_one_fails, goes_round_fails, asks_past_the_last_fails)

pub seed_0_holds : says_all (seeded (generator_of 0)) drawn_of_seed_0 ≡ true
unfolding the_dialogue
seed_0_holds = refl

pub seed_2_holds : says_all (seeded (generator_of 2)) drawn_of_seed_2 ≡ true
unfolding the_dialogue
seed_2_holds = refl

pub seed_1_fails : says_all (seeded (generator_of 1)) drawn_of_seed_2 ≡ false
unfolding the_dialogue
seed_1_fails = refl

pub ruleset seeded_facts = (seed_0_holds, seed_2_holds, seed_1_fails)

pub storm_holds : says_all (storm 2 0) storm_of_two ≡ true
unfolding the_dialogue
storm_holds = refl

pub storm_past_the_last_holds : says_all (storm 2 0xffffffff) storm_past_the_last ≡ true
unfolding the_dialogue
storm_past_the_last_holds = refl

pub flood_holds : says_all (flood 1 0) flood_of_one ≡ true
unfolding the_dialogue
flood_holds = refl

pub digger_holds : says_all (digger 0) digger_lines ≡ true
unfolding the_dialogue
digger_holds = refl

pub churn_holds : says_all (churn 1 0) churn_of_one ≡ true
unfolding the_dialogue
churn_holds = refl

pub ruleset attack_facts = (storm_holds, storm_past_the_last_holds, flood_holds, digger_holds, churn_holds)

pub storm_of_three_fails : says_all (storm 3 0) storm_of_two ≡ false
unfolding the_dialogue
storm_of_three_fails = refl

pub storm_of_none_fails : says_all (storm 0 0) storm_of_two ≡ false
unfolding the_dialogue
storm_of_none_fails = refl

pub storm_one_on_fails : says_all (storm 2 1) storm_of_two ≡ false
unfolding the_dialogue
storm_one_on_fails = refl

pub flood_of_another_fails : says_all (flood 2 0) flood_of_one ≡ false
unfolding the_dialogue
flood_of_another_fails = refl

pub digger_one_on_fails : says_all (digger 1) digger_lines ≡ false
unfolding the_dialogue
digger_one_on_fails = refl

pub churn_of_another_fails : says_all (churn 2 0) churn_of_one ≡ false
unfolding the_dialogue
churn_of_another_fails = refl

pub ruleset attack_mistakes = (storm_of_three_fails, storm_of_none_fails, storm_one_on_fails, flood_of_another_fails, digger_one_on_fails, churn_of_another_fails)
