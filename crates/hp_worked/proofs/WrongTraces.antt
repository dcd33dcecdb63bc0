-- The laws of safety refuse what wrong firmware does, each by the part that speaks of it, and the machine alone records it.
use Rattle.std.proofs.Common.{◌≡◌, true, false, refl}
use Rattle.hp_worked.specs.Judged.{verdicts_of_record, is_record, all_well}
use Rattle.hp_worked.specs.Asked.{is_run}
use Rattle.hp_worked.specs.Files.{an_add_file, ejected_and_added_again_file, few_looks_file, not_arrived_file, rendezvous_file, two_adds_file}
use Rattle.hp_worked.specs.Adds.{an_add}
use Rattle.hp_worked.specs.Ejects.{ejected_and_added_again}
use Rattle.hp_worked.specs.Rendezvous.{rendezvous}
use Rattle.hp_worked.specs.WrongBodies.{default_area_left_open, added_at_the_flag, no_smi_to_itself, added_beside_a_held_one, slot_given_away, ejected_outside, called_in_before_release, collected_past_the_end}
use Rattle.hp_worked.proofs.Opened.{the_laws}

pub default_area_left_open_is_recorded : is_record an_add_file default_area_left_open ≡ true
unfolding the_laws default_area_left_open
default_area_left_open_is_recorded = refl

pub added_at_the_flag_is_recorded : is_record an_add_file added_at_the_flag ≡ true
unfolding the_laws added_at_the_flag
added_at_the_flag_is_recorded = refl

pub no_smi_to_itself_is_recorded : is_record an_add_file no_smi_to_itself ≡ true
unfolding the_laws no_smi_to_itself
no_smi_to_itself_is_recorded = refl

pub added_beside_a_held_one_is_recorded : is_record few_looks_file added_beside_a_held_one ≡ true
unfolding the_laws added_beside_a_held_one
added_beside_a_held_one_is_recorded = refl

pub slot_given_away_is_recorded : is_record two_adds_file slot_given_away ≡ true
unfolding the_laws slot_given_away
slot_given_away_is_recorded = refl

pub ejected_outside_is_recorded : is_record not_arrived_file ejected_outside ≡ true
unfolding the_laws ejected_outside
ejected_outside_is_recorded = refl

pub called_in_before_release_is_recorded : is_record rendezvous_file called_in_before_release ≡ true
unfolding the_laws called_in_before_release
called_in_before_release_is_recorded = refl

pub collected_past_the_end_is_recorded : is_record two_adds_file collected_past_the_end ≡ true
unfolding the_laws collected_past_the_end
collected_past_the_end_is_recorded = refl

pub default_area_left_open_is_refused : verdicts_of_record an_add_file default_area_left_open ≡ record all_well { locked = false }
unfolding the_laws default_area_left_open
default_area_left_open_is_refused = refl

pub added_at_the_flag_is_refused : verdicts_of_record an_add_file added_at_the_flag ≡ record all_well { outcomes_show = false }
unfolding the_laws added_at_the_flag
added_at_the_flag_is_refused = refl

pub no_smi_to_itself_is_refused : verdicts_of_record an_add_file no_smi_to_itself ≡ record all_well { quiet = false }
unfolding the_laws no_smi_to_itself
no_smi_to_itself_is_refused = refl

pub added_beside_a_held_one_is_refused : verdicts_of_record few_looks_file added_beside_a_held_one ≡ record all_well { outcomes_answer = false }
unfolding the_laws added_beside_a_held_one
added_beside_a_held_one_is_refused = refl

pub slot_given_away_is_refused : verdicts_of_record two_adds_file slot_given_away ≡ record all_well { own = false; outcomes_show = false }
unfolding the_laws slot_given_away
slot_given_away_is_refused = refl

pub ejected_outside_is_refused : verdicts_of_record not_arrived_file ejected_outside ≡ record all_well { outcomes_show = false }
unfolding the_laws ejected_outside
ejected_outside_is_refused = refl

pub called_in_before_release_is_refused : verdicts_of_record rendezvous_file called_in_before_release ≡ record all_well { quiet = false }
unfolding the_laws called_in_before_release
called_in_before_release_is_refused = refl

pub collected_past_the_end_is_refused : verdicts_of_record two_adds_file collected_past_the_end ≡ record all_well { reports = false }
unfolding the_laws collected_past_the_end
collected_past_the_end_is_refused = refl

pub an_add_is_recorded_well : verdicts_of_record an_add_file an_add ≡ all_well
unfolding the_laws an_add
an_add_is_recorded_well = refl

pub ejected_and_added_again_is_recorded_well : verdicts_of_record ejected_and_added_again_file ejected_and_added_again ≡ all_well
unfolding the_laws ejected_and_added_again
ejected_and_added_again_is_recorded_well = refl

pub rendezvous_is_recorded_well : verdicts_of_record rendezvous_file rendezvous ≡ all_well
unfolding the_laws rendezvous
rendezvous_is_recorded_well = refl

pub default_area_left_open_is_no_run : is_run an_add_file default_area_left_open ≡ false
unfolding the_laws default_area_left_open
default_area_left_open_is_no_run = refl

pub added_at_the_flag_is_no_run : is_run an_add_file added_at_the_flag ≡ false
unfolding the_laws added_at_the_flag
added_at_the_flag_is_no_run = refl

pub no_smi_to_itself_is_no_run : is_run an_add_file no_smi_to_itself ≡ false
unfolding the_laws no_smi_to_itself
no_smi_to_itself_is_no_run = refl

pub added_beside_a_held_one_is_no_run : is_run few_looks_file added_beside_a_held_one ≡ false
unfolding the_laws added_beside_a_held_one
added_beside_a_held_one_is_no_run = refl

pub slot_given_away_is_no_run : is_run two_adds_file slot_given_away ≡ false
unfolding the_laws slot_given_away
slot_given_away_is_no_run = refl

pub ejected_outside_is_no_run : is_run not_arrived_file ejected_outside ≡ false
unfolding the_laws ejected_outside
ejected_outside_is_no_run = refl

pub called_in_before_release_is_no_run : is_run rendezvous_file called_in_before_release ≡ false
unfolding the_laws called_in_before_release
called_in_before_release_is_no_run = refl

pub collected_past_the_end_is_no_run : is_run two_adds_file collected_past_the_end ≡ false
unfolding the_laws collected_past_the_end
collected_past_the_end_is_no_run = refl

pub ruleset recorded = (default_area_left_open_is_recorded, added_at_the_flag_is_recorded, no_smi_to_itself_is_recorded, added_beside_a_held_one_is_recorded, slot_given_away_is_recorded, ejected_outside_is_recorded, called_in_before_release_is_recorded, collected_past_the_end_is_recorded)

pub ruleset refused = (default_area_left_open_is_refused, added_at_the_flag_is_refused, no_smi_to_itself_is_refused, added_beside_a_held_one_is_refused, slot_given_away_is_refused, ejected_outside_is_refused, called_in_before_release_is_refused, collected_past_the_end_is_refused)

pub ruleset recorded_well = (an_add_is_recorded_well, ejected_and_added_again_is_recorded_well, rendezvous_is_recorded_well)

pub ruleset no_runs = (default_area_left_open_is_no_run, added_at_the_flag_is_no_run, no_smi_to_itself_is_no_run, added_beside_a_held_one_is_no_run, slot_given_away_is_no_run, ejected_outside_is_no_run, called_in_before_release_is_no_run, collected_past_the_end_is_no_run)
