-- The laws of safety refuse what firmware does that goes wrong at one step, and the machine alone records it.
use Rattle.std.proofs.Common.{◌≡◌, true, false, refl}
use Rattle.hp_worked.specs.Judged.{verdicts_of_record, is_record, all_well}
use Rattle.hp_worked.specs.Asked.{is_run}
use Rattle.hp_worked.specs.Files.{an_add_file, two_adds_file, two_new_processors_file, insert_and_eject_file, not_at_gate_file, not_parked_file, wide_add_file}
use Rattle.hp_worked.specs.Adds.{an_add}
use Rattle.hp_worked.specs.RefusedAdds.{insert_and_eject, not_at_gate}
use Rattle.hp_worked.specs.RefusedEjects.{not_parked}
use Rattle.hp_worked.specs.TwoAdds.{two_adds}
use Rattle.hp_worked.specs.TwoNewProcessors.{two_new_processors}
use Rattle.hp_worked.specs.Wide.{wide_add}
use Rattle.hp_worked.specs.WrongSteps.{passed_the_closed_gate, passed_once_it_was_shut, left_a_cell_early, passed_for_another, added_before_its_rsm, report_left_unanswered, ejected_and_told_as_not_parked, foreign_though_its_own, apic_id_not_asked_for, given_up_after_two_attempts, added_with_an_eject, not_parked_though_it_is}
use Rattle.hp_worked.proofs.Opened.{the_laws}

pub passed_the_closed_gate_is_recorded : is_record an_add_file passed_the_closed_gate ≡ true
unfolding the_laws an_add passed_the_closed_gate
passed_the_closed_gate_is_recorded = refl

pub passed_once_it_was_shut_is_recorded : is_record not_at_gate_file passed_once_it_was_shut ≡ true
unfolding the_laws not_at_gate passed_once_it_was_shut
passed_once_it_was_shut_is_recorded = refl

pub left_a_cell_early_is_recorded : is_record an_add_file left_a_cell_early ≡ true
unfolding the_laws an_add left_a_cell_early
left_a_cell_early_is_recorded = refl

pub passed_for_another_is_recorded : is_record two_new_processors_file passed_for_another ≡ true
unfolding the_laws two_new_processors passed_for_another
passed_for_another_is_recorded = refl

pub added_before_its_rsm_is_recorded : is_record an_add_file added_before_its_rsm ≡ true
unfolding the_laws an_add added_before_its_rsm
added_before_its_rsm_is_recorded = refl

pub report_left_unanswered_is_recorded : is_record two_adds_file report_left_unanswered ≡ true
unfolding the_laws two_adds report_left_unanswered
report_left_unanswered_is_recorded = refl

pub ejected_and_told_as_not_parked_is_recorded : is_record not_parked_file ejected_and_told_as_not_parked ≡ true
unfolding the_laws not_parked ejected_and_told_as_not_parked
ejected_and_told_as_not_parked_is_recorded = refl

pub foreign_though_its_own_is_recorded : is_record an_add_file foreign_though_its_own ≡ true
unfolding the_laws an_add foreign_though_its_own
foreign_though_its_own_is_recorded = refl

pub apic_id_not_asked_for_is_recorded : is_record wide_add_file apic_id_not_asked_for ≡ true
unfolding the_laws wide_add apic_id_not_asked_for
apic_id_not_asked_for_is_recorded = refl

pub given_up_after_two_attempts_is_recorded : is_record not_at_gate_file given_up_after_two_attempts ≡ true
unfolding the_laws not_at_gate given_up_after_two_attempts
given_up_after_two_attempts_is_recorded = refl

pub added_with_an_eject_is_recorded : is_record insert_and_eject_file added_with_an_eject ≡ true
unfolding the_laws insert_and_eject added_with_an_eject
added_with_an_eject_is_recorded = refl

pub not_parked_though_it_is_is_recorded : is_record not_parked_file not_parked_though_it_is ≡ true
unfolding the_laws not_parked not_parked_though_it_is
not_parked_though_it_is_is_recorded = refl

pub passed_the_closed_gate_is_no_run : is_run an_add_file passed_the_closed_gate ≡ false
unfolding the_laws an_add passed_the_closed_gate
passed_the_closed_gate_is_no_run = refl

pub passed_once_it_was_shut_is_no_run : is_run not_at_gate_file passed_once_it_was_shut ≡ false
unfolding the_laws not_at_gate passed_once_it_was_shut
passed_once_it_was_shut_is_no_run = refl

pub left_a_cell_early_is_no_run : is_run an_add_file left_a_cell_early ≡ false
unfolding the_laws an_add left_a_cell_early
left_a_cell_early_is_no_run = refl

pub passed_for_another_is_no_run : is_run two_new_processors_file passed_for_another ≡ false
unfolding the_laws two_new_processors passed_for_another
passed_for_another_is_no_run = refl

pub added_before_its_rsm_is_no_run : is_run an_add_file added_before_its_rsm ≡ false
unfolding the_laws an_add added_before_its_rsm
added_before_its_rsm_is_no_run = refl

pub report_left_unanswered_is_no_run : is_run two_adds_file report_left_unanswered ≡ false
unfolding the_laws two_adds report_left_unanswered
report_left_unanswered_is_no_run = refl

pub ejected_and_told_as_not_parked_is_no_run : is_run not_parked_file ejected_and_told_as_not_parked ≡ false
unfolding the_laws not_parked ejected_and_told_as_not_parked
ejected_and_told_as_not_parked_is_no_run = refl

pub foreign_though_its_own_is_no_run : is_run an_add_file foreign_though_its_own ≡ false
unfolding the_laws an_add foreign_though_its_own
foreign_though_its_own_is_no_run = refl

pub apic_id_not_asked_for_is_no_run : is_run wide_add_file apic_id_not_asked_for ≡ false
unfolding the_laws wide_add apic_id_not_asked_for
apic_id_not_asked_for_is_no_run = refl

pub given_up_after_two_attempts_is_no_run : is_run not_at_gate_file given_up_after_two_attempts ≡ false
unfolding the_laws not_at_gate given_up_after_two_attempts
given_up_after_two_attempts_is_no_run = refl

pub added_with_an_eject_is_no_run : is_run insert_and_eject_file added_with_an_eject ≡ false
unfolding the_laws insert_and_eject added_with_an_eject
added_with_an_eject_is_no_run = refl

pub not_parked_though_it_is_is_no_run : is_run not_parked_file not_parked_though_it_is ≡ false
unfolding the_laws not_parked not_parked_though_it_is
not_parked_though_it_is_is_no_run = refl

pub passed_the_closed_gate_is_refused : verdicts_of_record an_add_file passed_the_closed_gate ≡ record all_well { named = false }
unfolding the_laws an_add passed_the_closed_gate
passed_the_closed_gate_is_refused = refl

pub passed_once_it_was_shut_is_refused : verdicts_of_record not_at_gate_file passed_once_it_was_shut ≡ record all_well { named = false }
unfolding the_laws not_at_gate passed_once_it_was_shut
passed_once_it_was_shut_is_refused = refl

pub left_a_cell_early_is_refused : verdicts_of_record an_add_file left_a_cell_early ≡ record all_well { named = false }
unfolding the_laws an_add left_a_cell_early
left_a_cell_early_is_refused = refl

pub passed_for_another_is_refused : verdicts_of_record two_new_processors_file passed_for_another ≡ record all_well { own = false; apart = false; named = false; held_alone = false }
unfolding the_laws two_new_processors passed_for_another
passed_for_another_is_refused = refl

pub added_before_its_rsm_is_refused : verdicts_of_record an_add_file added_before_its_rsm ≡ record all_well { outcomes_show = false; held_alone = false }
unfolding the_laws an_add added_before_its_rsm
added_before_its_rsm_is_refused = refl

pub report_left_unanswered_is_refused : verdicts_of_record two_adds_file report_left_unanswered ≡ record all_well { all_answered = false }
unfolding the_laws two_adds report_left_unanswered
report_left_unanswered_is_refused = refl

pub ejected_and_told_as_not_parked_is_refused : verdicts_of_record not_parked_file ejected_and_told_as_not_parked ≡ record all_well { none_lost = false }
unfolding the_laws not_parked ejected_and_told_as_not_parked
ejected_and_told_as_not_parked_is_refused = refl

pub foreign_though_its_own_is_refused : verdicts_of_record an_add_file foreign_though_its_own ≡ record all_well { outcomes_answer = false; outcomes_show = false }
unfolding the_laws an_add foreign_though_its_own
foreign_though_its_own_is_refused = refl

pub apic_id_not_asked_for_is_refused : verdicts_of_record wide_add_file apic_id_not_asked_for ≡ record all_well { reports = false; outcomes_show = false }
unfolding the_laws wide_add apic_id_not_asked_for
apic_id_not_asked_for_is_refused = refl

pub given_up_after_two_attempts_is_refused : verdicts_of_record not_at_gate_file given_up_after_two_attempts ≡ record all_well { outcomes_show = false }
unfolding the_laws not_at_gate given_up_after_two_attempts
given_up_after_two_attempts_is_refused = refl

pub added_with_an_eject_is_refused : verdicts_of_record insert_and_eject_file added_with_an_eject ≡ record all_well { named = false; outcomes_answer = false }
unfolding the_laws insert_and_eject added_with_an_eject
added_with_an_eject_is_refused = refl

pub not_parked_though_it_is_is_refused : verdicts_of_record not_parked_file not_parked_though_it_is ≡ record all_well { outcomes_show = false }
unfolding the_laws not_parked not_parked_though_it_is
not_parked_though_it_is_is_refused = refl

pub ruleset steps_recorded = (passed_the_closed_gate_is_recorded, passed_once_it_was_shut_is_recorded, left_a_cell_early_is_recorded, passed_for_another_is_recorded, added_before_its_rsm_is_recorded, report_left_unanswered_is_recorded, ejected_and_told_as_not_parked_is_recorded, foreign_though_its_own_is_recorded, apic_id_not_asked_for_is_recorded, given_up_after_two_attempts_is_recorded, added_with_an_eject_is_recorded, not_parked_though_it_is_is_recorded)

pub ruleset steps_no_runs = (passed_the_closed_gate_is_no_run, passed_once_it_was_shut_is_no_run, left_a_cell_early_is_no_run, passed_for_another_is_no_run, added_before_its_rsm_is_no_run, report_left_unanswered_is_no_run, ejected_and_told_as_not_parked_is_no_run, foreign_though_its_own_is_no_run, apic_id_not_asked_for_is_no_run, given_up_after_two_attempts_is_no_run, added_with_an_eject_is_no_run, not_parked_though_it_is_is_no_run)

pub ruleset steps_refused = (passed_the_closed_gate_is_refused, passed_once_it_was_shut_is_refused, left_a_cell_early_is_refused, passed_for_another_is_refused, added_before_its_rsm_is_refused, report_left_unanswered_is_refused, ejected_and_told_as_not_parked_is_refused, foreign_though_its_own_is_refused, apic_id_not_asked_for_is_refused, given_up_after_two_attempts_is_refused, added_with_an_eject_is_refused, not_parked_though_it_is_is_refused)
