-- The laws of safety hold of worked traces.
use Rattle.std.proofs.Common.{◌≡◌, refl}
use Rattle.hp_worked.specs.Judged.{verdicts_of_run, all_well}
use Rattle.hp_worked.specs.Files.{an_add_file, two_adds_file, two_new_processors_file, gate_held_file, insert_and_eject_file, disabled_processor_file, already_known_file, not_at_gate_file, ejected_and_added_again_file, no_unplug_file, not_known_file, not_arrived_file, not_parked_file, late_alone_file, selector_taken_away_file, eject_led_astray_file, wide_add_file}
use Rattle.hp_worked.specs.Adds.{an_add}
use Rattle.hp_worked.specs.TwoAdds.{two_adds}
use Rattle.hp_worked.specs.TwoNewProcessors.{two_new_processors}
use Rattle.hp_worked.specs.GateHeld.{gate_held}
use Rattle.hp_worked.specs.RefusedAdds.{insert_and_eject, disabled_processor, already_known, not_at_gate}
use Rattle.hp_worked.specs.Ejects.{ejected_and_added_again}
use Rattle.hp_worked.specs.RefusedEjects.{no_unplug, not_known, not_arrived, not_parked}
use Rattle.hp_worked.specs.Late.{late_alone, selector_taken_away, eject_led_astray}
use Rattle.hp_worked.specs.Wide.{wide_add}
use Rattle.hp_worked.proofs.Opened.{the_laws}

pub an_add_is_safe : verdicts_of_run an_add_file an_add ≡ all_well
unfolding the_laws an_add
an_add_is_safe = refl

pub two_adds_is_safe : verdicts_of_run two_adds_file two_adds ≡ all_well
unfolding the_laws two_adds
two_adds_is_safe = refl

pub two_new_processors_is_safe : verdicts_of_run two_new_processors_file two_new_processors ≡ all_well
unfolding the_laws two_new_processors
two_new_processors_is_safe = refl

pub gate_held_is_safe : verdicts_of_run gate_held_file gate_held ≡ all_well
unfolding the_laws gate_held
gate_held_is_safe = refl

pub insert_and_eject_is_safe : verdicts_of_run insert_and_eject_file insert_and_eject ≡ all_well
unfolding the_laws insert_and_eject
insert_and_eject_is_safe = refl

pub disabled_processor_is_safe : verdicts_of_run disabled_processor_file disabled_processor ≡ all_well
unfolding the_laws disabled_processor
disabled_processor_is_safe = refl

pub already_known_is_safe : verdicts_of_run already_known_file already_known ≡ all_well
unfolding the_laws an_add already_known
already_known_is_safe = refl

pub not_at_gate_is_safe : verdicts_of_run not_at_gate_file not_at_gate ≡ all_well
unfolding the_laws not_at_gate
not_at_gate_is_safe = refl

pub ejected_and_added_again_is_safe : verdicts_of_run ejected_and_added_again_file ejected_and_added_again ≡ all_well
unfolding the_laws ejected_and_added_again
ejected_and_added_again_is_safe = refl

pub no_unplug_is_safe : verdicts_of_run no_unplug_file no_unplug ≡ all_well
unfolding the_laws no_unplug
no_unplug_is_safe = refl

pub not_known_is_safe : verdicts_of_run not_known_file not_known ≡ all_well
unfolding the_laws not_known
not_known_is_safe = refl

pub not_arrived_is_safe : verdicts_of_run not_arrived_file not_arrived ≡ all_well
unfolding the_laws not_arrived
not_arrived_is_safe = refl

pub not_parked_is_safe : verdicts_of_run not_parked_file not_parked ≡ all_well
unfolding the_laws not_parked
not_parked_is_safe = refl

pub late_alone_is_safe : verdicts_of_run late_alone_file late_alone ≡ all_well
unfolding the_laws late_alone
late_alone_is_safe = refl

pub selector_taken_away_is_safe : verdicts_of_run selector_taken_away_file selector_taken_away ≡ all_well
unfolding the_laws selector_taken_away
selector_taken_away_is_safe = refl

pub eject_led_astray_is_safe : verdicts_of_run eject_led_astray_file eject_led_astray ≡ all_well
unfolding the_laws eject_led_astray
eject_led_astray_is_safe = refl

pub wide_add_is_safe : verdicts_of_run wide_add_file wide_add ≡ all_well
unfolding the_laws wide_add
wide_add_is_safe = refl

pub ruleset safe_traces = (an_add_is_safe, two_adds_is_safe, two_new_processors_is_safe, gate_held_is_safe, insert_and_eject_is_safe, disabled_processor_is_safe, already_known_is_safe, not_at_gate_is_safe, ejected_and_added_again_is_safe, no_unplug_is_safe, not_known_is_safe, not_arrived_is_safe, not_parked_is_safe, late_alone_is_safe, selector_taken_away_is_safe, eject_led_astray_is_safe, wide_add_is_safe)
