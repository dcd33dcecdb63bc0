-- What is read from the entries of worked traces: triples, decisions, who is bound, known and held, sessions, and whether they are disturbed.
use Rattle.std.proofs.Common.{◌≡◌, true, false, [], ◌∷◌, Some, None, refl}
use Rattle.hp_model.specs.declared.outcomes.Refusal.TheVariants.{Disabled, Both, AlreadyKnown, GateHeld, NoUnplug, NotKnown, NotArrived, Foreign}
use Rattle.hp_model.specs.declared.reports.Decision.TheVariants.{Add as ToAdd, Eject as ToEject}
use Rattle.hp_model.specs.Monarch.{refuses}
use Rattle.hp_worked.specs.Looked.{reported, whole, session_triples, session_lengths, decisions, bound_after, known_after, held_after, disturbed_after}
use Rattle.hp_worked.specs.Judged.{flag_is_right}
use Rattle.hp_worked.specs.Files.{an_add_file, two_adds_file, two_new_processors_file, gate_held_file, insert_and_eject_file, disabled_processor_file, already_known_file, not_at_gate_file, ejected_and_added_again_file, no_unplug_file, not_known_file, not_arrived_file, not_parked_file, late_alone_file, selector_taken_away_file, eject_led_astray_file, wide_add_file}
use Rattle.hp_worked.specs.Adds.{an_add}
use Rattle.hp_worked.specs.TwoAdds.{two_adds}
use Rattle.hp_worked.specs.TwoNewProcessors.{two_new_processors}
use Rattle.hp_worked.specs.GateHeld.{gate_held}
use Rattle.hp_worked.specs.RefusedAdds.{insert_and_eject, disabled_processor, already_known, not_at_gate}
use Rattle.hp_worked.specs.Ejects.{ejected_and_added_again}
use Rattle.hp_worked.specs.RefusedEjects.{no_unplug, not_known, not_arrived, not_parked}
use Rattle.hp_worked.specs.Late.{late_alone, selector_taken_away, eject_led_astray}
use Rattle.hp_worked.specs.Wide.{wide_add}
use Rattle.hp_worked.proofs.Opened.{the_laws}

pub an_add_triples : session_triples an_add_file.platform (whole an_add) ≡ ((reported 1 0x3 1) ∷ []) ∷ []
unfolding the_laws an_add
an_add_triples = refl

pub an_add_decisions : decisions an_add_file.platform (whole an_add) ≡ ToAdd ∷ []
unfolding the_laws an_add
an_add_decisions = refl

pub an_add_bound : bound_after an_add_file an_add ≡ 0 ∷ 1 ∷ []
unfolding the_laws an_add
an_add_bound = refl

pub two_adds_triples : session_triples two_adds_file.platform (whole two_adds) ≡ ((reported 1 0x3 1) ∷ (reported 2 0x3 2) ∷ []) ∷ []
unfolding the_laws two_adds
two_adds_triples = refl

pub two_adds_decisions : decisions two_adds_file.platform (whole two_adds) ≡ ToAdd ∷ ToAdd ∷ []
unfolding the_laws two_adds
two_adds_decisions = refl

pub two_adds_bound : bound_after two_adds_file two_adds ≡ 0 ∷ 1 ∷ 2 ∷ []
unfolding the_laws two_adds
two_adds_bound = refl

pub two_new_processors_triples : session_triples two_new_processors_file.platform (whole two_new_processors) ≡ ((reported 1 0x3 1) ∷ []) ∷ []
unfolding the_laws two_new_processors
two_new_processors_triples = refl

pub two_new_processors_decisions : decisions two_new_processors_file.platform (whole two_new_processors) ≡ ToAdd ∷ []
unfolding the_laws two_new_processors
two_new_processors_decisions = refl

pub two_new_processors_bound : bound_after two_new_processors_file two_new_processors ≡ 0 ∷ 1 ∷ []
unfolding the_laws two_new_processors
two_new_processors_bound = refl

pub gate_held_triples : session_triples gate_held_file.platform (whole gate_held) ≡ ((reported 1 0x3 1) ∷ (reported 2 0x3 2) ∷ []) ∷ ((reported 1 0x3 1) ∷ (reported 2 0x3 2) ∷ []) ∷ []
unfolding the_laws gate_held
gate_held_triples = refl

pub gate_held_decisions : decisions gate_held_file.platform (whole gate_held) ≡ ToAdd ∷ refuses (GateHeld 2 2 1) ∷ ToAdd ∷ ToAdd ∷ []
unfolding the_laws gate_held
gate_held_decisions = refl

pub gate_held_bound : bound_after gate_held_file gate_held ≡ 0 ∷ 1 ∷ 2 ∷ []
unfolding the_laws gate_held
gate_held_bound = refl

pub insert_and_eject_triples : session_triples insert_and_eject_file.platform (whole insert_and_eject) ≡ ((reported 1 0x13 1) ∷ []) ∷ []
unfolding the_laws insert_and_eject
insert_and_eject_triples = refl

pub insert_and_eject_decisions : decisions insert_and_eject_file.platform (whole insert_and_eject) ≡ refuses (Both 1 0x13) ∷ []
unfolding the_laws insert_and_eject
insert_and_eject_decisions = refl

pub insert_and_eject_bound : bound_after insert_and_eject_file insert_and_eject ≡ 0 ∷ []
unfolding the_laws insert_and_eject
insert_and_eject_bound = refl

pub disabled_processor_triples : session_triples disabled_processor_file.platform (whole disabled_processor) ≡ ((reported 1 0x2 1) ∷ []) ∷ []
unfolding the_laws disabled_processor
disabled_processor_triples = refl

pub disabled_processor_decisions : decisions disabled_processor_file.platform (whole disabled_processor) ≡ refuses (Disabled 1 0x2) ∷ []
unfolding the_laws disabled_processor
disabled_processor_decisions = refl

pub disabled_processor_bound : bound_after disabled_processor_file disabled_processor ≡ 0 ∷ []
unfolding the_laws disabled_processor
disabled_processor_bound = refl

pub already_known_triples : session_triples already_known_file.platform (whole already_known) ≡ ((reported 1 0x3 1) ∷ []) ∷ ((reported 1 0x3 1) ∷ []) ∷ []
unfolding the_laws an_add already_known
already_known_triples = refl

pub already_known_decisions : decisions already_known_file.platform (whole already_known) ≡ ToAdd ∷ refuses (AlreadyKnown 1 1 1) ∷ []
unfolding the_laws an_add already_known
already_known_decisions = refl

pub already_known_bound : bound_after already_known_file already_known ≡ 0 ∷ 1 ∷ []
unfolding the_laws an_add already_known
already_known_bound = refl

pub not_at_gate_triples : session_triples not_at_gate_file.platform (whole not_at_gate) ≡ ((reported 1 0x3 1) ∷ []) ∷ []
unfolding the_laws not_at_gate
not_at_gate_triples = refl

pub not_at_gate_decisions : decisions not_at_gate_file.platform (whole not_at_gate) ≡ ToAdd ∷ []
unfolding the_laws not_at_gate
not_at_gate_decisions = refl

pub not_at_gate_bound : bound_after not_at_gate_file not_at_gate ≡ 0 ∷ 1 ∷ []
unfolding the_laws not_at_gate
not_at_gate_bound = refl

pub ejected_and_added_again_triples : session_triples ejected_and_added_again_file.platform (whole ejected_and_added_again) ≡ ((reported 1 0x3 1) ∷ []) ∷ ((reported 1 0x11 1) ∷ []) ∷ ((reported 1 0x3 1) ∷ []) ∷ []
unfolding the_laws ejected_and_added_again
ejected_and_added_again_triples = refl

pub ejected_and_added_again_decisions : decisions ejected_and_added_again_file.platform (whole ejected_and_added_again) ≡ ToAdd ∷ ToEject ∷ ToAdd ∷ []
unfolding the_laws ejected_and_added_again
ejected_and_added_again_decisions = refl

pub ejected_and_added_again_bound : bound_after ejected_and_added_again_file ejected_and_added_again ≡ 0 ∷ 1 ∷ []
unfolding the_laws ejected_and_added_again
ejected_and_added_again_bound = refl

pub no_unplug_triples : session_triples no_unplug_file.platform (whole no_unplug) ≡ ((reported 1 0x3 1) ∷ []) ∷ ((reported 1 0x11 1) ∷ []) ∷ []
unfolding the_laws no_unplug
no_unplug_triples = refl

pub no_unplug_decisions : decisions no_unplug_file.platform (whole no_unplug) ≡ ToAdd ∷ refuses (NoUnplug 1 3) ∷ []
unfolding the_laws no_unplug
no_unplug_decisions = refl

pub no_unplug_bound : bound_after no_unplug_file no_unplug ≡ 0 ∷ 1 ∷ []
unfolding the_laws no_unplug
no_unplug_bound = refl

pub not_known_triples : session_triples not_known_file.platform (whole not_known) ≡ ((reported 1 0x11 1) ∷ []) ∷ []
unfolding the_laws not_known
not_known_triples = refl

pub not_known_decisions : decisions not_known_file.platform (whole not_known) ≡ refuses (NotKnown 1 1) ∷ []
unfolding the_laws not_known
not_known_decisions = refl

pub not_known_bound : bound_after not_known_file not_known ≡ 0 ∷ []
unfolding the_laws not_known
not_known_bound = refl

pub not_arrived_triples : session_triples not_arrived_file.platform (whole not_arrived) ≡ ((reported 1 0x11 1) ∷ []) ∷ []
unfolding the_laws not_arrived
not_arrived_triples = refl

pub not_arrived_decisions : decisions not_arrived_file.platform (whole not_arrived) ≡ refuses (NotArrived 1 1) ∷ []
unfolding the_laws not_arrived
not_arrived_decisions = refl

pub not_arrived_bound : bound_after not_arrived_file not_arrived ≡ 0 ∷ 1 ∷ []
unfolding the_laws not_arrived
not_arrived_bound = refl

pub not_parked_triples : session_triples not_parked_file.platform (whole not_parked) ≡ ((reported 1 0x11 1) ∷ []) ∷ []
unfolding the_laws not_parked
not_parked_triples = refl

pub not_parked_decisions : decisions not_parked_file.platform (whole not_parked) ≡ ToEject ∷ []
unfolding the_laws not_parked
not_parked_decisions = refl

pub not_parked_bound : bound_after not_parked_file not_parked ≡ 0 ∷ 1 ∷ []
unfolding the_laws not_parked
not_parked_bound = refl

pub late_alone_triples : session_triples late_alone_file.platform (whole late_alone) ≡ ([]) ∷ []
unfolding the_laws late_alone
late_alone_triples = refl

pub late_alone_decisions : decisions late_alone_file.platform (whole late_alone) ≡ []
unfolding the_laws late_alone
late_alone_decisions = refl

pub late_alone_bound : bound_after late_alone_file late_alone ≡ 0 ∷ []
unfolding the_laws late_alone
late_alone_bound = refl

pub selector_taken_away_triples : session_triples selector_taken_away_file.platform (whole selector_taken_away) ≡ ((reported 1 0x11 0) ∷ []) ∷ []
unfolding the_laws selector_taken_away
selector_taken_away_triples = refl

pub selector_taken_away_decisions : decisions selector_taken_away_file.platform (whole selector_taken_away) ≡ refuses (Foreign 1 0) ∷ []
unfolding the_laws selector_taken_away
selector_taken_away_decisions = refl

pub selector_taken_away_bound : bound_after selector_taken_away_file selector_taken_away ≡ 0 ∷ 1 ∷ []
unfolding the_laws selector_taken_away
selector_taken_away_bound = refl

pub eject_led_astray_triples : session_triples eject_led_astray_file.platform (whole eject_led_astray) ≡ ((reported 1 0x11 1) ∷ []) ∷ []
unfolding the_laws eject_led_astray
eject_led_astray_triples = refl

pub eject_led_astray_decisions : decisions eject_led_astray_file.platform (whole eject_led_astray) ≡ ToEject ∷ []
unfolding the_laws eject_led_astray
eject_led_astray_decisions = refl

pub eject_led_astray_bound : bound_after eject_led_astray_file eject_led_astray ≡ 0 ∷ 1 ∷ 2 ∷ []
unfolding the_laws eject_led_astray
eject_led_astray_bound = refl

pub wide_add_triples : session_triples wide_add_file.platform (whole wide_add) ≡ ((reported 1 0x3 70000) ∷ []) ∷ []
unfolding the_laws wide_add
wide_add_triples = refl

pub wide_add_decisions : decisions wide_add_file.platform (whole wide_add) ≡ ToAdd ∷ []
unfolding the_laws wide_add
wide_add_decisions = refl

pub wide_add_bound : bound_after wide_add_file wide_add ≡ 0 ∷ 70000 ∷ []
unfolding the_laws wide_add
wide_add_bound = refl

pub an_add_held_after_39 : held_after an_add_file 39 an_add ≡ None
unfolding the_laws an_add
an_add_held_after_39 = refl

pub an_add_held_after_40 : held_after an_add_file 40 an_add ≡ Some 1
unfolding the_laws an_add
an_add_held_after_40 = refl

pub an_add_held_after_67 : held_after an_add_file 67 an_add ≡ Some 1
unfolding the_laws an_add
an_add_held_after_67 = refl

pub an_add_held_after_68 : held_after an_add_file 68 an_add ≡ None
unfolding the_laws an_add
an_add_held_after_68 = refl

pub gate_held_held_after_303 : held_after gate_held_file 303 gate_held ≡ Some 1
unfolding the_laws gate_held
gate_held_held_after_303 = refl

pub gate_held_held_after_304 : held_after gate_held_file 304 gate_held ≡ Some 1
unfolding the_laws gate_held
gate_held_held_after_304 = refl

pub gate_held_held_after_518 : held_after gate_held_file 518 gate_held ≡ Some 1
unfolding the_laws gate_held
gate_held_held_after_518 = refl

pub gate_held_held_after_519 : held_after gate_held_file 519 gate_held ≡ None
unfolding the_laws gate_held
gate_held_held_after_519 = refl

pub not_at_gate_held_after_9999 : held_after not_at_gate_file 9999 not_at_gate ≡ Some 1
unfolding the_laws not_at_gate
not_at_gate_held_after_9999 = refl

pub an_add_known_1_after_67 : known_after an_add_file 67 an_add 1 ≡ false
unfolding the_laws an_add
an_add_known_1_after_67 = refl

pub an_add_known_1_after_68 : known_after an_add_file 68 an_add 1 ≡ true
unfolding the_laws an_add
an_add_known_1_after_68 = refl

pub ejected_and_added_again_known_1_after_121 : known_after ejected_and_added_again_file 121 ejected_and_added_again 1 ≡ true
unfolding the_laws ejected_and_added_again
ejected_and_added_again_known_1_after_121 = refl

pub ejected_and_added_again_known_1_after_122 : known_after ejected_and_added_again_file 122 ejected_and_added_again 1 ≡ false
unfolding the_laws ejected_and_added_again
ejected_and_added_again_known_1_after_122 = refl

pub ejected_and_added_again_known_1_after_167 : known_after ejected_and_added_again_file 167 ejected_and_added_again 1 ≡ true
unfolding the_laws ejected_and_added_again
ejected_and_added_again_known_1_after_167 = refl

pub not_arrived_known_1_after_0 : known_after not_arrived_file 0 not_arrived 1 ≡ true
unfolding the_laws not_arrived
not_arrived_known_1_after_0 = refl

pub not_at_gate_known_1_after_9999 : known_after not_at_gate_file 9999 not_at_gate 1 ≡ false
unfolding the_laws not_at_gate
not_at_gate_known_1_after_9999 = refl

pub eject_led_astray_known_2_after_9999 : known_after eject_led_astray_file 9999 eject_led_astray 2 ≡ true
unfolding the_laws eject_led_astray
eject_led_astray_known_2_after_9999 = refl

pub selector_taken_away_disturbed_after_65 : disturbed_after selector_taken_away_file 65 selector_taken_away ≡ false
unfolding the_laws selector_taken_away
selector_taken_away_disturbed_after_65 = refl

pub selector_taken_away_disturbed_after_66 : disturbed_after selector_taken_away_file 66 selector_taken_away ≡ true
unfolding the_laws selector_taken_away
selector_taken_away_disturbed_after_66 = refl

pub eject_led_astray_disturbed_after_122 : disturbed_after eject_led_astray_file 122 eject_led_astray ≡ false
unfolding the_laws eject_led_astray
eject_led_astray_disturbed_after_122 = refl

pub eject_led_astray_disturbed_after_123 : disturbed_after eject_led_astray_file 123 eject_led_astray ≡ true
unfolding the_laws eject_led_astray
eject_led_astray_disturbed_after_123 = refl

pub an_add_disturbed_after_67 : disturbed_after an_add_file 67 an_add ≡ false
unfolding the_laws an_add
an_add_disturbed_after_67 = refl

pub an_add_sessions : session_lengths (whole an_add) ≡ 43 ∷ []
unfolding the_laws an_add
an_add_sessions = refl

pub gate_held_sessions : session_lengths (whole gate_held) ≡ 280 ∷ 294 ∷ []
unfolding the_laws gate_held
gate_held_sessions = refl

pub ejected_and_added_again_sessions : session_lengths (whole ejected_and_added_again) ≡ 43 ∷ 40 ∷ 44 ∷ []
unfolding the_laws ejected_and_added_again
ejected_and_added_again_sessions = refl

pub an_add_flag : flag_is_right an_add_file an_add ≡ true
unfolding the_laws an_add
an_add_flag = refl

pub selector_taken_away_flag : flag_is_right selector_taken_away_file selector_taken_away ≡ true
unfolding the_laws selector_taken_away
selector_taken_away_flag = refl

pub eject_led_astray_flag : flag_is_right eject_led_astray_file eject_led_astray ≡ true
unfolding the_laws eject_led_astray
eject_led_astray_flag = refl

pub ruleset triples_read = (an_add_triples, two_adds_triples, two_new_processors_triples, gate_held_triples, insert_and_eject_triples, disabled_processor_triples, already_known_triples, not_at_gate_triples, ejected_and_added_again_triples, no_unplug_triples, not_known_triples, not_arrived_triples, not_parked_triples, late_alone_triples, selector_taken_away_triples, eject_led_astray_triples, wide_add_triples)

pub ruleset decisions_read = (an_add_decisions, two_adds_decisions, two_new_processors_decisions, gate_held_decisions, insert_and_eject_decisions, disabled_processor_decisions, already_known_decisions, not_at_gate_decisions, ejected_and_added_again_decisions, no_unplug_decisions, not_known_decisions, not_arrived_decisions, not_parked_decisions, late_alone_decisions, selector_taken_away_decisions, eject_led_astray_decisions, wide_add_decisions)

pub ruleset bound_read = (an_add_bound, two_adds_bound, two_new_processors_bound, gate_held_bound, insert_and_eject_bound, disabled_processor_bound, already_known_bound, not_at_gate_bound, ejected_and_added_again_bound, no_unplug_bound, not_known_bound, not_arrived_bound, not_parked_bound, late_alone_bound, selector_taken_away_bound, eject_led_astray_bound, wide_add_bound)

pub ruleset known_read = (an_add_known_1_after_67, an_add_known_1_after_68, ejected_and_added_again_known_1_after_121, ejected_and_added_again_known_1_after_122, ejected_and_added_again_known_1_after_167, not_arrived_known_1_after_0, not_at_gate_known_1_after_9999, eject_led_astray_known_2_after_9999)

pub ruleset held_read = (an_add_held_after_39, an_add_held_after_40, an_add_held_after_67, an_add_held_after_68, gate_held_held_after_303, gate_held_held_after_304, gate_held_held_after_518, gate_held_held_after_519, not_at_gate_held_after_9999)

pub ruleset sessions_read = (an_add_sessions, gate_held_sessions, ejected_and_added_again_sessions, selector_taken_away_disturbed_after_65, selector_taken_away_disturbed_after_66, eject_led_astray_disturbed_after_122, eject_led_astray_disturbed_after_123, an_add_disturbed_after_67, an_add_flag, selector_taken_away_flag, eject_led_astray_flag)
