-- The worked traces of adds are runs.
use Rattle.std.proofs.Common.{◌≡◌, true, refl}
use Rattle.hp_worked.specs.Asked.{is_run}
use Rattle.hp_worked.specs.Files.{an_add_file, add_with_a_stored_pen_byte_file, two_adds_file, two_new_processors_file, gate_held_file, insert_and_eject_file, disabled_processor_file, cleared_event_file, already_known_file, not_at_gate_file}
use Rattle.hp_worked.specs.Adds.{an_add, add_with_a_stored_pen_byte}
use Rattle.hp_worked.specs.TwoAdds.{two_adds}
use Rattle.hp_worked.specs.TwoNewProcessors.{two_new_processors}
use Rattle.hp_worked.specs.GateHeld.{gate_held}
use Rattle.hp_worked.specs.RefusedAdds.{insert_and_eject, disabled_processor, cleared_event, already_known, not_at_gate}
use Rattle.hp_worked.proofs.Opened.{the_run}

pub an_add_runs : is_run an_add_file an_add ≡ true
unfolding the_run an_add
an_add_runs = refl

pub add_with_a_stored_pen_byte_runs : is_run add_with_a_stored_pen_byte_file add_with_a_stored_pen_byte ≡ true
unfolding the_run an_add
add_with_a_stored_pen_byte_runs = refl

pub two_adds_runs : is_run two_adds_file two_adds ≡ true
unfolding the_run two_adds
two_adds_runs = refl

pub two_new_processors_runs : is_run two_new_processors_file two_new_processors ≡ true
unfolding the_run two_new_processors
two_new_processors_runs = refl

pub gate_held_runs : is_run gate_held_file gate_held ≡ true
unfolding the_run gate_held
gate_held_runs = refl

pub insert_and_eject_runs : is_run insert_and_eject_file insert_and_eject ≡ true
unfolding the_run insert_and_eject
insert_and_eject_runs = refl

pub disabled_processor_runs : is_run disabled_processor_file disabled_processor ≡ true
unfolding the_run disabled_processor
disabled_processor_runs = refl

pub cleared_event_runs : is_run cleared_event_file cleared_event ≡ true
unfolding the_run cleared_event
cleared_event_runs = refl

pub already_known_runs : is_run already_known_file already_known ≡ true
unfolding the_run an_add already_known
already_known_runs = refl

pub not_at_gate_runs : is_run not_at_gate_file not_at_gate ≡ true
unfolding the_run not_at_gate
not_at_gate_runs = refl

pub ruleset runs_of_adds = (an_add_runs, add_with_a_stored_pen_byte_runs, two_adds_runs, two_new_processors_runs, gate_held_runs, insert_and_eject_runs, disabled_processor_runs, cleared_event_runs, already_known_runs, not_at_gate_runs)
