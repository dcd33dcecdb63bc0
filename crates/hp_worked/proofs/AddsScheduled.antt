-- The schedule makes the worked traces of adds of their files.
use Rattle.std.proofs.Common.{◌≡◌, refl}
use Rattle.hp_worked.specs.Asked.{own_run}
use Rattle.hp_worked.specs.Files.{an_add_file, add_with_a_stored_pen_byte_file, two_adds_file, two_new_processors_file, gate_held_file, insert_and_eject_file, disabled_processor_file, cleared_event_file, already_known_file, not_at_gate_file}
use Rattle.hp_worked.specs.Adds.{an_add, add_with_a_stored_pen_byte}
use Rattle.hp_worked.specs.TwoAdds.{two_adds}
use Rattle.hp_worked.specs.TwoNewProcessors.{two_new_processors}
use Rattle.hp_worked.specs.GateHeld.{gate_held}
use Rattle.hp_worked.specs.RefusedAdds.{insert_and_eject, disabled_processor, cleared_event, already_known, not_at_gate}
use Rattle.hp_worked.proofs.Opened.{the_schedule}

pub an_add_is_scheduled : own_run an_add_file ≡ an_add
unfolding the_schedule an_add
an_add_is_scheduled = refl

pub add_with_a_stored_pen_byte_is_scheduled : own_run add_with_a_stored_pen_byte_file ≡ add_with_a_stored_pen_byte
unfolding the_schedule an_add
add_with_a_stored_pen_byte_is_scheduled = refl

pub two_adds_is_scheduled : own_run two_adds_file ≡ two_adds
unfolding the_schedule two_adds
two_adds_is_scheduled = refl

pub two_new_processors_is_scheduled : own_run two_new_processors_file ≡ two_new_processors
unfolding the_schedule two_new_processors
two_new_processors_is_scheduled = refl

pub gate_held_is_scheduled : own_run gate_held_file ≡ gate_held
unfolding the_schedule gate_held
gate_held_is_scheduled = refl

pub insert_and_eject_is_scheduled : own_run insert_and_eject_file ≡ insert_and_eject
unfolding the_schedule insert_and_eject
insert_and_eject_is_scheduled = refl

pub disabled_processor_is_scheduled : own_run disabled_processor_file ≡ disabled_processor
unfolding the_schedule disabled_processor
disabled_processor_is_scheduled = refl

pub cleared_event_is_scheduled : own_run cleared_event_file ≡ cleared_event
unfolding the_schedule cleared_event
cleared_event_is_scheduled = refl

pub already_known_is_scheduled : own_run already_known_file ≡ already_known
unfolding the_schedule an_add already_known
already_known_is_scheduled = refl

pub not_at_gate_is_scheduled : own_run not_at_gate_file ≡ not_at_gate
unfolding the_schedule not_at_gate
not_at_gate_is_scheduled = refl

pub ruleset scheduled_adds = (an_add_is_scheduled, add_with_a_stored_pen_byte_is_scheduled, two_adds_is_scheduled, two_new_processors_is_scheduled, gate_held_is_scheduled, insert_and_eject_is_scheduled, disabled_processor_is_scheduled, cleared_event_is_scheduled, already_known_is_scheduled, not_at_gate_is_scheduled)
