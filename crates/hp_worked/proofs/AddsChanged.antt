-- Traces of adds with one thing changed are no runs, and stop at the change.
use Rattle.std.proofs.Common.{◌≡◌, false, Some, refl}
use Rattle.hp_worked.specs.Asked.{is_run, stops_at}
use Rattle.hp_worked.specs.Files.{an_add_file, two_new_processors_file, gate_held_file, already_known_file, not_at_gate_file}
use Rattle.hp_worked.specs.Adds.{an_add, told_without_arrival, opened_too_early, with_another_tile, without_its_own_smi, with_the_gate_left_open}
use Rattle.hp_worked.specs.TwoNewProcessors.{two_new_processors, reported_twice}
use Rattle.hp_worked.specs.GateHeld.{gate_held, added_while_held}
use Rattle.hp_worked.specs.RefusedAdds.{already_known, not_at_gate, added_again, tried_a_fourth_time}
use Rattle.hp_worked.proofs.Opened.{the_run}

pub told_without_arrival_is_none : is_run an_add_file told_without_arrival ≡ false
unfolding the_run an_add
told_without_arrival_is_none = refl

pub opened_too_early_is_none : is_run an_add_file opened_too_early ≡ false
unfolding the_run an_add
opened_too_early_is_none = refl

pub with_another_tile_is_none : is_run an_add_file with_another_tile ≡ false
unfolding the_run an_add
with_another_tile_is_none = refl

pub without_its_own_smi_is_none : is_run an_add_file without_its_own_smi ≡ false
unfolding the_run an_add
without_its_own_smi_is_none = refl

pub with_the_gate_left_open_is_none : is_run an_add_file with_the_gate_left_open ≡ false
unfolding the_run an_add
with_the_gate_left_open_is_none = refl

pub reported_twice_is_none : is_run two_new_processors_file reported_twice ≡ false
unfolding the_run two_new_processors
reported_twice_is_none = refl

pub added_while_held_is_none : is_run gate_held_file added_while_held ≡ false
unfolding the_run gate_held
added_while_held_is_none = refl

pub added_again_is_none : is_run already_known_file added_again ≡ false
unfolding the_run an_add already_known
added_again_is_none = refl

pub tried_a_fourth_time_is_none : is_run not_at_gate_file tried_a_fourth_time ≡ false
unfolding the_run not_at_gate
tried_a_fourth_time_is_none = refl

pub told_without_arrival_stops : stops_at an_add_file told_without_arrival ≡ Some 63
unfolding the_run an_add
told_without_arrival_stops = refl

pub opened_too_early_stops : stops_at an_add_file opened_too_early ≡ Some 42
unfolding the_run an_add
opened_too_early_stops = refl

pub with_another_tile_stops : stops_at an_add_file with_another_tile ≡ Some 42
unfolding the_run an_add
with_another_tile_stops = refl

pub without_its_own_smi_stops : stops_at an_add_file without_its_own_smi ≡ Some 59
unfolding the_run an_add
without_its_own_smi_stops = refl

pub with_the_gate_left_open_stops : stops_at an_add_file with_the_gate_left_open ≡ Some 62
unfolding the_run an_add
with_the_gate_left_open_stops = refl

pub reported_twice_stops : stops_at two_new_processors_file reported_twice ≡ Some 47
unfolding the_run two_new_processors
reported_twice_stops = refl

pub added_while_held_stops : stops_at gate_held_file added_while_held ≡ Some 308
unfolding the_run gate_held
added_while_held_stops = refl

pub added_again_stops : stops_at already_known_file added_again ≡ Some 101
unfolding the_run an_add already_known
added_again_stops = refl

pub tried_a_fourth_time_stops : stops_at not_at_gate_file tried_a_fourth_time ≡ Some 79
unfolding the_run not_at_gate
tried_a_fourth_time_stops = refl

pub ruleset no_runs_of_adds = (told_without_arrival_is_none, opened_too_early_is_none, with_another_tile_is_none, without_its_own_smi_is_none, with_the_gate_left_open_is_none, reported_twice_is_none, added_while_held_is_none, added_again_is_none, tried_a_fourth_time_is_none)

pub ruleset adds_stop = (told_without_arrival_stops, opened_too_early_stops, with_another_tile_stops, without_its_own_smi_stops, with_the_gate_left_open_stops, reported_twice_stops, added_while_held_stops, added_again_stops, tried_a_fourth_time_stops)
