-- Traces of ejects, of late delivery and of wide APIC IDs with one thing changed are no runs, and stop at the change.
use Rattle.std.proofs.Common.{◌≡◌, false, Some, refl}
use Rattle.hp_worked.specs.Asked.{is_run, stops_at}
use Rattle.hp_worked.specs.Files.{ejected_and_added_again_file, eject_led_astray_file, wide_add_file, late_alone_file, prompt_file}
use Rattle.hp_worked.specs.Ejects.{ejected_and_added_again, told_too_early, ejected_unparked}
use Rattle.hp_worked.specs.Late.{late_alone, eject_led_astray, told_as_ejected}
use Rattle.hp_worked.specs.Wide.{wide_add, with_a_narrow_destination}
use Rattle.hp_worked.proofs.Opened.{the_run}

pub told_too_early_is_none : is_run ejected_and_added_again_file told_too_early ≡ false
unfolding the_run ejected_and_added_again
told_too_early_is_none = refl

pub ejected_unparked_is_none : is_run ejected_and_added_again_file ejected_unparked ≡ false
unfolding the_run ejected_and_added_again
ejected_unparked_is_none = refl

pub told_as_ejected_is_none : is_run eject_led_astray_file told_as_ejected ≡ false
unfolding the_run eject_led_astray
told_as_ejected_is_none = refl

pub with_a_narrow_destination_is_none : is_run wide_add_file with_a_narrow_destination ≡ false
unfolding the_run wide_add
with_a_narrow_destination_is_none = refl

pub late_alone_is_none : is_run (prompt_file late_alone_file) late_alone ≡ false
unfolding the_run late_alone
late_alone_is_none = refl

pub told_too_early_stops : stops_at ejected_and_added_again_file told_too_early ≡ Some 120
unfolding the_run ejected_and_added_again
told_too_early_stops = refl

pub ejected_unparked_stops : stops_at ejected_and_added_again_file ejected_unparked ≡ Some 114
unfolding the_run ejected_and_added_again
ejected_unparked_stops = refl

pub told_as_ejected_stops : stops_at eject_led_astray_file told_as_ejected ≡ Some 131
unfolding the_run eject_led_astray
told_as_ejected_stops = refl

pub with_a_narrow_destination_stops : stops_at wide_add_file with_a_narrow_destination ≡ Some 44
unfolding the_run wide_add
with_a_narrow_destination_stops = refl

pub late_alone_stops : stops_at (prompt_file late_alone_file) late_alone ≡ Some 28
unfolding the_run late_alone
late_alone_stops = refl

pub ruleset no_runs_of_ejects = (told_too_early_is_none, ejected_unparked_is_none, told_as_ejected_is_none, with_a_narrow_destination_is_none, late_alone_is_none)

pub ruleset ejects_stop = (told_too_early_stops, ejected_unparked_stops, told_as_ejected_stops, with_a_narrow_destination_stops, late_alone_stops)
