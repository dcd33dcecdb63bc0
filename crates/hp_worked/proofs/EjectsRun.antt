-- The worked traces of ejects, of late delivery and of wide platforms are runs.
use Rattle.std.proofs.Common.{◌≡◌, true, refl}
use Rattle.hp_worked.specs.Asked.{is_run}
use Rattle.hp_worked.specs.Files.{ejected_and_added_again_file, no_unplug_file, not_known_file, not_arrived_file, not_parked_file, late_alone_file, selector_taken_away_file, eject_led_astray_file, wide_add_file, largest_file, refused_for_its_tseg_file}
use Rattle.hp_worked.specs.Ejects.{ejected_and_added_again}
use Rattle.hp_worked.specs.RefusedEjects.{no_unplug, not_known, not_arrived, not_parked}
use Rattle.hp_worked.specs.Late.{late_alone, selector_taken_away, eject_led_astray}
use Rattle.hp_worked.specs.Wide.{wide_add, largest_boot, refused_for_its_tseg}
use Rattle.hp_worked.proofs.Opened.{the_run}

pub ejected_and_added_again_runs : is_run ejected_and_added_again_file ejected_and_added_again ≡ true
unfolding the_run ejected_and_added_again
ejected_and_added_again_runs = refl

pub no_unplug_runs : is_run no_unplug_file no_unplug ≡ true
unfolding the_run no_unplug
no_unplug_runs = refl

pub not_known_runs : is_run not_known_file not_known ≡ true
unfolding the_run not_known
not_known_runs = refl

pub not_arrived_runs : is_run not_arrived_file not_arrived ≡ true
unfolding the_run not_arrived
not_arrived_runs = refl

pub not_parked_runs : is_run not_parked_file not_parked ≡ true
unfolding the_run not_parked
not_parked_runs = refl

pub late_alone_runs : is_run late_alone_file late_alone ≡ true
unfolding the_run late_alone
late_alone_runs = refl

pub selector_taken_away_runs : is_run selector_taken_away_file selector_taken_away ≡ true
unfolding the_run selector_taken_away
selector_taken_away_runs = refl

pub eject_led_astray_runs : is_run eject_led_astray_file eject_led_astray ≡ true
unfolding the_run eject_led_astray
eject_led_astray_runs = refl

pub wide_add_runs : is_run wide_add_file wide_add ≡ true
unfolding the_run wide_add
wide_add_runs = refl

pub largest_boot_runs : is_run largest_file largest_boot ≡ true
unfolding the_run largest_boot
largest_boot_runs = refl

pub refused_for_its_tseg_runs : is_run refused_for_its_tseg_file refused_for_its_tseg ≡ true
unfolding the_run largest_boot
refused_for_its_tseg_runs = refl

pub ruleset runs_of_ejects = (ejected_and_added_again_runs, no_unplug_runs, not_known_runs, not_arrived_runs, not_parked_runs, late_alone_runs, selector_taken_away_runs, eject_led_astray_runs, wide_add_runs, largest_boot_runs, refused_for_its_tseg_runs)
