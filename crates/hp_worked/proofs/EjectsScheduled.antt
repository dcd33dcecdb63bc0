-- The schedule makes the worked traces of ejects, of late delivery and of wide platforms of their files.
use Rattle.std.proofs.Common.{◌≡◌, Some, refl}
use Rattle.hp_model.specs.declared.outcomes.BootFact.TheVariants.{NoExtTseg}
use Rattle.hp_worked.specs.Asked.{own_run, own_fact}
use Rattle.hp_worked.specs.Files.{ejected_and_added_again_file, no_unplug_file, not_known_file, not_arrived_file, not_parked_file, late_alone_file, selector_taken_away_file, eject_led_astray_file, wide_add_file, largest_file, refused_for_its_tseg_file}
use Rattle.hp_worked.specs.Ejects.{ejected_and_added_again}
use Rattle.hp_worked.specs.RefusedEjects.{no_unplug, not_known, not_arrived, not_parked}
use Rattle.hp_worked.specs.Late.{late_alone, selector_taken_away, eject_led_astray}
use Rattle.hp_worked.specs.Wide.{wide_add, largest_boot, refused_for_its_tseg}
use Rattle.hp_worked.proofs.Opened.{the_schedule}

pub ejected_and_added_again_is_scheduled : own_run ejected_and_added_again_file ≡ ejected_and_added_again
unfolding the_schedule ejected_and_added_again
ejected_and_added_again_is_scheduled = refl

pub no_unplug_is_scheduled : own_run no_unplug_file ≡ no_unplug
unfolding the_schedule no_unplug
no_unplug_is_scheduled = refl

pub not_known_is_scheduled : own_run not_known_file ≡ not_known
unfolding the_schedule not_known
not_known_is_scheduled = refl

pub not_arrived_is_scheduled : own_run not_arrived_file ≡ not_arrived
unfolding the_schedule not_arrived
not_arrived_is_scheduled = refl

pub not_parked_is_scheduled : own_run not_parked_file ≡ not_parked
unfolding the_schedule not_parked
not_parked_is_scheduled = refl

pub late_alone_is_scheduled : own_run late_alone_file ≡ late_alone
unfolding the_schedule late_alone
late_alone_is_scheduled = refl

pub selector_taken_away_is_scheduled : own_run selector_taken_away_file ≡ selector_taken_away
unfolding the_schedule selector_taken_away
selector_taken_away_is_scheduled = refl

pub eject_led_astray_is_scheduled : own_run eject_led_astray_file ≡ eject_led_astray
unfolding the_schedule eject_led_astray
eject_led_astray_is_scheduled = refl

pub wide_add_is_scheduled : own_run wide_add_file ≡ wide_add
unfolding the_schedule wide_add
wide_add_is_scheduled = refl

pub largest_boot_is_scheduled : own_run largest_file ≡ largest_boot
unfolding the_schedule largest_boot
largest_boot_is_scheduled = refl

pub refused_for_its_tseg_is_scheduled : own_run refused_for_its_tseg_file ≡ refused_for_its_tseg
unfolding the_schedule largest_boot
refused_for_its_tseg_is_scheduled = refl

pub refused_for_its_tseg_by_its_fact : own_fact refused_for_its_tseg_file ≡ Some (NoExtTseg 0)
unfolding the_schedule
refused_for_its_tseg_by_its_fact = refl

pub ruleset scheduled_ejects = (ejected_and_added_again_is_scheduled, no_unplug_is_scheduled, not_known_is_scheduled, not_arrived_is_scheduled, not_parked_is_scheduled, late_alone_is_scheduled, selector_taken_away_is_scheduled, eject_led_astray_is_scheduled, wide_add_is_scheduled, largest_boot_is_scheduled, refused_for_its_tseg_is_scheduled)

pub ruleset tseg_fact = (refused_for_its_tseg_by_its_fact)
