-- In worked traces of adds, of ejects, of late delivery and of wide APIC IDs nobody is astray, and no instruction was written since the boot.
use Rattle.std.proofs.Common.{◌≡◌, true, refl}
use Rattle.hp_worked.specs.Asked.{is_none_astray, is_untouched_at_each}
use Rattle.hp_worked.specs.Files.{two_adds_file, insert_and_eject_file, disabled_processor_file, already_known_file, not_at_gate_file, ejected_and_added_again_file, no_unplug_file, not_known_file, not_arrived_file, not_parked_file, late_alone_file, selector_taken_away_file, eject_led_astray_file, wide_add_file}
use Rattle.hp_worked.specs.Adds.{an_add}
use Rattle.hp_worked.specs.TwoAdds.{two_adds}
use Rattle.hp_worked.specs.RefusedAdds.{insert_and_eject, disabled_processor, already_known, not_at_gate}
use Rattle.hp_worked.specs.Ejects.{ejected_and_added_again}
use Rattle.hp_worked.specs.RefusedEjects.{no_unplug, not_known, not_arrived, not_parked}
use Rattle.hp_worked.specs.Late.{late_alone, selector_taken_away, eject_led_astray}
use Rattle.hp_worked.specs.Wide.{wide_add}
use Rattle.hp_worked.proofs.Opened.{the_laws}

pub two_adds_is_untouched : is_untouched_at_each two_adds_file two_adds ≡ true
unfolding the_laws two_adds
two_adds_is_untouched = refl

pub insert_and_eject_is_untouched : is_untouched_at_each insert_and_eject_file insert_and_eject ≡ true
unfolding the_laws insert_and_eject
insert_and_eject_is_untouched = refl

pub disabled_processor_is_untouched : is_untouched_at_each disabled_processor_file disabled_processor ≡ true
unfolding the_laws disabled_processor
disabled_processor_is_untouched = refl

pub already_known_is_untouched : is_untouched_at_each already_known_file already_known ≡ true
unfolding the_laws an_add already_known
already_known_is_untouched = refl

pub not_at_gate_is_untouched : is_untouched_at_each not_at_gate_file not_at_gate ≡ true
unfolding the_laws not_at_gate
not_at_gate_is_untouched = refl

pub ejected_and_added_again_is_untouched : is_untouched_at_each ejected_and_added_again_file ejected_and_added_again ≡ true
unfolding the_laws ejected_and_added_again
ejected_and_added_again_is_untouched = refl

pub no_unplug_is_untouched : is_untouched_at_each no_unplug_file no_unplug ≡ true
unfolding the_laws no_unplug
no_unplug_is_untouched = refl

pub not_known_is_untouched : is_untouched_at_each not_known_file not_known ≡ true
unfolding the_laws not_known
not_known_is_untouched = refl

pub not_arrived_is_untouched : is_untouched_at_each not_arrived_file not_arrived ≡ true
unfolding the_laws not_arrived
not_arrived_is_untouched = refl

pub not_parked_is_untouched : is_untouched_at_each not_parked_file not_parked ≡ true
unfolding the_laws not_parked
not_parked_is_untouched = refl

pub late_alone_is_untouched : is_untouched_at_each late_alone_file late_alone ≡ true
unfolding the_laws late_alone
late_alone_is_untouched = refl

pub selector_taken_away_is_untouched : is_untouched_at_each selector_taken_away_file selector_taken_away ≡ true
unfolding the_laws selector_taken_away
selector_taken_away_is_untouched = refl

pub eject_led_astray_is_untouched : is_untouched_at_each eject_led_astray_file eject_led_astray ≡ true
unfolding the_laws eject_led_astray
eject_led_astray_is_untouched = refl

pub wide_add_is_untouched : is_untouched_at_each wide_add_file wide_add ≡ true
unfolding the_laws wide_add
wide_add_is_untouched = refl

pub two_adds_leads_nobody_astray : is_none_astray two_adds_file two_adds ≡ true
unfolding the_laws two_adds
two_adds_leads_nobody_astray = refl

pub insert_and_eject_leads_nobody_astray : is_none_astray insert_and_eject_file insert_and_eject ≡ true
unfolding the_laws insert_and_eject
insert_and_eject_leads_nobody_astray = refl

pub disabled_processor_leads_nobody_astray : is_none_astray disabled_processor_file disabled_processor ≡ true
unfolding the_laws disabled_processor
disabled_processor_leads_nobody_astray = refl

pub already_known_leads_nobody_astray : is_none_astray already_known_file already_known ≡ true
unfolding the_laws an_add already_known
already_known_leads_nobody_astray = refl

pub not_at_gate_leads_nobody_astray : is_none_astray not_at_gate_file not_at_gate ≡ true
unfolding the_laws not_at_gate
not_at_gate_leads_nobody_astray = refl

pub ejected_and_added_again_leads_nobody_astray : is_none_astray ejected_and_added_again_file ejected_and_added_again ≡ true
unfolding the_laws ejected_and_added_again
ejected_and_added_again_leads_nobody_astray = refl

pub no_unplug_leads_nobody_astray : is_none_astray no_unplug_file no_unplug ≡ true
unfolding the_laws no_unplug
no_unplug_leads_nobody_astray = refl

pub not_known_leads_nobody_astray : is_none_astray not_known_file not_known ≡ true
unfolding the_laws not_known
not_known_leads_nobody_astray = refl

pub not_arrived_leads_nobody_astray : is_none_astray not_arrived_file not_arrived ≡ true
unfolding the_laws not_arrived
not_arrived_leads_nobody_astray = refl

pub not_parked_leads_nobody_astray : is_none_astray not_parked_file not_parked ≡ true
unfolding the_laws not_parked
not_parked_leads_nobody_astray = refl

pub late_alone_leads_nobody_astray : is_none_astray late_alone_file late_alone ≡ true
unfolding the_laws late_alone
late_alone_leads_nobody_astray = refl

pub selector_taken_away_leads_nobody_astray : is_none_astray selector_taken_away_file selector_taken_away ≡ true
unfolding the_laws selector_taken_away
selector_taken_away_leads_nobody_astray = refl

pub eject_led_astray_leads_nobody_astray : is_none_astray eject_led_astray_file eject_led_astray ≡ true
unfolding the_laws eject_led_astray
eject_led_astray_leads_nobody_astray = refl

pub wide_add_leads_nobody_astray : is_none_astray wide_add_file wide_add ≡ true
unfolding the_laws wide_add
wide_add_leads_nobody_astray = refl

pub ruleset untouched = (two_adds_is_untouched, insert_and_eject_is_untouched, disabled_processor_is_untouched, already_known_is_untouched, not_at_gate_is_untouched, ejected_and_added_again_is_untouched, no_unplug_is_untouched, not_known_is_untouched, not_arrived_is_untouched, not_parked_is_untouched, late_alone_is_untouched, selector_taken_away_is_untouched, eject_led_astray_is_untouched, wide_add_is_untouched)

pub ruleset none_astray = (two_adds_leads_nobody_astray, insert_and_eject_leads_nobody_astray, disabled_processor_leads_nobody_astray, already_known_leads_nobody_astray, not_at_gate_leads_nobody_astray, ejected_and_added_again_leads_nobody_astray, no_unplug_leads_nobody_astray, not_known_leads_nobody_astray, not_arrived_leads_nobody_astray, not_parked_leads_nobody_astray, late_alone_leads_nobody_astray, selector_taken_away_leads_nobody_astray, eject_led_astray_leads_nobody_astray, wide_add_leads_nobody_astray)
