-- The schedule makes the worked traces of their files.
use Rattle.std.proofs.Common.{◌≡◌, Some, refl}
use Rattle.hp_model.specs.declared.outcomes.BootFact.TheVariants.{NotModern, NoDefaultSmram, NotNegotiated}
use Rattle.hp_worked.specs.Asked.{own_run, own_fact, scheduled_alone}
use Rattle.hp_worked.specs.Files.{smallest_file, selector_past_the_end_file, several_control_bits_file, transfer_into_locked_memory_file, store_across_64_kib_file, host_events_file, rendezvous_file, late_processor_file, closed_gate_file, refused_for_the_legacy_form_file, refused_for_an_open_default_area_file, refused_for_its_features_file, modern_form_file, default_area_file, interrupts_file, smi_before_init_file}
use Rattle.hp_worked.specs.Traces.{smallest, selector_past_the_end, several_control_bits, transfer_into_locked_memory, store_across_64_kib, host_events, refused_for_the_legacy_form, refused_for_an_open_default_area, refused_for_its_features}
use Rattle.hp_worked.specs.Rendezvous.{rendezvous}
use Rattle.hp_worked.specs.LateProcessor.{late_processor}
use Rattle.hp_worked.specs.ClosedGate.{closed_gate}
use Rattle.hp_worked.specs.Alone.{modern_form, default_area, interrupts, smi_before_init}
use Rattle.hp_worked.proofs.Opened.{the_schedule}

pub smallest_is_scheduled : own_run smallest_file ≡ smallest
unfolding the_schedule smallest
smallest_is_scheduled = refl

pub selector_past_the_end_is_scheduled : own_run selector_past_the_end_file ≡ selector_past_the_end
unfolding the_schedule selector_past_the_end
selector_past_the_end_is_scheduled = refl

pub several_control_bits_is_scheduled : own_run several_control_bits_file ≡ several_control_bits
unfolding the_schedule several_control_bits
several_control_bits_is_scheduled = refl

pub transfer_into_locked_memory_is_scheduled : own_run transfer_into_locked_memory_file ≡ transfer_into_locked_memory
unfolding the_schedule transfer_into_locked_memory
transfer_into_locked_memory_is_scheduled = refl

pub store_across_64_kib_is_scheduled : own_run store_across_64_kib_file ≡ store_across_64_kib
unfolding the_schedule store_across_64_kib
store_across_64_kib_is_scheduled = refl

pub host_events_is_scheduled : own_run host_events_file ≡ host_events
unfolding the_schedule host_events
host_events_is_scheduled = refl

pub rendezvous_is_scheduled : own_run rendezvous_file ≡ rendezvous
unfolding the_schedule rendezvous
rendezvous_is_scheduled = refl

pub late_processor_is_scheduled : own_run late_processor_file ≡ late_processor
unfolding the_schedule late_processor
late_processor_is_scheduled = refl

pub closed_gate_is_scheduled : own_run closed_gate_file ≡ closed_gate
unfolding the_schedule closed_gate
closed_gate_is_scheduled = refl

pub refused_for_the_legacy_form_is_scheduled : own_run refused_for_the_legacy_form_file ≡ refused_for_the_legacy_form
unfolding the_schedule refused_for_the_legacy_form
refused_for_the_legacy_form_is_scheduled = refl

pub refused_for_an_open_default_area_is_scheduled : own_run refused_for_an_open_default_area_file ≡ refused_for_an_open_default_area
unfolding the_schedule refused_for_an_open_default_area
refused_for_an_open_default_area_is_scheduled = refl

pub refused_for_its_features_is_scheduled : own_run refused_for_its_features_file ≡ refused_for_its_features
unfolding the_schedule refused_for_its_features
refused_for_its_features_is_scheduled = refl

pub modern_form_is_scheduled : scheduled_alone modern_form_file ≡ modern_form
unfolding the_schedule modern_form
modern_form_is_scheduled = refl

pub default_area_is_scheduled : scheduled_alone default_area_file ≡ default_area
unfolding the_schedule default_area
default_area_is_scheduled = refl

pub interrupts_is_scheduled : scheduled_alone interrupts_file ≡ interrupts
unfolding the_schedule interrupts
interrupts_is_scheduled = refl

pub smi_before_init_is_scheduled : scheduled_alone smi_before_init_file ≡ smi_before_init
unfolding the_schedule smi_before_init
smi_before_init_is_scheduled = refl

pub refused_for_the_legacy_form_by_its_fact : own_fact refused_for_the_legacy_form_file ≡ Some (NotModern 1)
unfolding the_schedule
refused_for_the_legacy_form_by_its_fact = refl

pub refused_for_an_open_default_area_by_its_fact : own_fact refused_for_an_open_default_area_file ≡ Some (NoDefaultSmram 0)
unfolding the_schedule
refused_for_an_open_default_area_by_its_fact = refl

pub refused_for_its_features_by_its_fact : own_fact refused_for_its_features_file ≡ Some (NotNegotiated 0)
unfolding the_schedule
refused_for_its_features_by_its_fact = refl

pub ruleset scheduled_traces = (smallest_is_scheduled, selector_past_the_end_is_scheduled, several_control_bits_is_scheduled, transfer_into_locked_memory_is_scheduled, store_across_64_kib_is_scheduled, host_events_is_scheduled, rendezvous_is_scheduled, late_processor_is_scheduled, closed_gate_is_scheduled, refused_for_the_legacy_form_is_scheduled, refused_for_an_open_default_area_is_scheduled, refused_for_its_features_is_scheduled)

pub ruleset scheduled_without_boot = (modern_form_is_scheduled, default_area_is_scheduled, interrupts_is_scheduled, smi_before_init_is_scheduled)

pub ruleset boot_facts = (refused_for_the_legacy_form_by_its_fact, refused_for_an_open_default_area_by_its_fact, refused_for_its_features_by_its_fact)
