-- The worked traces are runs.
use Rattle.std.proofs.Common.{◌≡◌, true, refl}
use Rattle.hp_worked.specs.Asked.{is_run, is_run_alone}
use Rattle.hp_worked.specs.Files.{smallest_file, selector_past_the_end_file, several_control_bits_file, transfer_into_locked_memory_file, store_across_64_kib_file, host_events_file, rendezvous_file, late_processor_file, closed_gate_file, refused_for_the_legacy_form_file, refused_for_an_open_default_area_file, refused_for_its_features_file, modern_form_file, default_area_file, interrupts_file, smi_before_init_file}
use Rattle.hp_worked.specs.Traces.{smallest, selector_past_the_end, several_control_bits, transfer_into_locked_memory, store_across_64_kib, host_events, refused_for_the_legacy_form, refused_for_an_open_default_area, refused_for_its_features}
use Rattle.hp_worked.specs.Rendezvous.{rendezvous}
use Rattle.hp_worked.specs.LateProcessor.{late_processor}
use Rattle.hp_worked.specs.ClosedGate.{closed_gate}
use Rattle.hp_worked.specs.Alone.{modern_form, default_area, interrupts, smi_before_init}
use Rattle.hp_worked.proofs.Opened.{the_run}

pub smallest_runs : is_run smallest_file smallest ≡ true
unfolding the_run smallest
smallest_runs = refl

pub selector_past_the_end_runs : is_run selector_past_the_end_file selector_past_the_end ≡ true
unfolding the_run selector_past_the_end
selector_past_the_end_runs = refl

pub several_control_bits_runs : is_run several_control_bits_file several_control_bits ≡ true
unfolding the_run several_control_bits
several_control_bits_runs = refl

pub transfer_into_locked_memory_runs : is_run transfer_into_locked_memory_file transfer_into_locked_memory ≡ true
unfolding the_run transfer_into_locked_memory
transfer_into_locked_memory_runs = refl

pub store_across_64_kib_runs : is_run store_across_64_kib_file store_across_64_kib ≡ true
unfolding the_run store_across_64_kib
store_across_64_kib_runs = refl

pub host_events_runs : is_run host_events_file host_events ≡ true
unfolding the_run host_events
host_events_runs = refl

pub rendezvous_runs : is_run rendezvous_file rendezvous ≡ true
unfolding the_run rendezvous
rendezvous_runs = refl

pub late_processor_runs : is_run late_processor_file late_processor ≡ true
unfolding the_run late_processor
late_processor_runs = refl

pub closed_gate_runs : is_run closed_gate_file closed_gate ≡ true
unfolding the_run closed_gate
closed_gate_runs = refl

pub refused_for_the_legacy_form_runs : is_run refused_for_the_legacy_form_file refused_for_the_legacy_form ≡ true
unfolding the_run refused_for_the_legacy_form
refused_for_the_legacy_form_runs = refl

pub refused_for_an_open_default_area_runs : is_run refused_for_an_open_default_area_file refused_for_an_open_default_area ≡ true
unfolding the_run refused_for_an_open_default_area
refused_for_an_open_default_area_runs = refl

pub refused_for_its_features_runs : is_run refused_for_its_features_file refused_for_its_features ≡ true
unfolding the_run refused_for_its_features
refused_for_its_features_runs = refl

pub modern_form_runs : is_run_alone modern_form_file modern_form ≡ true
unfolding the_run modern_form
modern_form_runs = refl

pub default_area_runs : is_run_alone default_area_file default_area ≡ true
unfolding the_run default_area
default_area_runs = refl

pub interrupts_runs : is_run_alone interrupts_file interrupts ≡ true
unfolding the_run interrupts
interrupts_runs = refl

pub smi_before_init_runs : is_run_alone smi_before_init_file smi_before_init ≡ true
unfolding the_run smi_before_init
smi_before_init_runs = refl

pub ruleset worked_runs = (smallest_runs, selector_past_the_end_runs, several_control_bits_runs, transfer_into_locked_memory_runs, store_across_64_kib_runs, host_events_runs, rendezvous_runs, late_processor_runs, closed_gate_runs, refused_for_the_legacy_form_runs, refused_for_an_open_default_area_runs, refused_for_its_features_runs)

pub ruleset runs_alone = (modern_form_runs, default_area_runs, interrupts_runs, smi_before_init_runs)
