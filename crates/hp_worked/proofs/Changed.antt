-- Traces with one thing changed are no runs, and stop at the change.
use Rattle.std.proofs.Common.{◌≡◌, false, Some, refl}
use Rattle.hp_worked.specs.Asked.{is_run, stops_at, is_run_alone}
use Rattle.hp_worked.specs.Files.{smallest_file, rendezvous_file, late_processor_file, closed_gate_file, refused_for_its_features_file, smi_before_init_file}
use Rattle.hp_worked.specs.Traces.{refused_for_its_features, unlocked_boot, boot_out_of_order, boot_after_a_refusal}
use Rattle.hp_worked.specs.Rendezvous.{rendezvous, with_another_byte, from_another_cell, with_another_answer, without_a_session, released_too_early, left_unreleased}
use Rattle.hp_worked.specs.LateProcessor.{late_processor, with_a_look_less, with_a_second_smi}
use Rattle.hp_worked.specs.ClosedGate.{closed_gate, with_an_open_gate, past_the_closed_gate, halted_in_smm}
use Rattle.hp_worked.specs.Alone.{smi_before_init, init_before_smi}
use Rattle.hp_worked.proofs.Opened.{the_run}

pub unlocked_boot_is_none : is_run smallest_file unlocked_boot ≡ false
unfolding the_run
unlocked_boot_is_none = refl

pub boot_out_of_order_is_none : is_run smallest_file boot_out_of_order ≡ false
unfolding the_run
boot_out_of_order_is_none = refl

pub boot_after_a_refusal_is_none : is_run refused_for_its_features_file boot_after_a_refusal ≡ false
unfolding the_run refused_for_its_features
boot_after_a_refusal_is_none = refl

pub with_another_byte_is_none : is_run rendezvous_file with_another_byte ≡ false
unfolding the_run rendezvous
with_another_byte_is_none = refl

pub from_another_cell_is_none : is_run rendezvous_file from_another_cell ≡ false
unfolding the_run rendezvous
from_another_cell_is_none = refl

pub with_another_answer_is_none : is_run rendezvous_file with_another_answer ≡ false
unfolding the_run rendezvous
with_another_answer_is_none = refl

pub without_a_session_is_none : is_run rendezvous_file without_a_session ≡ false
unfolding the_run rendezvous
without_a_session_is_none = refl

pub released_too_early_is_none : is_run rendezvous_file released_too_early ≡ false
unfolding the_run rendezvous
released_too_early_is_none = refl

pub left_unreleased_is_none : is_run rendezvous_file left_unreleased ≡ false
unfolding the_run rendezvous
left_unreleased_is_none = refl

pub with_a_look_less_is_none : is_run late_processor_file with_a_look_less ≡ false
unfolding the_run late_processor
with_a_look_less_is_none = refl

pub with_a_second_smi_is_none : is_run late_processor_file with_a_second_smi ≡ false
unfolding the_run late_processor
with_a_second_smi_is_none = refl

pub with_an_open_gate_is_none : is_run closed_gate_file with_an_open_gate ≡ false
unfolding the_run closed_gate
with_an_open_gate_is_none = refl

pub past_the_closed_gate_is_none : is_run closed_gate_file past_the_closed_gate ≡ false
unfolding the_run closed_gate
past_the_closed_gate_is_none = refl

pub halted_in_smm_is_none : is_run closed_gate_file halted_in_smm ≡ false
unfolding the_run closed_gate
halted_in_smm_is_none = refl

pub init_before_smi_is_none : is_run_alone smi_before_init_file init_before_smi ≡ false
unfolding the_run smi_before_init
init_before_smi_is_none = refl

pub unlocked_boot_stops : stops_at smallest_file unlocked_boot ≡ Some 14
unfolding the_run
unlocked_boot_stops = refl

pub boot_out_of_order_stops : stops_at smallest_file boot_out_of_order ≡ Some 15
unfolding the_run
boot_out_of_order_stops = refl

pub boot_after_a_refusal_stops : stops_at refused_for_its_features_file boot_after_a_refusal ≡ Some 26
unfolding the_run refused_for_its_features
boot_after_a_refusal_stops = refl

pub with_another_byte_stops : stops_at rendezvous_file with_another_byte ≡ Some 33
unfolding the_run rendezvous
with_another_byte_stops = refl

pub from_another_cell_stops : stops_at rendezvous_file from_another_cell ≡ Some 31
unfolding the_run rendezvous
from_another_cell_stops = refl

pub with_another_answer_stops : stops_at rendezvous_file with_another_answer ≡ Some 37
unfolding the_run rendezvous
with_another_answer_stops = refl

pub without_a_session_stops : stops_at rendezvous_file without_a_session ≡ Some 32
unfolding the_run rendezvous
without_a_session_stops = refl

pub released_too_early_stops : stops_at rendezvous_file released_too_early ≡ Some 41
unfolding the_run rendezvous
released_too_early_stops = refl

pub left_unreleased_stops : stops_at rendezvous_file left_unreleased ≡ Some 42
unfolding the_run rendezvous
left_unreleased_stops = refl

pub with_a_look_less_stops : stops_at late_processor_file with_a_look_less ≡ Some 33
unfolding the_run late_processor
with_a_look_less_stops = refl

pub with_a_second_smi_stops : stops_at late_processor_file with_a_second_smi ≡ Some 45
unfolding the_run late_processor
with_a_second_smi_stops = refl

pub with_an_open_gate_stops : stops_at closed_gate_file with_an_open_gate ≡ Some 33
unfolding the_run closed_gate
with_an_open_gate_stops = refl

pub past_the_closed_gate_stops : stops_at closed_gate_file past_the_closed_gate ≡ Some 35
unfolding the_run closed_gate
past_the_closed_gate_stops = refl

pub halted_in_smm_stops : stops_at closed_gate_file halted_in_smm ≡ Some 35
unfolding the_run closed_gate
halted_in_smm_stops = refl

pub ruleset no_runs = (unlocked_boot_is_none, boot_out_of_order_is_none, boot_after_a_refusal_is_none, with_another_byte_is_none, from_another_cell_is_none, with_another_answer_is_none, without_a_session_is_none, released_too_early_is_none, left_unreleased_is_none, with_a_look_less_is_none, with_a_second_smi_is_none, with_an_open_gate_is_none, past_the_closed_gate_is_none, halted_in_smm_is_none, init_before_smi_is_none)

pub ruleset stops = (unlocked_boot_stops, boot_out_of_order_stops, boot_after_a_refusal_stops, with_another_byte_stops, from_another_cell_stops, with_another_answer_stops, without_a_session_stops, released_too_early_stops, left_unreleased_stops, with_a_look_less_stops, with_a_second_smi_stops, with_an_open_gate_stops, past_the_closed_gate_stops, halted_in_smm_stops)
