-- What holds in each state of a trace: nobody is astray, and instructions in SMM are locked.
use Rattle.std.proofs.Common.{◌≡◌, true, false, Some, take, length, refl}
use Rattle.hp_worked.specs.Asked.{is_never_astray, in_smm_after, astray_after, astray_alone_after, is_locked_at_each, is_untouched_at_each}
use Rattle.hp_worked.specs.Files.{rendezvous_file, late_processor_file, closed_gate_file, interrupts_file}
use Rattle.hp_worked.specs.Rendezvous.{rendezvous}
use Rattle.hp_worked.specs.LateProcessor.{late_processor}
use Rattle.hp_worked.specs.ClosedGate.{closed_gate}
use Rattle.hp_worked.specs.Alone.{interrupts}
use Rattle.hp_worked.proofs.Opened.{the_run}

pub rendezvous_has_57 : length rendezvous ≡ 57
unfolding the_run rendezvous
rendezvous_has_57 = refl

pub rendezvous_leads_0_not_astray : is_never_astray rendezvous_file 0 rendezvous ≡ true
unfolding the_run rendezvous
rendezvous_leads_0_not_astray = refl

pub rendezvous_leads_1_not_astray : is_never_astray rendezvous_file 1 rendezvous ≡ true
unfolding the_run rendezvous
rendezvous_leads_1_not_astray = refl

pub late_processor_leads_0_not_astray : is_never_astray late_processor_file 0 late_processor ≡ true
unfolding the_run late_processor
late_processor_leads_0_not_astray = refl

pub late_processor_leads_1_not_astray : is_never_astray late_processor_file 1 late_processor ≡ true
unfolding the_run late_processor
late_processor_leads_1_not_astray = refl

pub closed_gate_leads_0_not_astray : is_never_astray closed_gate_file 0 closed_gate ≡ true
unfolding the_run closed_gate
closed_gate_leads_0_not_astray = refl

pub closed_gate_leads_1_not_astray : is_never_astray closed_gate_file 1 closed_gate ≡ true
unfolding the_run closed_gate
closed_gate_leads_1_not_astray = refl

pub midway_0_is_in_smm : in_smm_after rendezvous_file 0 (take 41 rendezvous) ≡ Some true
unfolding the_run rendezvous
midway_0_is_in_smm = refl

pub midway_1_is_in_smm : in_smm_after rendezvous_file 1 (take 41 rendezvous) ≡ Some true
unfolding the_run rendezvous
midway_1_is_in_smm = refl

pub midway_0_is_not_astray : astray_after rendezvous_file 0 (take 41 rendezvous) ≡ Some false
unfolding the_run rendezvous
midway_0_is_not_astray = refl

pub midway_1_is_not_astray : astray_after rendezvous_file 1 (take 41 rendezvous) ≡ Some false
unfolding the_run rendezvous
midway_1_is_not_astray = refl

pub at_the_end_0_is_not_astray : astray_after rendezvous_file 0 rendezvous ≡ Some false
unfolding the_run rendezvous
at_the_end_0_is_not_astray = refl

pub at_the_end_1_is_not_astray : astray_after rendezvous_file 1 rendezvous ≡ Some false
unfolding the_run rendezvous
at_the_end_1_is_not_astray = refl

pub without_boot_1_is_astray : astray_alone_after interrupts_file 1 interrupts ≡ Some true
unfolding the_run interrupts
without_boot_1_is_astray = refl

pub rendezvous_is_locked : is_locked_at_each rendezvous_file rendezvous ≡ true
unfolding the_run rendezvous
rendezvous_is_locked = refl

pub rendezvous_is_untouched : is_untouched_at_each rendezvous_file rendezvous ≡ true
unfolding the_run rendezvous
rendezvous_is_untouched = refl

pub late_processor_is_locked : is_locked_at_each late_processor_file late_processor ≡ true
unfolding the_run late_processor
late_processor_is_locked = refl

pub late_processor_is_untouched : is_untouched_at_each late_processor_file late_processor ≡ true
unfolding the_run late_processor
late_processor_is_untouched = refl

pub closed_gate_is_locked : is_locked_at_each closed_gate_file closed_gate ≡ true
unfolding the_run closed_gate
closed_gate_is_locked = refl

pub closed_gate_is_untouched : is_untouched_at_each closed_gate_file closed_gate ≡ true
unfolding the_run closed_gate
closed_gate_is_untouched = refl

pub ruleset not_astray = (rendezvous_has_57, rendezvous_leads_0_not_astray, rendezvous_leads_1_not_astray, late_processor_leads_0_not_astray, late_processor_leads_1_not_astray, closed_gate_leads_0_not_astray, closed_gate_leads_1_not_astray, midway_0_is_in_smm, midway_1_is_in_smm, midway_0_is_not_astray, midway_1_is_not_astray, at_the_end_0_is_not_astray, at_the_end_1_is_not_astray)

pub ruleset astray = (without_boot_1_is_astray)

pub ruleset locked_instructions = (rendezvous_is_locked, rendezvous_is_untouched, late_processor_is_locked, late_processor_is_untouched, closed_gate_is_locked, closed_gate_is_untouched)
