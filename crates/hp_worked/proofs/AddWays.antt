-- What holds in each state of an add: nobody is astray, and instructions in SMM are locked.
use Rattle.std.proofs.Common.{◌≡◌, true, [], ◌∷◌, length, refl}
use Rattle.hp_worked.specs.Asked.{is_nobody_astray, is_locked_at_each, is_untouched_at_each}
use Rattle.hp_worked.specs.Files.{an_add_file, two_new_processors_file, gate_held_file}
use Rattle.hp_worked.specs.Adds.{an_add}
use Rattle.hp_worked.specs.TwoNewProcessors.{two_new_processors}
use Rattle.hp_worked.specs.GateHeld.{gate_held}
use Rattle.hp_worked.proofs.Opened.{the_run}

pub an_add_has_82 : length an_add ≡ 82
unfolding the_run an_add
an_add_has_82 = refl

pub two_new_processors_has_175 : length two_new_processors ≡ 175
unfolding the_run two_new_processors
two_new_processors_has_175 = refl

pub gate_held_has_652 : length gate_held ≡ 652
unfolding the_run gate_held
gate_held_has_652 = refl

pub an_add_leads_nobody_astray : is_nobody_astray an_add_file (0 ∷ 1 ∷ []) an_add ≡ true
unfolding the_run an_add
an_add_leads_nobody_astray = refl

pub two_new_processors_leads_nobody_astray : is_nobody_astray two_new_processors_file (0 ∷ 1 ∷ 2 ∷ []) two_new_processors ≡ true
unfolding the_run two_new_processors
two_new_processors_leads_nobody_astray = refl

pub gate_held_leads_nobody_astray : is_nobody_astray gate_held_file (0 ∷ 1 ∷ 2 ∷ 3 ∷ 4 ∷ []) gate_held ≡ true
unfolding the_run gate_held
gate_held_leads_nobody_astray = refl

pub an_add_is_locked : is_locked_at_each an_add_file an_add ≡ true
unfolding the_run an_add
an_add_is_locked = refl

pub an_add_is_untouched : is_untouched_at_each an_add_file an_add ≡ true
unfolding the_run an_add
an_add_is_untouched = refl

pub two_new_processors_is_locked : is_locked_at_each two_new_processors_file two_new_processors ≡ true
unfolding the_run two_new_processors
two_new_processors_is_locked = refl

pub two_new_processors_is_untouched : is_untouched_at_each two_new_processors_file two_new_processors ≡ true
unfolding the_run two_new_processors
two_new_processors_is_untouched = refl

pub gate_held_is_locked : is_locked_at_each gate_held_file gate_held ≡ true
unfolding the_run gate_held
gate_held_is_locked = refl

pub gate_held_is_untouched : is_untouched_at_each gate_held_file gate_held ≡ true
unfolding the_run gate_held
gate_held_is_untouched = refl

pub ruleset not_astray_in_adds = (an_add_has_82, two_new_processors_has_175, gate_held_has_652, an_add_leads_nobody_astray, two_new_processors_leads_nobody_astray, gate_held_leads_nobody_astray)

pub ruleset locked_in_adds = (an_add_is_locked, an_add_is_untouched, two_new_processors_is_locked, two_new_processors_is_untouched, gate_held_is_locked, gate_held_is_untouched)
