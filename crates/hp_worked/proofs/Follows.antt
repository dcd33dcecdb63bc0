-- Which runs follow the voices of their files, and what they carry to their end.
use Rattle.std.proofs.Common.{◌≡◌, true, false, [], ◌∷◌, take, refl, sym, ap, ◌∙◌}
use Rattle.hp_model.specs.declared.accesses.Access.TheVariants.{Out}
use Rattle.hp_model.specs.declared.accesses.Answer.TheVariants.{Quiet, Value}
use Rattle.hp_model.specs.Voices.{script, pen, silent}
use Rattle.hp_worked.specs.Followed.{all_told, carried_by, follows_voices, follows_the_first, scene_left, pen_stores_another, pen_after_its_eject, script_says_another}
use Rattle.hp_worked.specs.Asked.{is_run}
use Rattle.hp_worked.specs.Files.{an_add_file, add_with_a_stored_pen_byte_file, rendezvous_file, host_events_file, ejected_and_added_again_file, selector_taken_away_file}
use Rattle.hp_worked.specs.Adds.{an_add, add_with_a_stored_pen_byte}
use Rattle.hp_worked.specs.Rendezvous.{rendezvous}
use Rattle.hp_worked.specs.Traces.{host_events}
use Rattle.hp_worked.specs.Ejects.{ejected_and_added_again}
use Rattle.hp_worked.specs.Late.{selector_taken_away}
use Rattle.hp_worked.proofs.Opened.{the_run, the_voices}

pub an_add_follows : follows_voices an_add_file an_add ≡ true
unfolding the_voices an_add
an_add_follows = refl

pub add_with_a_stored_pen_byte_follows : follows_voices add_with_a_stored_pen_byte_file add_with_a_stored_pen_byte ≡ true
unfolding the_voices an_add
add_with_a_stored_pen_byte_follows = refl

pub rendezvous_follows : follows_voices rendezvous_file rendezvous ≡ true
unfolding the_voices rendezvous
rendezvous_follows = refl

pub ejected_and_added_again_follows : follows_voices ejected_and_added_again_file ejected_and_added_again ≡ true
unfolding the_voices ejected_and_added_again
ejected_and_added_again_follows = refl

pub selector_taken_away_follows : follows_voices selector_taken_away_file selector_taken_away ≡ true
unfolding the_voices selector_taken_away
selector_taken_away_follows = refl

left_by_an_add : (carried_by an_add_file an_add).voices ≡ all_told (silent ∷ pen true ∷ [])
unfolding the_voices an_add
left_by_an_add = refl

left_in_an_add : (scene_left an_add_file).voices ≡ silent ∷ pen true ∷ []
unfolding the_voices
left_in_an_add = refl

pub an_add_leaves_voices : (carried_by an_add_file an_add).voices ≡ all_told (scene_left an_add_file).voices
an_add_leaves_voices = left_by_an_add ∙ ap all_told (sym left_in_an_add)

left_by_add_with_a_stored_pen_byte : (carried_by add_with_a_stored_pen_byte_file add_with_a_stored_pen_byte).voices ≡ all_told (silent ∷ pen true ∷ [])
unfolding the_voices an_add
left_by_add_with_a_stored_pen_byte = refl

left_in_add_with_a_stored_pen_byte : (scene_left add_with_a_stored_pen_byte_file).voices ≡ silent ∷ pen true ∷ []
unfolding the_voices
left_in_add_with_a_stored_pen_byte = refl

pub add_with_a_stored_pen_byte_leaves_voices : (carried_by add_with_a_stored_pen_byte_file add_with_a_stored_pen_byte).voices ≡ all_told (scene_left add_with_a_stored_pen_byte_file).voices
add_with_a_stored_pen_byte_leaves_voices = left_by_add_with_a_stored_pen_byte ∙ ap all_told (sym left_in_add_with_a_stored_pen_byte)

left_by_rendezvous : (carried_by rendezvous_file rendezvous).voices ≡ all_told (silent ∷ silent ∷ [])
unfolding the_voices rendezvous
left_by_rendezvous = refl

left_in_rendezvous : (scene_left rendezvous_file).voices ≡ silent ∷ silent ∷ []
unfolding the_voices
left_in_rendezvous = refl

pub rendezvous_leaves_voices : (carried_by rendezvous_file rendezvous).voices ≡ all_told (scene_left rendezvous_file).voices
rendezvous_leaves_voices = left_by_rendezvous ∙ ap all_told (sym left_in_rendezvous)

left_by_ejected_and_added_again : (carried_by ejected_and_added_again_file ejected_and_added_again).voices ≡ all_told (silent ∷ silent ∷ [])
unfolding the_voices ejected_and_added_again
left_by_ejected_and_added_again = refl

left_in_ejected_and_added_again : (scene_left ejected_and_added_again_file).voices ≡ silent ∷ silent ∷ []
unfolding the_voices
left_in_ejected_and_added_again = refl

pub ejected_and_added_again_leaves_voices : (carried_by ejected_and_added_again_file ejected_and_added_again).voices ≡ all_told (scene_left ejected_and_added_again_file).voices
ejected_and_added_again_leaves_voices = left_by_ejected_and_added_again ∙ ap all_told (sym left_in_ejected_and_added_again)

left_by_selector_taken_away : (carried_by selector_taken_away_file selector_taken_away).voices ≡ all_told (silent ∷ silent ∷ [])
unfolding the_voices selector_taken_away
left_by_selector_taken_away = refl

left_in_selector_taken_away : (scene_left selector_taken_away_file).voices ≡ silent ∷ silent ∷ []
unfolding the_voices
left_in_selector_taken_away = refl

pub selector_taken_away_leaves_voices : (carried_by selector_taken_away_file selector_taken_away).voices ≡ all_told (scene_left selector_taken_away_file).voices
selector_taken_away_leaves_voices = left_by_selector_taken_away ∙ ap all_told (sym left_in_selector_taken_away)

pub an_add_midway : (carried_by an_add_file (take 29 an_add)).voices ≡ all_told (script (Out 0xcd8 4 0x1 ∷ Out 0xcdc 1 0x2 ∷ []) ∷ pen false ∷ [])
unfolding the_voices an_add
an_add_midway = refl

pub an_add_at_the_end : (carried_by an_add_file an_add).voices ≡ all_told (silent ∷ pen true ∷ [])
unfolding the_voices an_add
an_add_at_the_end = refl

pub added_again_at_the_end : (carried_by ejected_and_added_again_file ejected_and_added_again).voices ≡ all_told (silent ∷ silent ∷ [])
unfolding the_voices ejected_and_added_again
added_again_at_the_end = refl

pub host_events_midway : (carried_by host_events_file (take 30 host_events)).last ≡ Value 0x4 ∷ Quiet ∷ Quiet ∷ []
unfolding the_voices host_events
host_events_midway = refl

pub pen_stores_another_runs : is_run an_add_file pen_stores_another ≡ true
unfolding the_run an_add
pen_stores_another_runs = refl

pub pen_after_its_eject_runs : is_run ejected_and_added_again_file pen_after_its_eject ≡ true
unfolding the_run ejected_and_added_again
pen_after_its_eject_runs = refl

pub script_says_another_runs : is_run selector_taken_away_file script_says_another ≡ true
unfolding the_run selector_taken_away
script_says_another_runs = refl

pub add_with_a_stored_pen_byte_is_unsaid : follows_voices an_add_file add_with_a_stored_pen_byte ≡ false
unfolding the_voices an_add
add_with_a_stored_pen_byte_is_unsaid = refl

pub pen_stores_another_is_unsaid : follows_voices an_add_file pen_stores_another ≡ false
unfolding the_voices an_add
pen_stores_another_is_unsaid = refl

pub pen_after_its_eject_is_unsaid : follows_voices ejected_and_added_again_file pen_after_its_eject ≡ false
unfolding the_voices ejected_and_added_again
pen_after_its_eject_is_unsaid = refl

pub script_says_another_is_unsaid : follows_voices selector_taken_away_file script_says_another ≡ false
unfolding the_voices selector_taken_away
script_says_another_is_unsaid = refl

pub an_untold_pen_is_not_asked : follows_the_first an_add_file (script (Out 0xb2 1 0x4 ∷ Out 0xcd8 4 0x1 ∷ Out 0xcdc 1 0x2 ∷ [])) pen_stores_another ≡ true
unfolding the_voices an_add
an_untold_pen_is_not_asked = refl

pub ruleset all_follow = (an_add_follows, add_with_a_stored_pen_byte_follows, rendezvous_follows, ejected_and_added_again_follows, selector_taken_away_follows)

pub ruleset all_left = (an_add_leaves_voices, add_with_a_stored_pen_byte_leaves_voices, rendezvous_leaves_voices, ejected_and_added_again_leaves_voices, selector_taken_away_leaves_voices)

pub ruleset carried = (an_add_midway, an_add_at_the_end, added_again_at_the_end, host_events_midway)

pub ruleset run_unsaid = (pen_stores_another_runs, pen_after_its_eject_runs, script_says_another_runs)

pub ruleset unsaid = (add_with_a_stored_pen_byte_is_unsaid, pen_stores_another_is_unsaid, pen_after_its_eject_is_unsaid, script_says_another_is_unsaid, an_untold_pen_is_not_asked)
