-- What the check opens to compute a trace.
use Rattle.std.specs.Prelude.{⊤}
use Rattle.hp_model.specs.Cpu.{boot_cpus, cpus_start}
use Rattle.hp_model.specs.Block.{first_places}
use Rattle.hp_model.specs.Memory.{bytes_of, value_from}
use Rattle.hp_model.specs.View.{is_hole}
use Rattle.hp_model.specs.Interrupts.{hit_each}
use Rattle.hp_model.specs.SaveArea.{saved, saved_smbase, saved_rip}
use Rattle.hp_model.specs.FwCfg.{big_bytes, big_value, little_value, directory, listed}
use Rattle.hp_model.specs.Transfers.{bytes_stored, bytes_loaded, transfer}
use Rattle.hp_model.specs.Boot.{boot_accesses, boot_access}
use Rattle.hp_model.specs.Labels.{label_with}
use Rattle.hp_model.specs.Image.{image, with_cells, with_tiles, with_releases}
use Rattle.hp_model.specs.Handlers.{label_of_mark}
use Rattle.hp_model.specs.Access.{same_access}
use Rattle.hp_model.specs.Firmware.{same_refusal, same_outcome, mark_at, label_at}
use Rattle.hp_model.specs.Step.{step}
use Rattle.hp_model.specs.Runs.{run, run_from, run_on}
use Rattle.hp_model.specs.Voices.{says}
use Rattle.hp_model.specs.Schedule.{act, act_all, actors_of, turns_from, booted, boot_fact, scheduled}
use Rattle.hp_model.specs.Following.{carried_all, follows}
use Rattle.hp_model.specs.Transitions.{transitions_by, transitions, since, older_than, newest, at_each, at_each_state, places}
use Rattle.hp_model.specs.Account.{bound, is_known, left_held}
use Rattle.hp_model.specs.Sessions.{triples, outcomes, disturbed_in}
use Rattle.hp_model.specs.Exact.{is_quiet, reports_truly, answers_all}
use Rattle.hp_worked.specs.Judged.{verdicts}
use Rattle.hp_worked.specs.Looked.{back_from, session_triples, session_lengths, decisions}
use Rattle.hp_worked.specs.Asked.{first_stop, all_the_way}
use Rattle.hp_worked.specs.Files.{without_turns, numbers_from}
use Rattle.hp_worked.specs.Traces.{boot}

-- the machine's step and its runs, and the boot, with which all traces begin
unfoldable pub the_run : ⊤
unfolding boot_cpus cpus_start first_places bytes_of value_from is_hole hit_each saved saved_smbase saved_rip big_bytes big_value little_value directory listed bytes_stored bytes_loaded transfer boot_accesses boot_access label_with image with_cells with_tiles with_releases label_of_mark step same_access same_refusal same_outcome mark_at label_at run run_from run_on first_stop all_the_way boot without_turns numbers_from
the_run = tt

-- the schedule too
unfoldable pub the_schedule : ⊤
unfolding the_run says act act_all actors_of turns_from booted boot_fact scheduled
the_schedule = tt

-- and what entries that follow voices carry
unfoldable pub the_voices : ⊤
unfolding the_schedule carried_all follows
the_voices = tt

-- what is read from entries, and the laws of safety
unfoldable pub the_laws : ⊤
unfolding the_run transitions_by transitions since older_than newest at_each at_each_state places bound is_known left_held triples outcomes disturbed_in is_quiet reports_truly answers_all verdicts back_from session_triples session_lengths decisions
the_laws = tt
