-- What the laws of safety say of transitions, each by its test; and the transitions of firmware that does something wrong.
use Rattle.std.specs.Prelude.{Bool, true, ◌&&◌, ◌==◌, List, [], Option, Some, None, length, if◌then◌else◌}
use Rattle.hp_model.specs.declared.platforms.Platform.{Platform}
use Rattle.hp_model.specs.declared.entries.Entry.{Entry}
use Rattle.hp_model.specs.declared.files.File.{File}
use Rattle.hp_model.specs.View.{is_locked}
use Rattle.hp_model.specs.State.{State, start}
use Rattle.hp_model.specs.Step.{is_enabled, answer_of, effect_of}
use Rattle.hp_model.specs.Runs.{same_answer}
use Rattle.hp_model.specs.Sessions.{flag_agrees}
use Rattle.hp_model.specs.Transitions.{Transition, transitions, transitions_by, at_each, at_each_state}
use Rattle.hp_model.specs.Smbases.{have_own_smbases, have_smbases_apart, moves_named}
use Rattle.hp_model.specs.Outcomes.{answers, shows, loses_none, each_told}
use Rattle.hp_model.specs.Exact.{is_quiet, reports_truly, answers_all, moves_held}
use Rattle.hp_worked.specs.Asked.{four_bytes}

-- the machine alone makes an event that it can, with its answer, whatever the firmware wants; instruction addresses are the entries' own
abbrev pub machine_on : Platform → State → Entry → Option State
machine_on p s e = if is_enabled p s e.event && same_answer (answer_of s e.event) e.answer then Some (effect_of p s e.event) else None

-- its transitions, newest first
abbrev pub recorded : Platform → List Entry → List Transition
recorded p es = transitions_by (machine_on p) [] (start p) es

-- each entry in SMM finds the four bytes at its instruction address locked
abbrev pub finds_locked : List Transition → Bool
finds_locked xs = at_each (λ older x. four_bytes (is_locked x.before.locks) x.entry.at) xs

-- what each test of the laws says of transitions, in order; of the law of locked instructions the one that they are locked
pub record Verdicts : Type 0 where
  pub locked : Bool
  pub own : Bool
  pub apart : Bool
  pub named : Bool
  pub quiet : Bool
  pub reports : Bool
  pub outcomes_answer : Bool
  pub all_answered : Bool
  pub outcomes_show : Bool
  pub none_lost : Bool
  pub held_alone : Bool

unfoldable pub verdicts : Platform → List Transition → Verdicts
verdicts p xs =
    record {
      locked = finds_locked xs;
      own = at_each_state p (have_own_smbases p) xs;
      apart = at_each_state p (have_smbases_apart p) xs;
      named = at_each (moves_named p) xs;
      quiet = at_each (is_quiet p) xs;
      reports = at_each (reports_truly p) xs;
      outcomes_answer = each_told p answers xs;
      all_answered = at_each (answers_all p) xs;
      outcomes_show = each_told p (shows p) xs;
      none_lost = each_told p (loses_none p) xs;
      held_alone = at_each (moves_held p) xs;
    }

-- nothing is found wrong
abbrev pub all_well : Verdicts
all_well = record { locked = true; own = true; apart = true; named = true; quiet = true; reports = true; outcomes_answer = true; all_answered = true; outcomes_show = true; none_lost = true; held_alone = true }

-- of a run, and of what the machine alone records
abbrev pub verdicts_of_run : File → List Entry → Verdicts
verdicts_of_run f es = verdicts f.platform (transitions f.platform es)

abbrev pub verdicts_of_record : File → List Entry → Verdicts
verdicts_of_record f es = verdicts f.platform (recorded f.platform es)

-- the machine alone can make each of the entries
abbrev pub is_record : File → List Entry → Bool
is_record f es = length (recorded f.platform es) == length es

-- while all others are called in, the state's flag is what the entries say of the session
abbrev pub flag_is_right : File → List Entry → Bool
flag_is_right f es = at_each_state f.platform (flag_agrees f.platform) (transitions f.platform es)
