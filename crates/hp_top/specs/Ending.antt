-- How the call ends, by its words.
use Rattle.std.specs.Prelude.{◌≡◌, ℕ, true, List, Option}
use Rattle.std.specs.Io.KnownBytes.{Keeps}
use Rattle.hp_model.specs.Voices.{Voice}
use Rattle.hp_top.specs.declared.statuses.Status.{Status}
use Rattle.hp_top.specs.Answers.{Ends}
use Rattle.hp_top.specs.Checked.{EndsCheck}
use Rattle.hp_top.specs.Commands.{AreGen, AreNone, are_check, are_run}
use Rattle.hp_top.specs.Generated.{EndsGen}

-- `run`: that of the file that is read. `check`: that of the trace that is read. `gen` and a number: that of the file that the number makes. Words that are no command: nothing is read, and
-- nothing is written. `left` and `still` are what the source had left before and after it, `old` and `new` what the sink held.
pub record EndsBy (words : List (List ℕ)) (handed : List (Option Voice)) (left still old new : Option (List ℕ)) (status : Status) : Type 0 where
  pub run : are_run words ≡ true → Ends handed left still old new status
  pub check : are_check words ≡ true → EndsCheck left still old new status
  pub gen : (n : ℕ) → AreGen words n → EndsGen n left still old new status
  pub none : AreNone words → Keeps left still × Keeps old new
