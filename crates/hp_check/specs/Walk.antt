-- What contracts see of a machine that is led by entries, and what an entry makes of it.
use Rattle.std.specs.Prelude.{◌≡◌, ℕ, Bool, true, false, ◌&&◌, Option, Some, None}
use Rattle.hp_model.specs.declared.platforms.Platform.{Platform}
use Rattle.hp_model.specs.declared.accesses.Answer.{Answer}
use Rattle.hp_model.specs.declared.entries.Entry.{Entry}
use Rattle.hp_model.specs.Runs.{run_on, same_address, same_answer}
use Rattle.hp_model.specs.Platform.{IsFit}
use Rattle.hp_model.specs.State.{State}
use Rattle.hp_platform.specs.Live.{IsReached}

pub record Walk : Type 0 where
  pub platform : Platform
  pub state : State
  pub stopped : Bool  -- an entry was no step; then the state says nothing

-- a step with this answer, made at this address, is the entry's
abbrev pub is_told : Entry → Option Answer → Option ℕ → Bool
is_told e None at = false
is_told e (Some v) at = same_answer v e.answer && same_address at e.at

-- an entry that was a step, with the step's answer and address: the state is the one after it
pub record HasStepped (old new : Walk) (e : Entry) : Type 0 where
  pub step : run_on old.platform old.state e ≡ Some new.state
  pub going : new.stopped ≡ false

pub record HasStopped (old new : Walk) (e : Entry) : Type 0 where
  pub none : run_on old.platform old.state e ≡ None
  pub stopped : new.stopped ≡ true

abbrev pub Steps : Walk → Walk → Entry → Bool → Type 0
Steps old new e true = HasStepped old new e
Steps old new e false = HasStopped old new e

-- what callers see of what is kept
pub record IsSound (w : Walk) : Type 0 where
  pub fit : IsFit w.platform
  pub reached : IsReached w.platform w.state
