-- The first entry of a list that is no step (own rule).
use Rattle.std.specs.Prelude.{◌≡◌, ℕ, ◌+◌, List, [], ◌∷◌, Option, Some, None, IsSome, Result, Ok, Err}
use Rattle.hp_model.specs.declared.platforms.Platform.{Platform}
use Rattle.hp_model.specs.declared.entries.Entry.{Entry}
use Rattle.hp_model.specs.Runs.{run, run_on}
use Rattle.hp_model.specs.Safety.{IsSafe}
use Rattle.hp_model.specs.State.{State, start}
use Rattle.hp_check.specs.Walk.{Walk}
use Rattle.hp_check.specs.declared.checking.Fault.{Fault}
use Rattle.hp_check.specs.declared.checking.Fault.TheVariants.{NotAStep, NoMemory}

-- after an entry that is no step its number, and else what comes behind it
abbrev pub stops : ℕ → Option State → (State → Option ℕ) → Option ℕ
stops number None behind = Some number
stops number (Some s) behind = behind s

-- the number of the first that is no step in the state that those before it lead to, of entries numbered from this one on
unfoldable pub stop_from : Platform → State → ℕ → List Entry → Option ℕ
stop_from p s number [] = None
stop_from p s number (e ∷ es) = stops number (run_on p s e) (λ t. stop_from p t (number + 1) es)

-- of a platform's start, numbered from 1
abbrev pub stop_of : Platform → List Entry → Option ℕ
stop_of p es = stop_from p (start p) 1 es

-- they are a run of the platform, and a safe one
pub record IsChecked (p : Platform) (es : List Entry) : Type 0 where
  pub all : stop_of p es ≡ None
  pub run : IsSome (run p es)
  pub safe : IsSafe p es

-- an entry is no step after those before it, so they are no run; this is the number of the first
pub record IsStopped (p : Platform) (es : List Entry) (number : ℕ) : Type 0 where
  pub first : stop_of p es ≡ Some number
  pub no_run : run p es ≡ None

abbrev pub Checks : Platform → List Entry → Result (Unit {0}) Fault → Type 0
Checks p es (Ok done) = IsChecked p es
Checks p es (Err (NotAStep number)) = IsStopped p es number
Checks p es (Err NoMemory) = Unit {0}

-- the same of entries numbered from this one on, by a walk in front of them
abbrev pub Walks : Walk → List Entry → ℕ → Result (Unit {0}) Fault → Type 0
Walks w es number (Ok done) = stop_from w.platform w.state number es ≡ None
Walks w es number (Err (NotAStep found)) = stop_from w.platform w.state number es ≡ Some found
Walks w es number (Err NoMemory) = Unit {0}
