-- The first entry that is no step, entry by entry.
use Rattle.std.proofs.Common.{◌≡◌, ℕ, ◌+◌, List, [], ◌∷◌, Option, Some, None, Result, Ok, Err, refl, sym, ap, ◌∙◌}
use Rattle.std.specs.Prelude.{IsSome, option_and_then}
use Rattle.hp_model.specs.declared.platforms.Platform.{Platform}
use Rattle.hp_model.specs.declared.entries.Entry.{Entry}
use Rattle.hp_model.specs.Runs.{run, run_from, run_on}
use Rattle.hp_model.specs.Platform.{IsFit}
use Rattle.hp_model.specs.Safety.{IsSafe}
use Rattle.hp_model.specs.State.{State, start}
use Rattle.hp_check.specs.declared.checking.Fault.{Fault}
use Rattle.hp_check.specs.declared.checking.Fault.TheVariants.{NotAStep, NoMemory}
use Rattle.hp_check.specs.Walk.{Walk}
use Rattle.hp_check.specs.Checking.{Checks, IsChecked, Walks, stop_from, stop_of, stops}

-- past an entry that is a step
pub stop_later : (p : Platform) (s t : State) (number : ℕ) (e : Entry) (es : List Entry) → run_on p s e ≡ Some t → stop_from p s number (e ∷ es) ≡ stop_from p t (number + 1) es
unfolding stop_from
stop_later p s t number e es step = ap (λ (o : Option State). stops number o (λ u. stop_from p u (number + 1) es)) step

-- at one that is none
pub stop_here : (p : Platform) (s : State) (number : ℕ) (e : Entry) (es : List Entry) → run_on p s e ≡ None → stop_from p s number (e ∷ es) ≡ Some number
unfolding stop_from
stop_here p s number e es none = ap (λ (o : Option State). stops number o (λ u. stop_from p u (number + 1) es)) none

pub stop_none : (p : Platform) (s : State) (number : ℕ) → stop_from p s number [] ≡ None
unfolding stop_from
stop_none p s number = refl

runs_on : (p : Platform) (s : State) (number : ℕ) (es : List Entry) → stop_from p s number es ≡ None → IsSome (run_from p s es)
unfolding stop_from run_from
runs_on p s number [] all = refl
runs_on p s number (e ∷ es) all = by_step (run_on p s e) (λ t. runs_on p t (number + 1) es) all
  where
    by_step : (o : Option State) → ((t : State) → stop_from p t (number + 1) es ≡ None → IsSome (run_from p t es)) →
        stops number o (λ t. stop_from p t (number + 1) es) ≡ None → IsSome (option_and_then (λ t. run_from p t es) o)
    by_step None later all = absurd cc
    by_step (Some t) later all = later t all

-- where all are steps they are a run
pub all_run : (p : Platform) (es : List Entry) → stop_of p es ≡ None → IsSome (run p es)
unfolding run
all_run p es all = runs_on p (start p) 1 es all

runs_off : (p : Platform) (s : State) (number stop : ℕ) (es : List Entry) → stop_from p s number es ≡ Some stop → run_from p s es ≡ None
unfolding stop_from run_from
runs_off p s number stop [] found = absurd cc
runs_off p s number stop (e ∷ es) found = by_step (run_on p s e) (λ t. runs_off p t (number + 1) stop es) found
  where
    by_step : (o : Option State) → ((t : State) → stop_from p t (number + 1) es ≡ Some stop → run_from p t es ≡ None) →
        stops number o (λ t. stop_from p t (number + 1) es) ≡ Some stop → option_and_then (λ t. run_from p t es) o ≡ None
    by_step None later found = refl
    by_step (Some t) later found = later t found

-- where one is none they are no run
no_run : (p : Platform) (es : List Entry) (number : ℕ) → stop_of p es ≡ Some number → run p es ≡ None
unfolding run
no_run p es number found = runs_off p (start p) 1 number es found

checked_from : (p : Platform) (es : List Entry) → stop_of p es ≡ None → ((qs : List Entry) (s : State) → run p qs ≡ Some s → IsSafe p qs) → IsChecked p es
checked_from p es all safe = by_run (run p es) refl (all_run p es all)
  where
    by_run : (o : Option State) → run p es ≡ o → IsSome o → IsChecked p es
    by_run None e some = absurd cc
    by_run (Some s) e some = record { all = all; run = all_run p es all; safe = safe es s e }

-- what a walk from the start says of all entries
pub checked : (w : Walk) (p : Platform) (es : List Entry) (result : Result (Unit {0}) Fault) → IsFit p →
    ((q : Platform) (qs : List Entry) (s : State) → IsFit q → run q qs ≡ Some s → IsSafe q qs) →
    w.platform ≡ p → w.state ≡ start p → Walks w es 1 result → Checks p es result
checked w p es (Ok done) fit safe platform state walks = checked_from p es (same ∙ walks) (λ qs s is. safe p qs s fit is)
  where
    same : stop_of p es ≡ stop_from w.platform w.state 1 es
    same = ap (λ (q : Platform). stop_from q (start p) 1 es) (sym platform) ∙ ap (λ (s : State). stop_from w.platform s 1 es) (sym state)
checked w p es (Err (NotAStep number)) fit safe platform state walks = record { first = same ∙ walks; no_run = no_run p es number (same ∙ walks) }
  where
    same : stop_of p es ≡ stop_from w.platform w.state 1 es
    same = ap (λ (q : Platform). stop_from q (start p) 1 es) (sym platform) ∙ ap (λ (s : State). stop_from w.platform s 1 es) (sym state)
checked w p es (Err NoMemory) fit safe platform state walks = walks
