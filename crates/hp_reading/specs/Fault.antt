-- The first fault of a text that is to be the trace of a run (own rules).
use Rattle.std.specs.Prelude.{◌≡◌, ℕ, ◌==◌, ◌+◌, List, [], ◌∷◌, Option, Some, None, IsSome, if◌then◌else◌}
use Rattle.hp_model.specs.declared.platforms.Platform.{Platform}
use Rattle.hp_model.specs.declared.entries.Entry.{Entry}
use Rattle.hp_model.specs.State.{State, start}
use Rattle.hp_model.specs.Runs.{run, run_on}
use Rattle.hp_reading.specs.Lines.{entry_of, end_of}
use Rattle.hp_reading.specs.Header.{head_of}
use Rattle.hp_reading.specs.Trace.{cut, TraceContent, trace_of}

-- a line isn't in the grammar where it stands; its entry is no step; the end line is missing there, has another number or has text after it
pub data Cause : Type 0 where
  Line : Cause
  Step : Cause
  End : Cause

-- with the number of the line, from 1
pub record Fault : Type 0 where
  pub line : ℕ
  pub cause : Cause

abbrev pub at_line : ℕ → Cause → Option Fault
at_line line cause = Some (record { line = line; cause = cause })

-- a line that is no entry's, where so many entries were read
abbrev pub end_fault : ℕ → ℕ → List (List ℕ) → List ℕ → Option ℕ → Option Fault
end_fault line n ls rest None = at_line line Line
end_fault line n [] [] (Some entries) = if entries == n then None else at_line line End
end_fault line n [] (c ∷ rest) (Some entries) = at_line line End
end_fault line n (l ∷ ls) rest (Some entries) = at_line line End

-- an entry, and the faults behind it
abbrev pub step_fault : ℕ → Option State → (State → Option Fault) → Option Fault
step_fault line None behind = at_line line Step
step_fault line (Some s) behind = behind s

abbrev pub line_fault : ℕ → Platform → State → Option Entry → (State → Option Fault) → Option Fault → Option Fault
line_fault line p s None behind other = other
line_fault line p s (Some e) behind other = step_fault line (run_on p s e) behind

-- the first fault from this line on, in this state, where so many entries were read
unfoldable pub fault_from : ℕ → ℕ → Platform → State → List (List ℕ) → List ℕ → Option Fault
fault_from line n p s [] [] = at_line line End
fault_from line n p s [] (c ∷ rest) = at_line line Line
fault_from line n p s (l ∷ ls) rest =
    line_fault line p s (entry_of l) (λ t. fault_from (line + 1) (n + 1) p t ls rest) (end_fault line n ls rest (end_of l))

abbrev pub behind_header : List (List ℕ) → List ℕ → Option Platform → Option Fault
behind_header ls rest None = at_line 1 Line
behind_header ls rest (Some p) = fault_from 2 0 p (start p) ls rest

abbrev pub fault_in : List (List ℕ) → List ℕ → Option Fault
fault_in [] [] = at_line 1 End
fault_in [] (c ∷ rest) = at_line 1 Line
fault_in (head ∷ ls) rest = behind_header ls rest (head_of head)

-- the first line at fault and why, None where the text is the trace of a run
unfoldable pub fault_of : List ℕ → Option Fault
fault_of text = fault_in (cut text).lines (cut text).rest

-- the text is a trace, and its entries are a run
pub record IsRunsTrace (text : List ℕ) : Type 0 where
  pub content : TraceContent
  pub read : trace_of text ≡ Some content
  pub runs : IsSome (run content.platform content.entries)
