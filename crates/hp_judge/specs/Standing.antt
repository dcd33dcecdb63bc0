-- How far the lines of a text have led, one after the other (own rules).
use Rattle.std.specs.Prelude.{◌≡◌, ℕ, Bool, true, false, ◌+◌, ◌==◌, List, [], ◌∷◌, length, Option, Some, None, Result, Ok, Err, if◌then◌else◌}
use Rattle.hp_model.specs.declared.platforms.Platform.{Platform}
use Rattle.hp_model.specs.declared.entries.Entry.{Entry}
use Rattle.hp_model.specs.Runs.{run_on}
use Rattle.hp_model.specs.State.{State, start}
use Rattle.hp_reading.specs.Fault.{Cause, Fault, Line, Step, End}
use Rattle.hp_reading.specs.Header.{head_of}
use Rattle.hp_reading.specs.Lines.{entry_of, end_of}
use Rattle.hp_reading.specs.Trace.{cut, TraceContent, trace_of}

-- line 1 hasn't ended; the header and so many entries lead to this state; their end line has ended too; a line is at fault
pub data Standing : Type 0 where
  heading : Standing
  going : Platform → State → ℕ → Standing
  ended : ℕ → Standing
  refused : Fault → Standing

-- whether one is, and the fault of a line
abbrev pub is_refused : Standing → Bool
is_refused heading = false
is_refused (going p s n) = false
is_refused (ended n) = false
is_refused (refused f) = true

abbrev pub refusing : ℕ → Cause → Standing
refusing line cause = refused (record { line = line; cause = cause })

-- a header
abbrev pub by_head : Option Platform → Standing
by_head None = refusing 1 Line
by_head (Some p) = going p (start p) 0

-- behind so many entries: a line that is no entry's, an entry, and either
abbrev pub by_end : ℕ → Option ℕ → Standing
by_end n None = refusing (n + 2) Line
by_end n (Some entries) = if entries == n then ended n else refusing (n + 2) End

abbrev pub by_step : Platform → ℕ → Option State → Standing
by_step p n None = refusing (n + 2) Step
by_step p n (Some s) = going p s (n + 1)

abbrev pub by_line : Platform → State → ℕ → Option Entry → Standing → Standing
by_line p s n None other = other
by_line p s n (Some e) other = by_step p n (run_on p s e)

-- a line has ended
unfoldable pub after_line : Standing → List ℕ → Standing
after_line heading l = by_head (head_of l)
after_line (going p s n) l = by_line p s n (entry_of l) (by_end n (end_of l))
after_line (ended n) l = refusing (n + 2) End
after_line (refused f) l = refused f

unfoldable pub after_lines : Standing → List (List ℕ) → Standing
after_lines x [] = x
after_lines x (l ∷ ls) = after_lines (after_line x l) ls

abbrev pub faulty : ℕ → Cause → Result ℕ Fault
faulty line cause = Err (record { line = line; cause = cause })

-- the text ends, with these bytes behind its last line feed: without an end line, and with one
abbrev pub without_end : ℕ → List ℕ → Result ℕ Fault
without_end line [] = faulty line End
without_end line (c ∷ rest) = faulty line Line

abbrev pub with_end : ℕ → List ℕ → Result ℕ Fault
with_end n [] = Ok n
with_end n (c ∷ rest) = faulty (n + 2) End

abbrev pub verdict : Standing → List ℕ → Result ℕ Fault
verdict heading rest = without_end 1 rest
verdict (going p s n) rest = without_end (n + 2) rest
verdict (ended n) rest = with_end n rest
verdict (refused f) rest = Err f

-- the number of entries of a text without fault, or its first fault
unfoldable pub verdict_of : List ℕ → Result ℕ Fault
verdict_of text = verdict (after_lines heading (cut text).lines) (cut text).rest

abbrev pub fault_by : Result ℕ Fault → Option Fault
fault_by (Ok n) = None
fault_by (Err f) = Some f

-- the text is in the grammar, and has so many entries
pub record HasEntries (text : List ℕ) (n : ℕ) : Type 0 where
  pub content : TraceContent
  pub read : trace_of text ≡ Some content
  pub count : length content.entries ≡ n
