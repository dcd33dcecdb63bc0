-- What a judge says of the text that it has taken.
use Rattle.std.specs.Prelude.{◌≡◌, ℕ, false, List, ◌++◌, length, Some, None, IsSome, Result, Ok, Err}
use Rattle.hp_model.specs.Platform.{IsFit}
use Rattle.hp_model.specs.Runs.{run}
use Rattle.hp_model.specs.Safety.{IsSafe}
use Rattle.hp_reading.specs.Fault as reading
use Rattle.hp_reading.specs.Fault.{Fault, fault_of}
use Rattle.hp_reading.specs.Trace.{TraceContent, cut, trace_of}
use Rattle.hp_judge.specs.Standing.{heading, is_refused, after_lines}
use Rattle.hp_judge.specs.declared.refusals.Why.{Why}
use Rattle.hp_judge.specs.declared.refusals.Why.TheVariants.{Line, Step, End}
use Rattle.hp_judge.specs.declared.refusals.Refusal.{Refusal}
use Rattle.hp_judge.specs.declared.refusals.Stop.{Stop}
use Rattle.hp_judge.specs.declared.refusals.Stop.TheVariants.{Refused, NoMemory}

abbrev pub cause_of : Why → reading.Cause
cause_of Line = reading.Line
cause_of Step = reading.Step
cause_of End = reading.End

-- the fault that a refusal tells
abbrev pub fault_told : Refusal → Fault
fault_told r = record { line = r.line; cause = cause_of r.why }

-- the text has no fault: it is the trace of so many entries, which are a run, and a safe one
pub record IsAccepted (text : List ℕ) (entries : ℕ) : Type 0 where
  pub fault : fault_of text ≡ None
  pub content : TraceContent
  pub read : trace_of text ≡ Some content
  pub count : length content.entries ≡ entries
  pub fit : IsFit content.platform
  pub runs : IsSome (run content.platform content.entries)
  pub safe : IsSafe content.platform content.entries

-- the judgement of a text that has ended
abbrev pub Judges : List ℕ → Result ℕ Refusal → Type 0
Judges text (Ok entries) = IsAccepted text entries
Judges text (Err r) = fault_of text ≡ Some (fault_told r)

-- the bytes were taken, and whatever follows, this is the first fault
pub record IsRefused (old bytes new : List ℕ) (r : Refusal) : Type 0 where
  pub taken : new ≡ old ++ bytes
  pub fault : (more : List ℕ) → fault_of (new ++ more) ≡ Some (fault_told r)

-- the bytes were taken, and no line that has ended is at fault
pub record IsTaken (old bytes new : List ℕ) : Type 0 where
  pub taken : new ≡ old ++ bytes
  pub unrefused : is_refused (after_lines heading (cut new).lines) ≡ false

-- bytes at the front were taken, and none behind them
pub record HasFront (old bytes new : List ℕ) : Type 0 where
  pub front : List ℕ
  pub rest : List ℕ
  pub whole : front ++ rest ≡ bytes
  pub taken : new ≡ old ++ front

-- what giving a judge these bytes says of the text before and after it
abbrev pub Feeds : List ℕ → List ℕ → List ℕ → Result (Unit {0}) Stop → Type 0
Feeds old bytes new (Ok done) = IsTaken old bytes new
Feeds old bytes new (Err (Refused r)) = IsRefused old bytes new r
Feeds old bytes new (Err NoMemory) = HasFront old bytes new
