-- How the command `check` ends.
use Rattle.std.specs.Prelude.{◌≡◌, ◌⊎◌, ◌≤◌, ℕ, List, length, Option, Some, None}
use Rattle.std.specs.Io.KnownBytes.{Appends, Keeps}
use Rattle.hp_judge.specs.declared.refusals.Why.{Why}
use Rattle.hp_judge.specs.Judging.{IsAccepted, fault_told}
use Rattle.hp_reading.specs.Fault.{fault_of}
use Rattle.hp_trace.specs.Summary.{ok_text}
use Rattle.hp_top.specs.declared.statuses.Status.{Status}
use Rattle.hp_top.specs.declared.statuses.Status.TheVariants.{Done, BadWords, ReadFault, TooLong, NotToml, Rule, BootRefused, WriteFault, TraceRefused, NoMemory}
use Rattle.hp_top.specs.Input.{HasRead, HasReadPast, HasReadWithin, trace_limit}
use Rattle.hp_top.specs.Sent.{HoldsFront}

-- the bytes are the trace of so many entries, which are a run of its platform, and a safe one, and its line was appended
pub record IsWholeTrace (bytes : List ℕ) (old new : Option (List ℕ)) : Type 0 where
  pub entries : ℕ
  pub accepted : IsAccepted bytes entries
  pub appended : Appends old new (ok_text entries)

-- or a front of it
pub record IsCutTrace (bytes : List ℕ) (old new : Option (List ℕ)) : Type 0 where
  pub entries : ℕ
  pub accepted : IsAccepted bytes entries
  pub front : HoldsFront old new (ok_text entries)

-- the bytes have their first fault in this line, for this cause, and nothing was written
pub record IsRefusedTrace (bytes : List ℕ) (line : ℕ) (why : Why) (old new : Option (List ℕ)) : Type 0 where
  pub fault : fault_of bytes ≡ Some (fault_told (record { line = line; why = why }))
  pub kept : Keeps old new

-- how the call ends once these bytes were read
abbrev pub EndsJudged : List ℕ → Option (List ℕ) → Option (List ℕ) → Status → Type 0
EndsJudged bytes old new Done = IsWholeTrace bytes old new
EndsJudged bytes old new BadWords = ⊥
EndsJudged bytes old new ReadFault = ⊥
EndsJudged bytes old new TooLong = ⊥
EndsJudged bytes old new NotToml = ⊥
EndsJudged bytes old new (Rule rule) = ⊥
EndsJudged bytes old new (BootRefused fact) = ⊥
EndsJudged bytes old new WriteFault = IsCutTrace bytes old new
EndsJudged bytes old new (TraceRefused line why) = IsRefusedTrace bytes line why old new
EndsJudged bytes old new NoMemory = IsCutTrace bytes old new

-- the source was read to its end, and its bytes decide
pub record EndsAfterJudging (left still old new : Option (List ℕ)) (status : Status) : Type 0 where
  pub bytes : List ℕ
  pub read : HasRead trace_limit left still bytes
  pub ends : EndsJudged bytes old new status

-- how `check` ends: `left` and `still` are what the source had left before and after it, `old` and `new` what the sink held
abbrev pub EndsCheck : Option (List ℕ) → Option (List ℕ) → Option (List ℕ) → Option (List ℕ) → Status → Type 0
EndsCheck left still old new Done = EndsAfterJudging left still old new Done
EndsCheck left still old new BadWords = ⊥
EndsCheck left still old new ReadFault = HasReadWithin trace_limit left still × Keeps old new
EndsCheck left still old new TooLong = HasReadPast trace_limit left still × Keeps old new
EndsCheck left still old new NotToml = ⊥
EndsCheck left still old new (Rule rule) = ⊥
EndsCheck left still old new (BootRefused fact) = ⊥
EndsCheck left still old new WriteFault = EndsAfterJudging left still old new WriteFault
EndsCheck left still old new (TraceRefused line why) = EndsAfterJudging left still old new (TraceRefused line why)
EndsCheck left still old new NoMemory = Keeps old new ⊎ EndsAfterJudging left still old new NoMemory

-- a source that had just these bytes left, which are no more than the limit and the trace of a run
pub record HoldsTrace (left : Option (List ℕ)) : Type 0 where
  pub bytes : List ℕ
  pub known : left ≡ Some bytes
  pub within : length bytes ≤ trace_limit
  pub fault : fault_of bytes ≡ None
