-- Counts of faults: what a call may say of the outside's failures.
use Rattle.std.specs.Prelude.{◌≡◌, ℕ, Bool, true, false, ◌+◌, ◌-◌, ◌^◌, ◌≤◌, min, Result, Ok, Err, OnErr, OnOk}
use Rattle.hp_top.specs.declared.outside.WriteStop.{WriteStop}
use Rattle.hp_top.specs.declared.outside.WriteStop.TheVariants.{Failed, NoMemory}

-- a count after one fault more; it stands still at its type's end
abbrev pub count_up : ℕ → ℕ
count_up before = min (before + 1) (2 ^ 64 - 1)

-- a count rose in a call: it is greater after it, or stands at its last value
abbrev pub Rose : ℕ → ℕ → Type 0
Rose before now = count_up before ≤ now

-- the count never falls; a failure comes only where it rose, and where there is none it stays
pub record HasCause {T E : Type 0} (before now : ℕ) (result : Result T E) : Type 0 where
  pub later : before ≤ now
  pub failed : OnErr result (Rose before now)
  pub calm : OnOk result (now ≡ before)

-- the same for a sink, whose want of memory is no failure of the outside
abbrev pub RoseAt : ℕ → ℕ → WriteStop → Type 0
RoseAt before now Failed = Rose before now
RoseAt before now NoMemory = Unit {0}

abbrev pub RoseIfFailed : {T : Type 0} → ℕ → ℕ → Result T WriteStop → Type 0
RoseIfFailed before now (Ok done) = Unit {0}
RoseIfFailed before now (Err stop) = RoseAt before now stop

-- after anything but a failure of the outside it stays
abbrev pub StaysAt : ℕ → ℕ → WriteStop → Type 0
StaysAt before now Failed = Unit {0}
StaysAt before now NoMemory = now ≡ before

abbrev pub StaysUnlessFailed : {T : Type 0} → ℕ → ℕ → Result T WriteStop → Type 0
StaysUnlessFailed before now (Ok done) = now ≡ before
StaysUnlessFailed before now (Err stop) = StaysAt before now stop

pub record StopsFor {T : Type 0} (before now : ℕ) (result : Result T WriteStop) : Type 0 where
  pub later : before ≤ now
  pub failed : RoseIfFailed before now result
  pub calm : StaysUnlessFailed before now result

-- the write failed by the outside, and not for memory
abbrev pub is_failure : WriteStop → Bool
is_failure Failed = true
is_failure NoMemory = false

abbrev pub is_failed : {T : Type 0} → Result T WriteStop → Bool
is_failed (Ok done) = false
is_failed (Err stop) = is_failure stop
