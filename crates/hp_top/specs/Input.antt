-- What the top call reads of its input.
use Rattle.std.specs.Prelude.{◌≡◌, ℕ, ◌+◌, ◌≤◌, List, length, Option}
use Rattle.std.specs.Io.KnownBytes.{Consumes, IsAtEnd}
use Rattle.hp_top.specs.declared.reading.ReadStop.{ReadStop}
use Rattle.hp_top.specs.declared.reading.ReadStop.TheVariants.{ReadFault, TooLong, NoMemory}
use Rattle.hp_top.specs.Faults.{Rose}

-- how many bytes a platform file may have: 1 MiB
abbrev pub limit : ℕ
limit = 1048576

-- and a trace: 64 MiB
abbrev pub trace_limit : ℕ
trace_limit = 67108864

-- the source was read to its end, and gave these bytes, so many at most
pub record HasRead (most : ℕ) (old new : Option (List ℕ)) (bytes : List ℕ) : Type 0 where
  pub consumed : Consumes old new bytes
  pub ended : IsAtEnd new
  pub within : length bytes ≤ most

-- the byte after the limit was read, and none behind it
pub record HasReadPast (most : ℕ) (old new : Option (List ℕ)) : Type 0 where
  pub bytes : List ℕ
  pub consumed : Consumes old new bytes
  pub past : length bytes ≡ most + 1

-- no byte past the limit was read
pub record HasReadWithin (most : ℕ) (old new : Option (List ℕ)) : Type 0 where
  pub bytes : List ℕ
  pub consumed : Consumes old new bytes
  pub within : length bytes ≤ most

abbrev pub StopsReading : ℕ → Option (List ℕ) → Option (List ℕ) → ℕ → ℕ → ReadStop → Type 0
StopsReading most old new before now ReadFault = Rose before now × HasReadWithin most old new
StopsReading most old new before now TooLong = HasReadPast most old new
StopsReading most old new before now NoMemory = Unit {0}

-- the count of faults stays, but after a fault
abbrev pub StaysReading : ℕ → ℕ → ReadStop → Type 0
StaysReading before now ReadFault = Unit {0}
StaysReading before now TooLong = now ≡ before
StaysReading before now NoMemory = now ≡ before
