-- Answers that fit an access, a value that its width holds, or none; and those that fit what a handler wants.
use Rattle.std.specs.Prelude.{ℕ, ◌<◌, ◌^◌, Option, Some, None}
use Rattle.hp_model.specs.declared.accesses.Access.{Access}
use Rattle.hp_model.specs.declared.accesses.Access.TheVariants.{Load, Store, Swap, In, Out, CfgRead, CfgWrite, Icr, Halt, Nop}
use Rattle.hp_model.specs.declared.accesses.Answer.{Answer}
use Rattle.hp_model.specs.declared.accesses.Answer.TheVariants.{Quiet, Value}
use Rattle.hp_model.specs.declared.accesses.Want.{Want}
use Rattle.hp_model.specs.declared.accesses.Want.TheVariants as want

abbrev pub IsQuiet : Answer → Type 0
IsQuiet Quiet = Unit {0}
IsQuiet (Value v) = ⊥

-- a value of so many bytes
abbrev pub IsValue : ℕ → Answer → Type 0
IsValue width Quiet = ⊥
IsValue width (Value v) = v < 256 ^ width

-- a load, a port read, a configuration read and a compare and exchange have a value; all else is quiet
abbrev pub FitsAccess : Access → Answer → Type 0
FitsAccess (Load addr width) answer = IsValue width answer
FitsAccess (Store addr width value) answer = IsQuiet answer
FitsAccess (Swap addr expected desired) answer = IsValue 8 answer
FitsAccess (In port width) answer = IsValue width answer
FitsAccess (Out port width value) answer = IsQuiet answer
FitsAccess (CfgRead reg) answer = IsValue 1 answer
FitsAccess (CfgWrite reg value) answer = IsQuiet answer
FitsAccess (Icr high low) answer = IsQuiet answer
FitsAccess Halt answer = IsQuiet answer
FitsAccess Nop answer = IsQuiet answer

-- an access has its answer; what is told and RSM have none that says anything; where nothing is wanted no answer fits
abbrev pub FitsWant : Option Want → Answer → Type 0
FitsWant None answer = ⊥
FitsWant (Some (want.Do a)) answer = FitsAccess a answer
FitsWant (Some (want.Tell o)) answer = IsQuiet answer
FitsWant (Some want.Resume) answer = IsQuiet answer
