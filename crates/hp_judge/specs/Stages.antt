-- What contracts see of a stage of the code, and of what a line comes to there.
use Rattle.std.specs.Prelude.{◌≡◌, ℕ, ◌+◌, ◌<◌, ◌^◌, false, List, [], ◌∷◌, Option, Some, None, Result, Ok, Err}
use Rattle.hp_check.specs.Walk.{Walk}
use Rattle.hp_reading.specs.Fault.{Fault}
use Rattle.hp_judge.specs.declared.refusals.Refusal.{Refusal}
use Rattle.hp_judge.specs.declared.refusals.Why.{Why}
use Rattle.hp_judge.specs.declared.stages.Stage.{Stage}
use Rattle.hp_judge.specs.declared.stages.Stage.TheVariants.{Heading, Going, Ended, Refused}
use Rattle.hp_judge.specs.declared.stages.Told.{Told}
use Rattle.hp_judge.specs.declared.stages.Told.TheVariants as told
use Rattle.hp_judge.specs.Bytes.{Judged, nothing_judged, after_bytes}
use Rattle.hp_judge.specs.Judging.{cause_of, fault_told}
use Rattle.hp_judge.specs.Standing.{Standing, heading, going, ended, refused, refusing, after_line}

abbrev pub standing : Stage → Standing
standing Heading = heading
standing (Going w n) = going w.platform w.state n
standing (Ended n) = ended n
standing (Refused r) = refused (fault_told r)

-- the number of the line behind so many entries has 64 bits
abbrev pub IsCounted : ℕ → Type 0
IsCounted n = n + 2 < 2 ^ 64

-- a walk that goes on
pub record IsGoing (w : Walk) (n : ℕ) : Type 0 where
  pub going : w.stopped ≡ false
  pub counted : IsCounted n

abbrev pub IsHeld : Stage → Type 0
IsHeld Heading = Unit {0}
IsHeld (Going w n) = IsGoing w n
IsHeld (Ended n) = IsCounted n
IsHeld (Refused r) = Unit {0}

-- the end line of so many entries, or why it is none
abbrev pub end_by : ℕ → Option Why → Standing
end_by n None = ended n
end_by n (Some why) = refusing (n + 2) (cause_of why)

-- an entry that was a step
pub record HasGone (old new : Walk) (n : ℕ) (line : List ℕ) : Type 0 where
  pub led : after_line (going old.platform old.state n) line ≡ going new.platform new.state (n + 1)
  pub held : IsGoing new (n + 1)

-- what a line behind a header and so many entries comes to
abbrev pub Tells : Walk → Walk → ℕ → List ℕ → Told → Type 0
Tells old new n line told.Step = HasGone old new n line
Tells old new n line told.Last = after_line (going old.platform old.state n) line ≡ ended n
Tells old new n line (told.Fault why) = after_line (going old.platform old.state n) line ≡ refusing (n + 2) (cause_of why)

abbrev pub judged : Stage → List ℕ → Judged
judged stage rest = record { standing = standing stage; rest = rest }

-- the stage and the bytes behind it are what this text leads to
pub record IsJudging (text : List ℕ) (stage : Stage) (rest : List ℕ) : Type 0 where
  pub held : IsHeld stage
  pub led : after_bytes nothing_judged text ≡ judged stage rest

-- a verdict with its refusal
abbrev pub told_by : Result ℕ Refusal → Result ℕ Fault
told_by (Ok entries) = Ok entries
told_by (Err r) = Err (fault_told r)

-- the bytes of a history that holds nothing else
abbrev pub text_of : List (ℕ × Unit {0}) → List ℕ
text_of [] = []
text_of (x ∷ xs) = x.0 ∷ text_of xs
