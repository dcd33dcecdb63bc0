-- Where the operating system's program stands, as the code keeps it: a point, a processor, and those found so far.
use Rattle.std.specs.Prelude.{◌<◌, ◌≤◌, ℕ, List, ◌++◌, length, drop, vec_capacity}
use Rattle.hp_model.specs.declared.accesses.Access.{Access}
use Rattle.hp_model.specs.OsProgram.{OsPoint, polls, polled, scans, selected, commanded, looked, judged, acts, removes, starts, to_do}
use Rattle.hp_model.specs.Voices.{Voice, Said, os}
use Rattle.hp_agent.specs.declared.programs.Acting.{Acting}
use Rattle.hp_agent.specs.declared.programs.Acting.TheVariants.{Announces, Starts, Removes}
use Rattle.hp_agent.specs.declared.programs.Point.{Point}
use Rattle.hp_agent.specs.declared.programs.Point.TheVariants as point
use Rattle.hp_agent.specs.declared.programs.Program.{Program}

-- what is left to do: so many are done, and of the next one so many accesses
abbrev pub left_to_do : List ℕ → List ℕ → List ℕ → Acting → List Access
left_to_do halves inserts removals Announces = to_do halves inserts removals
left_to_do halves inserts removals (Starts item done) = drop done (starts halves (drop item inserts)) ++ removes removals
left_to_do halves inserts removals (Removes item done) = drop done (removes (drop item removals))

abbrev pub point_at : List ℕ → ℕ → List ℕ → List ℕ → Point → OsPoint
point_at halves cpu inserts removals point.Polls = polls
point_at halves cpu inserts removals point.Polled = polled
point_at halves cpu inserts removals point.Scans = scans cpu inserts removals
point_at halves cpu inserts removals point.Selected = selected cpu inserts removals
point_at halves cpu inserts removals point.Commanded = commanded cpu inserts removals
point_at halves cpu inserts removals point.Looked = looked cpu inserts removals
point_at halves cpu inserts removals point.Judged = judged cpu inserts removals
point_at halves cpu inserts removals (point.Acts at) = acts (left_to_do halves inserts removals at)

abbrev pub point_in : Program → OsPoint
point_in p = point_at p.halves.items p.cpu p.inserts.items p.removals.items p.point

abbrev pub voice_in : Program → Voice
voice_in p = os p.halves.items (point_in p)

-- what it says, and where it then stands
abbrev pub said_by : Access → Program → Said
said_by access p = record { access = access; voice = voice_in p }

abbrev pub left_in : Program → Acting → List Access
left_in p at = left_to_do p.halves.items p.inserts.items p.removals.items at

-- of the processor that is being started or ejected some access is left
abbrev pub IsStep : Acting → Type 0
IsStep Announces = Unit {0}
IsStep (Starts item done) = done < 15
IsStep (Removes item done) = done < 4

-- a processor that was found is possible
abbrev pub IsAt : Point → ℕ → ℕ → Type 0
IsAt point.Polls cpu count = Unit {0}
IsAt point.Polled cpu count = Unit {0}
IsAt point.Scans cpu count = Unit {0}
IsAt point.Selected cpu count = Unit {0}
IsAt point.Commanded cpu count = Unit {0}
IsAt point.Looked cpu count = Unit {0}
IsAt point.Judged cpu count = cpu < count
IsAt (point.Acts at) cpu count = IsStep at

-- of each list there is room for all processors, and no more were found than were passed
pub record IsSound (p : Program) : Type 0 where
  pub few : length p.halves.items ≤ 512
  pub reached : p.cpu ≤ length p.halves.items
  pub at : IsAt p.point p.cpu (length p.halves.items)
  pub inserts : length p.inserts.items ≤ p.cpu
  pub removals : length p.removals.items ≤ p.cpu
  pub room_to_start : length p.halves.items ≤ vec_capacity p.inserts
  pub room_to_eject : length p.halves.items ≤ vec_capacity p.removals
