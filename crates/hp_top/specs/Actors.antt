-- The actors of a file's turns, one after another.
use Rattle.std.specs.Prelude.{◌≡◌, ℕ, zero, suc, ◌+◌, ◌-◌, ◌<◌, nat_lt, List, [], ◌++◌, if◌then◌else◌}
use Rattle.hp_model.specs.declared.entries.Actor.{Actor}
use Rattle.hp_model.specs.declared.files.File.{File}
use Rattle.hp_model.specs.declared.files.HostEvent.{HostEvent}
use Rattle.hp_model.specs.Platform.{IsFit}
use Rattle.hp_model.specs.Schedule.{actors_of, cpus_of, hosts_of}
use Rattle.hp_top.specs.Stalls.{IsTracking, Stalled}
use Rattle.hp_top.specs.Turns.{Rises, at_turn, due, turn_of}

-- those of so many turns, from this one on
unfoldable pub actors_from : File → ℕ → ℕ → List Actor
actors_from f zero turn = []
actors_from f (suc n) turn = actors_of f turn ++ actors_from f n (turn + 1)

-- where a run stands in a turn: the host's events that are left, and the stalls
pub record Actors : Type 0 where
  pub file : File
  pub hosts : List HostEvent
  pub stalled : Stalled
  pub turn : ℕ

-- those that are still to come: of the turn the host's that are left and the processor's, and those of the turns after it
abbrev pub to_come : Actors → List Actor
to_come s =
    if nat_lt s.turn s.file.platform.turns
    then due s.turn s.hosts ++ (cpus_of s.file s.turn ++ actors_from s.file (s.file.platform.turns - (s.turn + 1)) (s.turn + 1))
    else []

-- what is left says of the turns from this one on what the file says
pub record IsAhead (s : Actors) : Type 0 where
  pub fit : IsFit s.file.platform
  pub tracks : IsTracking s.file s.turn s.stalled
  pub rises : Rises turn_of s.turn s.hosts
  pub later : (t : ℕ) → s.turn < t → at_turn t s.hosts ≡ hosts_of s.file t
