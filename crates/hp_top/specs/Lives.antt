-- What a machine stands for, and what a turn of it makes.
use Rattle.std.specs.Prelude.{◌≡◌}
use Rattle.hp_model.specs.declared.platforms.Platform.{Platform}
use Rattle.hp_model.specs.Following.{Carried}
use Rattle.hp_model.specs.Schedule.{Scene, Made}
use Rattle.hp_platform.specs.declared.worlds.Turn.{Turn}
use Rattle.hp_platform.specs.Carrying.{ActsAs, Carries}
use Rattle.hp_platform.specs.Live.{Live}

-- the machine is of this platform, and stands for what is carried
pub record StandsFor (p : Platform) (live : Live) (c : Carried) : Type 0 where
  pub platform : live.platform ≡ p
  pub carries : Carries live c

-- a turn made entries as this part of the schedule does; after it the machine is of this platform
pub record Takes (p : Platform) (live : Live) (c : Carried) (part : Scene → Made) (turn : Turn) : Type 0 where
  pub platform : live.platform ≡ p
  pub acts : ActsAs live c part turn
