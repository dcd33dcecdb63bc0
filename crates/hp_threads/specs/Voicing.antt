-- A world beside what is carried of its voices and last answers.
use Rattle.std.specs.Prelude.{◌≡◌, ℕ, Some}
use Rattle.hp_model.specs.declared.platforms.Platform.{Platform}
use Rattle.hp_model.specs.Following.{Carried, voice_told}
use Rattle.hp_model.specs.Runs.{run}
use Rattle.hp_model.specs.State.{State}
use Rattle.hp_model.specs.Voices.{Voice}
use Rattle.hp_platform.specs.World.{World}

-- what is carried on from a world, in the state that its entries lead to
abbrev pub carried_from : World → State → Carried
carried_from w s = record { state = s; voices = w.voices; last = w.last }

-- The entries lead to the state that is carried, the last answers are those carried, and so are the voices where they are told: an agent of which none
-- is carried may tell one.
pub record IsCarried (p : Platform) (c : Carried) (w : World) : Type 0 where
  pub run : run p w.entries ≡ Some c.state
  pub voices : (k : ℕ) (v : Voice) → voice_told c.voices k ≡ Some v → voice_told w.voices k ≡ Some v
  pub last : w.last ≡ c.last
