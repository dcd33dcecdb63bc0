-- What a turn makes of a machine at work: where all agents tell their voices what the schedule makes of these, and else what it makes of voices that agree
-- with what is told.
use Rattle.std.specs.Prelude.{◌≡◌, ℕ, List, [], ◌∷◌, map, Some}
use Rattle.hp_model.specs.declared.entries.Entry.{Entry}
use Rattle.hp_model.specs.Following.{Carried, voice_told}
use Rattle.hp_model.specs.Schedule.{Scene, Made as Scheduled}
use Rattle.hp_model.specs.Voices.{Voice, Agree}
use Rattle.hp_platform.specs.declared.worlds.Turn.{Turn}
use Rattle.hp_platform.specs.declared.worlds.Turn.TheVariants.{Made, Idle}
use Rattle.hp_platform.specs.Live.{Live}

abbrev pub entries_in : Turn → List Entry
entries_in (Made e) = e ∷ []
entries_in Idle = []

-- all agents tell their voices: then the machine stands for a scene of the schedule
pub record StandsFor (l : Live) (scene : Scene) : Type 0 where
  pub state : l.state ≡ scene.state
  pub voices : l.voices ≡ map (λ v. Some v) scene.voices
  pub last : l.last ≡ scene.last

-- a turn made these entries, and then the machine stands for this scene
pub record Acts (l : Live) (m : Scheduled) (turn : Turn) : Type 0 where
  pub entries : m.entries ≡ entries_in turn
  pub scene : StandsFor l m.scene

-- The machine stands for what is carried: it is in that state, and it tells the voices that are. An agent of which none is carried may tell one.
pub record Carries (l : Live) (c : Carried) : Type 0 where
  pub state : l.state ≡ c.state
  pub voices : (k : ℕ) (v : Voice) → voice_told c.voices k ≡ Some v → voice_told l.voices k ≡ Some v
  pub last : l.last ≡ c.last

-- a scene that agrees with what is carried: where a voice is told it has that one, and else a script
pub record AgreesWith (c : Carried) (scene : Scene) : Type 0 where
  pub state : scene.state ≡ c.state
  pub voices : Agree c.voices scene.voices
  pub last : scene.last ≡ c.last

-- a scene that agrees, of which a part of the schedule makes these entries and leaves that scene
pub record IsMadeOf (c : Carried) (part : Scene → Scheduled) (es : List Entry) (left : Scene) : Type 0 where
  pub scene : Scene
  pub agrees : AgreesWith c scene
  pub entries : (part scene).entries ≡ es
  pub leaves : (part scene).scene ≡ left

-- These entries lead on as a part of the schedule does: whichever voices agree with what is carried after them, with some that agree with what was
-- carried before the part makes these entries and leaves those.
pub record Leads (c : Carried) (part : Scene → Scheduled) (es : List Entry) (left : Carried) : Type 0 where
  pub made : (scene : Scene) → AgreesWith left scene → IsMadeOf c part es scene

-- a turn made these entries, as a part of the schedule does, and what the machine then stands for
pub record ActsAs (l : Live) (c : Carried) (part : Scene → Scheduled) (turn : Turn) : Type 0 where
  pub left : Carried
  pub leads : Leads c part (entries_in turn) left
  pub carries : Carries l left
