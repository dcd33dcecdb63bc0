-- Kinds: what an agent of each kind tells of itself and has heard, and a place with an agent or without one.
use Rattle.std.specs.Prelude.{ℕ, List, Option, Some, None, get_or, map, slice_set}
use Rattle.hp_model.specs.declared.accesses.Access.{Access}
use Rattle.hp_model.specs.Voices as model
use Rattle.hp_agent.specs.Speaking.{Heard, heard_with}
use Rattle.hp_agent.specs.declared.kinds.Voice.{Voice}
use Rattle.hp_agent.specs.declared.kinds.Voice.TheVariants.{Script, Os, Pen, Seeded, Handed}

-- an agent of this crate tells its voice, and one that was handed in what it tells
abbrev pub own_voice : {A : Type 0} → (A → Option model.Voice) → Voice A → Option model.Voice
own_voice handed (Script s) = Some s.voice
own_voice handed (Os s) = Some s.voice
own_voice handed (Pen s) = Some s.voice
own_voice handed (Seeded s) = Some s.voice
own_voice handed (Handed a) = handed a

-- a place without an agent tells a voice that only halts
abbrev pub place_voice : {A : Type 0} → (A → Option model.Voice) → Option (Voice A) → Option model.Voice
place_voice handed None = Some model.silent
place_voice handed (Some v) = own_voice handed v

abbrev pub place_voices : {A : Type 0} → (A → Option model.Voice) → List (Option (Voice A)) → List (Option model.Voice)
place_voices handed places = map (place_voice handed) places

abbrev pub has_heard : {A : Type 0} → (A → Heard) → Voice A → Heard
has_heard handed (Script s) = s.heard
has_heard handed (Os s) = s.heard
has_heard handed (Pen s) = s.heard
has_heard handed (Seeded s) = s.heard
has_heard handed (Handed a) = handed a

-- where there is no agent, nobody hears
abbrev pub place_heard : {A : Type 0} → (A → Heard) → Option (Voice A) → Option Heard
place_heard handed None = None
place_heard handed (Some v) = Some (has_heard handed v)

abbrev pub all_heard : {A : Type 0} → (A → Heard) → List (Option (Voice A)) → List (Option Heard)
all_heard handed places = map (place_heard handed) places

-- of each place, what its agent tells, and what that agent has heard: None where there is no agent
pub record Places : Type 0 where
  pub voices : List (Option model.Voice)
  pub heard : List (Option Heard)

-- the agent in a place, if it is one, was asked this and said that
abbrev pub hears : Option Heard → model.Question → Access → Option Heard
hears None q access = None
hears (Some h) q access = Some (heard_with h q access)

-- no agent but that of this processor, and past the last place none
abbrev pub hears_at : List (Option Heard) → ℕ → model.Question → Access → List (Option Heard)
hears_at heard cpu q access = slice_set heard cpu (hears (get_or heard cpu None) q access)
