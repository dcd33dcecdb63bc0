-- Speaking: how an agent's answer goes with the voice that it tells of itself, and what it has heard.
use Rattle.std.specs.Prelude.{⊤, ◌≡◌, ℕ, List, [], ◌∷◌, ◌++◌, Option, Some, None}
use Rattle.hp_model.specs.declared.accesses.Access.{Access}
use Rattle.hp_model.specs.declared.accesses.Answer.{Answer}
use Rattle.hp_model.specs.Voices.{Voice, Question, says}

-- what an agent is asked
abbrev pub asked : ℕ → ℕ → Answer → Question
asked cpu page last = record { cpu = cpu; page = page; last = last }

-- an agent that tells a voice says what the voice says, and then tells what is left of it. One that tells none may say anything.
abbrev pub Speaks : Option Voice → Option Voice → Question → Access → Type 0
Speaks None new q access = ⊤
Speaks (Some v) new q access = (access ≡ (says v q).access) × (new ≡ Some (says v q).voice)

-- the questions that an agent was asked, in their order, each with what it said: processor, page and last answer, and the access
abbrev pub Heard : Type 0
Heard = List ((ℕ × ℕ × Answer) × Access)

-- one question more
abbrev pub heard_with : Heard → Question → Access → Heard
heard_with heard q access = heard ++ ((q.cpu, q.page, q.last), access) ∷ []

-- an agent of this crate: what is left of its voice, and what it has heard
pub record Speaker : Type 0 where
  pub voice : Voice
  pub heard : Heard

-- before its first question
abbrev pub fresh : Voice → Speaker
fresh v = record { voice = v; heard = [] }
