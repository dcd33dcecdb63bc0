-- Entries that follow voices: each access that a processor's voice was asked for is what that voice then says. The told voices alone are looked at:
-- of a processor whose agent tells none any access does.
use Rattle.std.specs.Prelude.{◌≡◌, ℕ, Bool, true, false, ◌&&◌, ◌==◌, List, [], ◌∷◌, Option, Some, None, get_or, slice_set}
use Rattle.hp_model.specs.declared.platforms.Platform.{Platform}
use Rattle.hp_model.specs.declared.accesses.Access.{Access}
use Rattle.hp_model.specs.declared.accesses.Answer.{Answer}
use Rattle.hp_model.specs.declared.entries.Event.{Event}
use Rattle.hp_model.specs.declared.entries.Event.TheVariants.{Insert, Remove, Do, TakeSmi, TakeInit, Resume, Tell}
use Rattle.hp_model.specs.declared.entries.Entry.{Entry}
use Rattle.hp_model.specs.declared.turns.Due.{Due}
use Rattle.hp_model.specs.declared.turns.Due.TheVariants.{Idle, Makes, Asks}
use Rattle.hp_model.specs.Block.{ejected_by}
use Rattle.hp_model.specs.Platform.{is_late}
use Rattle.hp_model.specs.Runs.{actor_of}
use Rattle.hp_model.specs.Schedule.{question_in}
use Rattle.hp_model.specs.State.{State}
use Rattle.hp_model.specs.Access.{normal, same_access}
use Rattle.hp_model.specs.Step.{after}
use Rattle.hp_model.specs.Turn.{due_of}
use Rattle.hp_model.specs.Voices.{Voice, Question, silent, says}

-- the machine between two entries, what is left of each voice that is told, and of each processor the answer to the last access that it was asked for
pub record Carried : Type 0 where
  pub state : State
  pub voices : List (Option Voice)
  pub last : List Answer

-- what the place of a processor tells; past the last place as where there is no agent
abbrev pub voice_told : List (Option Voice) → ℕ → Option Voice
voice_told places cpu = get_or places cpu (Some silent)

abbrev pub question_at : Carried → ℕ → Question
question_at c k = question_in c.state k c.last

-- an event that is this access of this processor
abbrev pub does_that : Event → ℕ → Access → Bool
does_that (Insert j) k b = false
does_that (Remove j) k b = false
does_that (Do j a) k b = (j == k) && same_access a b
does_that (TakeSmi j) k b = false
does_that (TakeInit j) k b = false
does_that (Resume j) k b = false
does_that (Tell o) k b = false

-- a voice that is told says this event, as the machine takes it; one that isn't told may say anything
abbrev pub is_said : Option Voice → Question → ℕ → Event → Bool
is_said None q k x = true
is_said (Some v) q k x = does_that x k (normal (says v q).access)

abbrev pub left_of : Option Voice → Question → Option Voice
left_of None q = None
left_of (Some v) q = Some (says v q).voice

-- where a voice was asked, it says this event
abbrev pub follows_by : Due → Carried → Event → Bool
follows_by Idle c x = true
follows_by (Makes e) c x = true
follows_by (Asks k) c x = is_said (voice_told c.voices k) (question_at c k) k x

abbrev pub voices_by : Due → Carried → List (Option Voice)
voices_by Idle c = c.voices
voices_by (Makes e) c = c.voices
voices_by (Asks k) c = slice_set c.voices k (left_of (voice_told c.voices k) (question_at c k))

abbrev pub last_by : Due → Answer → List Answer → List Answer
last_by Idle answer last = last
last_by (Makes e) answer last = last
last_by (Asks k) answer last = slice_set last k answer

-- an ejected processor has no agent: its place says halts alone
abbrev pub without_agent : Option ℕ → List (Option Voice) → List (Option Voice)
without_agent None vs = vs
without_agent (Some k) vs = slice_set vs k (Some silent)

-- what was due of the actor that an entry belongs to
abbrev pub due_at : Platform → Carried → Entry → Due
due_at p c e = due_of p c.state (actor_of (is_late p.delivery) e.event)

-- what an entry leaves
abbrev pub carried : Platform → Carried → Entry → Carried
carried p c e =
    let next = (after p c.state e.event).state in
    let due = due_at p c e in
    record { state = next; voices = without_agent (ejected_by c.state.block next.block) (voices_by due c); last = last_by due e.answer c.last }

unfoldable pub carried_all : Platform → Carried → List Entry → Carried
carried_all p c [] = c
carried_all p c (e ∷ es) = carried_all p (carried p c e) es

-- each entry, from here on, is what its voice says, where one was asked that is told
unfoldable pub follows : Platform → Carried → List Entry → Bool
follows p c [] = true
follows p c (e ∷ es) = follows_by (due_at p c e) c e.event && follows p (carried p c e) es

abbrev pub Follows : Platform → Carried → List Entry → Type 0
Follows p c es = follows p c es ≡ true
