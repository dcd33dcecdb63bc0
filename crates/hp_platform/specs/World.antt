-- What contracts see of a world, and what a turn and an event make of it.
use Rattle.std.specs.Prelude.{◌≡◌, ◌≤◌, ℕ, Bool, ◌&&◌, nat_lt, ◌+◌, ◌-◌, ◌^◌, min, List, [], ◌∷◌, ◌++◌, length, take, Option, Some, None, IsSome, slice_index_or, slice_set, if◌then◌else◌}
use Rattle.hp_model.specs.declared.platforms.Platform.{Platform}
use Rattle.hp_model.specs.declared.accesses.Answer.{Answer}
use Rattle.hp_model.specs.declared.entries.Actor.{Actor}
use Rattle.hp_model.specs.declared.entries.Actor.TheVariants as actor
use Rattle.hp_model.specs.declared.entries.Event.{Event}
use Rattle.hp_model.specs.declared.entries.Entry.{Entry}
use Rattle.hp_model.specs.declared.turns.Due.{Due}
use Rattle.hp_model.specs.Boot.{is_handed}
use Rattle.hp_model.specs.Platform.{IsFit, count_of, is_late}
use Rattle.hp_model.specs.Runs.{address_of, run}
use Rattle.hp_model.specs.State.{State}
use Rattle.hp_model.specs.Step.{step}
use Rattle.hp_model.specs.Voices.{Voice}
use Rattle.hp_agent.specs.Speaking.{Heard}
use Rattle.hp_platform.specs.declared.worlds.Turn.{Turn}
use Rattle.hp_platform.specs.declared.worlds.Turn.TheVariants.{Made, Idle}
use Rattle.hp_platform.specs.Agents as agents
use Rattle.hp_platform.specs.Agents.{HasNone, IsGiven}
use Rattle.hp_platform.specs.Live.{Live}

pub record World : Type 0 where
  pub platform : Platform
  pub entries : List Entry  -- all steps that were made, in their order
  pub voices : List (Option Voice)  -- what the agent of each processor tells of itself
  pub heard : List (Option Heard)  -- all that the agent of each processor was asked, with what it said; None where there is no agent
  pub last : List Answer  -- of each processor, the answer to the last access that its agent was asked for
  pub asked : List ℕ  -- how many turns each processor had, as itself or as its SMI, and then how many the host
  pub idle : List (Option ℕ)  -- of each actor of a processor, how many entries there were at its last turn without a step after the hand-over

-- the place of an actor's count of turns; none where there is no such processor
abbrev pub asked_place : ℕ → Actor → Option ℕ
asked_place count (actor.Insert k) = Some count
asked_place count (actor.Remove k) = Some count
asked_place count (actor.Cpu k) = if nat_lt k count then Some k else None
asked_place count (actor.Smi k) = if nat_lt k count then Some k else None

-- how many actors the processors have: where SMIs may come late, each its own and that of its SMI
abbrev pub idle_places : Bool → ℕ → ℕ
idle_places late count = if late then count + count else count

-- the place of such an actor among them; the host has none, nor has an SMI that comes at once
abbrev pub idle_place : Bool → ℕ → Actor → Option ℕ
idle_place late count (actor.Insert k) = None
idle_place late count (actor.Remove k) = None
idle_place late count (actor.Cpu k) = if nat_lt k count then Some k else None
idle_place late count (actor.Smi k) = if late && nat_lt k count then Some (count + k) else None

abbrev pub idle_place_of : Platform → Actor → Option ℕ
idle_place_of p a = idle_place (is_late p.delivery) (count_of p) a

-- one turn more, but never past the greatest number of 8 bytes
abbrev pub one_more : ℕ → ℕ
one_more n = min (n + 1) (2 ^ 64 - 1)

abbrev pub counted_at : Option ℕ → List ℕ → List ℕ
counted_at None ns = ns
counted_at (Some place) ns = slice_set ns place (one_more (slice_index_or ns place 0))

abbrev pub counted : ℕ → Actor → List ℕ → List ℕ
counted count a ns = counted_at (asked_place count a) ns

abbrev pub turns_at : Option ℕ → List ℕ → ℕ
turns_at None ns = 0
turns_at (Some place) ns = slice_index_or ns place 0

-- how many turns an actor had
abbrev pub turns_of : ℕ → Actor → List ℕ → ℕ
turns_of count a ns = turns_at (asked_place count a) ns

abbrev pub agents_of : World → agents.Agents
agents_of w = record { voices = w.voices; heard = w.heard; last = w.last }

-- what a step leaves of the agents, by the world before it and the one after it
abbrev pub IsSaid : World → World → State → ℕ → Entry → Option ℕ → Type 0
IsSaid old new s k e ejected = agents.IsSaid (agents_of old) (agents_of new) s k e ejected

abbrev pub IsUnasked : World → World → Option ℕ → Type 0
IsUnasked old new ejected = agents.IsUnasked (agents_of old) (agents_of new) ejected

abbrev pub Says : Due → World → World → State → Entry → Option ℕ → Type 0
Says due old new s e ejected = agents.Says due (agents_of old) (agents_of new) s e ejected

abbrev pub IsStepOf : World → World → State → Actor → Entry → Type 0
IsStepOf old new s a e = agents.IsStepOf old.platform (agents_of old) (agents_of new) s a e

-- a turn that made this entry
pub record IsMade (old new : World) (a : Actor) (e : Entry) : Type 0 where
  pub entries : new.entries ≡ old.entries ++ e ∷ []
  pub is : (s : State) → run old.platform old.entries ≡ Some s → IsStepOf old new s a e
  pub asked : new.asked ≡ counted (count_of old.platform) a old.asked
  pub idle : new.idle ≡ old.idle

-- the idle turn of a processor's actor after the hand-over is noted
abbrev pub noted_at : Option ℕ → ℕ → List (Option ℕ) → List (Option ℕ)
noted_at None n idle = idle
noted_at (Some place) n idle = slice_set idle place (Some n)

abbrev pub noted : Bool → Option ℕ → ℕ → List (Option ℕ) → List (Option ℕ)
noted handed place n idle = if handed then noted_at place n idle else idle

-- a turn without a step
pub record IsIdle (old new : World) (a : Actor) : Type 0 where
  pub entries : new.entries ≡ old.entries
  pub none : (s : State) → run old.platform old.entries ≡ Some s → HasNone old.platform s a
  pub voices : new.voices ≡ old.voices
  pub heard : new.heard ≡ old.heard
  pub last : new.last ≡ old.last
  pub asked : new.asked ≡ counted (count_of old.platform) a old.asked
  pub idle : (s : State) → run old.platform old.entries ≡ Some s → new.idle ≡ noted (is_handed s.stage) (idle_place_of old.platform a) (length old.entries) old.idle

abbrev pub IsTurned : World → World → Actor → Turn → Type 0
IsTurned old new a (Made e) = IsMade old new a e
IsTurned old new a Idle = IsIdle old new a

-- an event that made this entry, a step of the model in the state that the entries before it lead to
pub record IsApplied (old new : World) (x : Event) (e : Entry) : Type 0 where
  pub entries : new.entries ≡ old.entries ++ e ∷ []
  pub event : e.event ≡ x
  pub address : (s : State) → run old.platform old.entries ≡ Some s → e.at ≡ address_of s x
  pub is : (s : State) → run old.platform old.entries ≡ Some s → IsGiven old.platform (agents_of old) (agents_of new) s x e.answer
  pub asked : new.asked ≡ old.asked
  pub idle : new.idle ≡ old.idle

-- the event is no step there
pub record IsRefused (old new : World) (x : Event) : Type 0 where
  pub none : (s : State) → run old.platform old.entries ≡ Some s → step old.platform s x ≡ None
  pub same : new ≡ old

abbrev pub Applies : World → World → Event → Option Entry → Type 0
Applies old new x (Some e) = IsApplied old new x e
Applies old new x None = IsRefused old new x

-- a number of entries after which an actor had no step
pub record WasIdle (p : Platform) (es : List Entry) (a : Actor) (n : ℕ) : Type 0 where
  pub within : n ≤ length es
  pub none : (s : State) → run p (take n es) ≡ Some s → HasNone p s a

-- there is a place for each count of turns and for each note, and each note is of an idle turn
pub record IsNoted (p : Platform) (es : List Entry) (asked : List ℕ) (notes : List (Option ℕ)) : Type 0 where
  pub counts : length asked ≡ count_of p + 1
  pub places : length notes ≡ idle_places (is_late p.delivery) (count_of p)
  pub was : (a : Actor) (i n : ℕ) → idle_place_of p a ≡ Some i → slice_index_or notes i None ≡ Some n → WasIdle p es a n

-- what a world keeps: its platform fits, its state is the one that its entries lead to, and its counts and notes are what they say
pub record IsKept (l : Live) (es : List Entry) (asked : List ℕ) (notes : List (Option ℕ)) : Type 0 where
  pub fit : IsFit l.platform
  pub replay : run l.platform es ≡ Some l.state
  pub noted : IsNoted l.platform es asked notes

-- what callers see of what is kept
pub record IsSound (w : World) : Type 0 where
  pub fit : IsFit w.platform
  pub run : IsSome (run w.platform w.entries)
  pub noted : IsNoted w.platform w.entries w.asked w.idle
