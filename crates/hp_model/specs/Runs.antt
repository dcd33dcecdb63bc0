-- Runs: entries, one step each, with the answer and the instruction address that the step has.
use Rattle.std.specs.Prelude.{◌≡◌, ◌⊎◌, ℕ, Bool, true, false, ◌&&◌, ◌==◌, List, [], ◌∷◌, Option, Some, None, option_and_then, if◌then◌else◌}
use Rattle.hp_model.specs.declared.platforms.Platform.{Platform}
use Rattle.hp_model.specs.declared.accesses.Answer.{Answer}
use Rattle.hp_model.specs.declared.accesses.Answer.TheVariants.{Quiet, Value}
use Rattle.hp_model.specs.declared.entries.Actor.{Actor}
use Rattle.hp_model.specs.declared.entries.Actor.TheVariants as actor
use Rattle.hp_model.specs.declared.entries.Event.{Event}
use Rattle.hp_model.specs.declared.entries.Event.TheVariants.{Insert, Remove, Do, TakeSmi, TakeInit, Resume, Tell}
use Rattle.hp_model.specs.declared.entries.Entry.{Entry}
use Rattle.hp_model.specs.Cpu.{smm_address}
use Rattle.hp_model.specs.State.{State, at, start}
use Rattle.hp_model.specs.Step.{After, step}

abbrev pub same_answer : Answer → Answer → Bool
same_answer Quiet Quiet = true
same_answer Quiet (Value v) = false
same_answer (Value v) Quiet = false
same_answer (Value v) (Value w) = v == w

abbrev pub same_address : Option ℕ → Option ℕ → Bool
same_address None None = true
same_address None (Some y) = false
same_address (Some x) None = false
same_address (Some x) (Some y) = x == y

-- whose entry an event is: an outcome is told by processor 0, and a latched SMI that may come late is an actor of its own (own rule)
abbrev pub actor_of : Bool → Event → Actor
actor_of late (Insert k) = actor.Insert k
actor_of late (Remove k) = actor.Remove k
actor_of late (Do k a) = actor.Cpu k
actor_of late (TakeSmi k) = if late then actor.Smi k else actor.Cpu k
actor_of late (TakeInit k) = actor.Cpu k
actor_of late (Resume k) = actor.Cpu k
actor_of late (Tell o) = actor.Cpu 0

-- whether it is a step of this actor: the taking of a latched SMI is one of the SMI, and at once one of its processor too
abbrev pub IsStepBy : Bool → Actor → Event → Type 0
IsStepBy late a e = (actor_of late e ≡ a) ⊎ ((k : ℕ) × (a ≡ actor.Smi k) × (e ≡ TakeSmi k))

-- the instruction address that the actor has before the step
abbrev pub address_of : State → Event → Option ℕ
address_of s (Insert k) = None
address_of s (Remove k) = None
address_of s (Do k a) = smm_address (at s k)
address_of s (TakeSmi k) = smm_address (at s k)
address_of s (TakeInit k) = smm_address (at s k)
address_of s (Resume k) = smm_address (at s k)
address_of s (Tell o) = smm_address (at s 0)

-- the entry has the step's answer and address
abbrev pub accept : Entry → Option ℕ → After → Option State
accept e address a = if same_answer a.answer e.answer && same_address address e.at then Some a.state else None

unfoldable pub run_on : Platform → State → Entry → Option State
run_on p s e = option_and_then (accept e (address_of s e.event)) (step p s e.event)

unfoldable pub run_from : Platform → State → List Entry → Option State
run_from p s [] = Some s
run_from p s (e ∷ es) = option_and_then (λ t. run_from p t es) (run_on p s e)

-- the state that the entries lead to; none where they are no run
unfoldable pub run : Platform → List Entry → Option State
run p es = run_from p (start p) es
