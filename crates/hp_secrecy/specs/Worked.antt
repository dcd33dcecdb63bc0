-- Two runs of one platform whose processor 1 is in SMM, in one of them a store further.
use Rattle.std.specs.Prelude.{ℕ, true, false, List, [], ◌∷◌, ◌++◌, map, Option, Some, option_map, option_and_then}
use Rattle.std.specs.Option.{unwrap_or}
use Rattle.hp_model.specs.declared.platforms.Platform.{Platform}
use Rattle.hp_model.specs.declared.platforms.Delivery.TheVariants.{Prompt}
use Rattle.hp_model.specs.declared.accesses.Access.TheVariants.{Load, Store, Icr}
use Rattle.hp_model.specs.declared.accesses.Answer.{Answer}
use Rattle.hp_model.specs.declared.entries.Event.{Event}
use Rattle.hp_model.specs.declared.entries.Event.TheVariants.{Do, TakeSmi}
use Rattle.hp_model.specs.Boot.{boot_accesses}
use Rattle.hp_model.specs.State.{State, start}
use Rattle.hp_model.specs.Step.{step}

-- the state that these events lead to; none where one is no step
abbrev pub after_events : Platform → Option State → List Event → Option State
after_events p s [] = s
after_events p s (e ∷ es) = after_events p (option_map (λ a. a.state) (option_and_then (λ t. step p t e) s)) es

-- two boot processors, TSEG at 7f00000
abbrev pub two : Platform
two = record { apic = 0 ∷ 1 ∷ []; boot = 0 ∷ 1 ∷ []; low_memory = 0x8000000; tseg_mib = 1; features = 7; polls = 4; turns = 0; modern = true; default_smram = true; delivery = Prompt; x2apic = false; ext_tseg = false }

-- the boot; then processor 0 sends processor 1 an SMI
unfoldable pub entering : List Event
entering = map (Do 0) (boot_accesses 1 7) ++ Do 0 (Icr 0x1000000 0x200) ∷ TakeSmi 1 ∷ []

-- which tells in locked memory that it has arrived
abbrev pub arrives : Event
arrives = Do 1 (Store 0x7f00001 1 1)

unfoldable pub entered : Option State
entered = after_events two (Some (start two)) entering

unfoldable pub arrived : Option State
arrived = after_events two entered (arrives ∷ [])

-- and the boot alone, and with a store to memory that isn't locked
unfoldable pub handed_over : Option State
handed_over = after_events two (Some (start two)) (map (Do 0) (boot_accesses 1 7))

unfoldable pub stored_outside : Option State
stored_outside = after_events two handed_over (Do 0 (Store 0x2000 1 1) ∷ [])

abbrev pub state_in : Option State → State
state_in o = unwrap_or o (start two)

-- what an event is answered there
abbrev pub answer_in : Option State → Event → Option Answer
answer_in o e = option_map (λ a. a.answer) (option_and_then (λ s. step two s e) o)
