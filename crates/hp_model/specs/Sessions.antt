-- Sessions of the monarch, read from the entries of a run, newest first (own rules): their reports, what was told, and what a report goes by.
use Rattle.std.specs.Prelude.{ℕ, Bool, true, false, ◌&&◌, ◌||◌, not, List, [], ◌∷◌, ◌++◌, length, Option, Some, None, option_map, slice_get, if◌then◌else◌}
use Rattle.std.specs.List.{list_any}
use Rattle.std.specs.Option.{is_some, unwrap_or}
use Rattle.hp_model.specs.declared.platforms.Platform.{Platform}
use Rattle.hp_model.specs.declared.accesses.Access.{Access}
use Rattle.hp_model.specs.declared.accesses.Access.TheVariants.{Load}
use Rattle.hp_model.specs.declared.labels.Label.{Label}
use Rattle.hp_model.specs.declared.labels.Label.TheVariants.{S2, C1, C2, C3, C4, C5, C6, NB, E5}
use Rattle.hp_model.specs.declared.outcomes.Outcome.{Outcome}
use Rattle.hp_model.specs.declared.entries.Event.{Event}
use Rattle.hp_model.specs.declared.entries.Entry.{Entry}
use Rattle.hp_model.specs.Boot.{value_in}
use Rattle.hp_model.specs.SharedBytes.{layout_of, arrived_byte}
use Rattle.hp_model.specs.Slots.{slot_among}
use Rattle.hp_model.specs.declared.reports.Report.{Report}
use Rattle.hp_model.specs.declared.reports.Facts.{Facts}
use Rattle.hp_model.specs.declared.reports.Decision.{Decision}
use Rattle.hp_model.specs.Monarch.{decision, is_own}
use Rattle.hp_model.specs.State.{State}
use Rattle.hp_model.specs.Ports.{writes_block}
use Rattle.hp_model.specs.Access.{same_access}
use Rattle.hp_model.specs.Events.{access_in, outcome_in, is_access_of, is_entry_of, is_resume_of}
use Rattle.hp_model.specs.Transitions.{since, newest}
use Rattle.hp_model.specs.Account.{is_at, bound, is_known, left_held}

-- processor 0 enters SMM, or leaves it
abbrev pub bounds_session : Entry → Bool
bounds_session e = is_entry_of 0 e.event || is_resume_of 0 e.event

-- a session: the entries since processor 0 entered SMM; between sessions, those since it left
abbrev pub session : List Entry → List Entry
session es = since bounds_session es

abbrev pub was_at : Platform → Label → List Entry → Bool
was_at p l es = list_any (is_at p l) es

-- the value of the newest answer at a label; 0 where there is none
abbrev pub value_by : Option Entry → ℕ
value_by None = 0
value_by (Some e) = value_in e.answer

abbrev pub last_value : Platform → Label → List Entry → ℕ
last_value p l es = value_by (newest (is_at p l) es)

-- the triple that an entry at C6 makes: c is the last answer at C3, the status the last one at C4, the APIC ID its own answer
abbrev pub triple_by : Platform → List Entry → Entry → Report
triple_by p older e = record { cpu = last_value p C3 older; status = last_value p C4 older; apic = value_in e.answer }

-- the triples of a session, in the order in which they were made
unfoldable pub triples : Platform → List Entry → List Report
triples p [] = []
triples p (e ∷ older) = elim (is_at p C6 e) as (λ _. List Report) [ true ↦ triples p older ++ triple_by p older e ∷ [] | false ↦ triples p older ]

abbrev pub with_outcome : List Outcome → Option Outcome → List Outcome
with_outcome os None = os
with_outcome os (Some o) = os ++ o ∷ []

-- its outcomes, in the order in which they were told
unfoldable pub outcomes : List Entry → List Outcome
outcomes [] = []
outcomes (e ∷ older) = with_outcome (outcomes older) (outcome_in e.event)

abbrev pub is_tell : Entry → Bool
is_tell e = is_some (outcome_in e.event)

-- the running session's first triple without an outcome
abbrev pub open_triple : Platform → List Entry → Option Report
open_triple p es = slice_get (triples p (session es)) (length (outcomes (session es)))

-- an add runs from an entry at NB to the next outcome that is told
abbrev pub add_runs : Platform → List Entry → Bool
add_runs p es = was_at p NB (since is_tell es)

abbrev pub apic_in : Option Report → Option ℕ
apic_in None = None
apic_in (Some t) = Some t.apic

-- held: while an add runs its APIC ID, else what a refusal has left
abbrev pub held : Platform → List Entry → Option ℕ
held p es = if add_runs p es then apic_in (open_triple p es) else left_held es

-- processor 0 makes this access
abbrev pub monarch_makes : Access → Event → Bool
monarch_makes a e = is_access_of 0 e && unwrap_or (option_map (same_access a) (access_in e)) false

-- what processor 0 has last loaded of a slot's arrived byte in the running session; 2 for nothing
abbrev pub look_by : Option Entry → ℕ
look_by None = 2
look_by (Some e) = value_in e.answer

abbrev pub last_look : Platform → ℕ → List Entry → ℕ
last_look p slot es = look_by (newest (λ e. monarch_makes (Load (arrived_byte (layout_of p) slot) 1) e.event) (session es))

-- what a report goes by; the negotiated features are all that the platform supports
abbrev pub facts_in : Platform → List Entry → Report → Facts
facts_in p es t =
    record {
      own = is_own p.apic t;
      known = is_known p es t.apic;
      slot = slot_among (bound p es) t.apic;
      held = held p es;
      features = p.features;
      look = last_look p (slot_among (bound p es) t.apic) es;
    }

-- the decision on a report, read from the platform and the entries alone
abbrev pub decision_in : Platform → List Entry → Report → Decision
decision_in p es t = decision (facts_in p es t) t

-- the entries of an outcome come after the last that was told in the session, or after the collection
abbrev pub collects : Platform → Entry → Bool
collects p e = list_any (λ l. is_at p l e) (C1 ∷ C2 ∷ C3 ∷ C4 ∷ C5 ∷ C6 ∷ [])

abbrev pub ends_outcome : Platform → Entry → Bool
ends_outcome p e = is_tell e || (collects p e || bounds_session e)

-- from its entry at S2 to its entry at E5 a session has all other processors called in
abbrev pub is_called_in : Platform → List Entry → Bool
is_called_in p es = was_at p S2 (session es) && not (was_at p E5 (session es))

abbrev pub is_outside : Option ℕ → Bool
is_outside None = true
is_outside (Some address) = false

-- a processor outside SMM writes to the register block
abbrev pub interferes : Entry → Bool
interferes e = is_outside e.at && unwrap_or (option_map writes_block (access_in e.event)) false

-- the session is disturbed: one did so meanwhile
unfoldable pub disturbed_in : Platform → List Entry → Bool
disturbed_in p [] = false
disturbed_in p (e ∷ older) =
    elim (interferes e) as (λ _. Bool) [ true ↦ is_called_in p older || disturbed_in p older | false ↦ disturbed_in p older ]

abbrev pub is_disturbed : Platform → List Entry → Bool
is_disturbed p es = disturbed_in p (session es)

-- while a session has all others called in, the state's flag is set where the entries say that it was disturbed
abbrev pub flag_agrees : Platform → List Entry → State → Bool
flag_agrees p es s = not (is_called_in p es) || (if is_disturbed p es then s.disturbed else not s.disturbed)
