-- What an outcome shows, in two parts: what adds and their refusals show, and what all others do.
use Rattle.std.specs.Prelude.{Bool, true}
use Rattle.hp_model.specs.declared.platforms.Platform.{Platform}
use Rattle.hp_model.specs.declared.outcomes.Outcome.{Outcome}
use Rattle.hp_model.specs.declared.outcomes.Outcome.TheVariants.{Added, Ejected, Refused}
use Rattle.hp_model.specs.declared.outcomes.Refusal.{Refusal}
use Rattle.hp_model.specs.declared.outcomes.Refusal.TheVariants.{NotAtGate, NotCheckedIn}
use Rattle.hp_model.specs.Outcomes.{Telling, is_added, is_ejected, is_refused}

-- refusals that an add may end in
abbrev pub shows_refused : Platform → Telling → Refusal → Bool
shows_refused p t (NotAtGate cpu apic) = is_refused p t (NotAtGate cpu apic)
shows_refused p t (NotCheckedIn cpu apic) = is_refused p t (NotCheckedIn cpu apic)
shows_refused p t _ = true

abbrev pub add_in : Platform → Telling → Outcome → Bool
add_in p t (Added cpu apic slot) = is_added p t cpu apic slot
add_in p t (Ejected cpu apic slot) = true
add_in p t (Refused why) = shows_refused p t why

abbrev pub shows_add : Platform → Telling → Bool
shows_add p t = add_in p t t.outcome

-- all others
abbrev pub refusal_shows : Platform → Telling → Refusal → Bool
refusal_shows p t (NotAtGate cpu apic) = true
refusal_shows p t (NotCheckedIn cpu apic) = true
refusal_shows p t why = is_refused p t why

abbrev pub eject_shows_in : Platform → Telling → Outcome → Bool
eject_shows_in p t (Added cpu apic slot) = true
eject_shows_in p t (Ejected cpu apic slot) = is_ejected p t cpu apic slot
eject_shows_in p t (Refused why) = refusal_shows p t why

abbrev pub eject_shows : Platform → Telling → Bool
eject_shows p t = eject_shows_in p t t.outcome
