-- What an outcome says (own rules): which report it answers, by which decision, and what its entries show. Each part is a test of what is told.
use Rattle.std.specs.Prelude.{ℕ, Bool, true, false, ◌&&◌, ◌||◌, ◌==◌, List, [], ◌∷◌, ◌++◌, length, drop, map, filter, replicate, Option, Some, None, bit_and}
use Rattle.std.specs.List.{list_any}
use Rattle.std.specs.Str.{bytes_eq}
use Rattle.hp_model.specs.declared.platforms.Platform.{Platform}
use Rattle.hp_model.specs.declared.processors.Cpu.{Cpu}
use Rattle.hp_model.specs.declared.labels.Label.{Label}
use Rattle.hp_model.specs.declared.labels.Label.TheVariants.{N7, N8a, N8b, N9, N10, N11, E2, E4b, E4g}
use Rattle.hp_model.specs.declared.outcomes.Outcome.{Outcome}
use Rattle.hp_model.specs.declared.outcomes.Outcome.TheVariants.{Added, Ejected, Refused}
use Rattle.hp_model.specs.declared.outcomes.Refusal.{Refusal}
use Rattle.hp_model.specs.declared.outcomes.Refusal.TheVariants.{Disabled, Both, AlreadyKnown, GateHeld, NotAtGate, NotCheckedIn, NoUnplug, NotKnown, NotArrived, NotParked, Foreign, StillPending}
use Rattle.hp_model.specs.declared.entries.Entry.{Entry}
use Rattle.hp_model.specs.Platform.{tile}
use Rattle.hp_model.specs.Block.{is_in}
use Rattle.hp_model.specs.Boot.{value_in}
use Rattle.hp_model.specs.Slots.{slot_among}
use Rattle.hp_model.specs.declared.reports.Report.{Report}
use Rattle.hp_model.specs.declared.reports.Decision.{Decision}
use Rattle.hp_model.specs.declared.reports.Decision.TheVariants.{Tell as ToTell, Add as ToAdd, Eject as ToEject}
use Rattle.hp_model.specs.Monarch.{is_that}
use Rattle.hp_model.specs.State.{State, at}
use Rattle.hp_model.specs.Access.{stands_in_smm}
use Rattle.hp_model.specs.Firmware.{same_outcome}
use Rattle.hp_model.specs.Events.{outcome_in, is_access_of}
use Rattle.hp_model.specs.Transitions.{Transition, entries_of, at_each, since, older_than, newest, left_in}
use Rattle.hp_model.specs.Account.{is_at, opened_for, bound}
use Rattle.hp_model.specs.Sessions.{open_triple, decision_in, is_disturbed, ends_outcome}

-- what is told, the report that it answers, the decision on this report, and the transitions of the outcome, newest first
pub record Telling : Type 0 where
  pub outcome : Outcome
  pub report : Option Report
  pub decision : Decision
  pub entries : List Entry  -- all before it is told
  pub own : List Transition
  pub state : State  -- in which it is told

abbrev pub own_of : Platform → List Transition → List Transition
own_of p past = since (λ x. ends_outcome p x.entry) past

abbrev pub decision_by : Platform → List Entry → Option Report → Decision
decision_by p es None = ToAdd
decision_by p es (Some t) = decision_in p es t

-- the decision is that of the entries before those of the outcome
abbrev pub telling : Platform → List Transition → State → Outcome → Telling
telling p past s o =
    let es = entries_of past in
    let own = own_of p past in
    let report = open_triple p es in
    record { outcome = o; report = report; decision = decision_by p (drop (length own) es) report; entries = es; own = own; state = s }

-- a test of what is told, at each transition that tells
abbrev pub when_told : Platform → (Telling → Bool) → List Transition → State → Option Outcome → Bool
when_told p test past s None = true
when_told p test past s (Some o) = test (telling p past s o)

abbrev pub each_told : Platform → (Telling → Bool) → List Transition → Bool
each_told p test xs = at_each (λ older x. when_told p test older x.before (outcome_in x.entry.event)) xs

-- a refusal that may end an add of the report
abbrev pub fails_add : Report → Refusal → Bool
fails_add t (Disabled cpu status) = false
fails_add t (Both cpu status) = false
fails_add t (AlreadyKnown cpu apic slot) = false
fails_add t (GateHeld cpu apic other) = false
fails_add t (NotAtGate cpu apic) = (cpu == t.cpu) && (apic == t.apic)
fails_add t (NotCheckedIn cpu apic) = (cpu == t.cpu) && (apic == t.apic)
fails_add t (NoUnplug cpu features) = false
fails_add t (NotKnown cpu apic) = false
fails_add t (NotArrived cpu apic) = false
fails_add t (NotParked cpu apic) = false
fails_add t (Foreign cpu apic) = false
fails_add t (StillPending cpu status) = false

abbrev pub ends_add : Report → Outcome → Bool
ends_add t (Added cpu apic slot) = (cpu == t.cpu) && (apic == t.apic)
ends_add t (Ejected cpu apic slot) = false
ends_add t (Refused why) = fails_add t why

-- and one that may end an eject
abbrev pub fails_eject : Report → Refusal → Bool
fails_eject t (Disabled cpu status) = false
fails_eject t (Both cpu status) = false
fails_eject t (AlreadyKnown cpu apic slot) = false
fails_eject t (GateHeld cpu apic other) = false
fails_eject t (NotAtGate cpu apic) = false
fails_eject t (NotCheckedIn cpu apic) = false
fails_eject t (NoUnplug cpu features) = false
fails_eject t (NotKnown cpu apic) = false
fails_eject t (NotArrived cpu apic) = false
fails_eject t (NotParked cpu apic) = (cpu == t.cpu) && (apic == t.apic)
fails_eject t (Foreign cpu apic) = false
fails_eject t (StillPending cpu status) = cpu == t.cpu

abbrev pub ends_eject : Report → Outcome → Bool
ends_eject t (Added cpu apic slot) = false
ends_eject t (Ejected cpu apic slot) = (cpu == t.cpu) && (apic == t.apic)
ends_eject t (Refused why) = fails_eject t why

-- the decision tells the outcome itself, or the outcome is one that may follow it
abbrev pub may_follow : Decision → Report → Outcome → Bool
may_follow (ToTell told) t o = same_outcome o told
may_follow ToAdd t o = ends_add t o
may_follow ToEject t o = ends_eject t o

-- what is told answers the session's first report without an outcome, by its decision
abbrev pub answers_by : Decision → Outcome → Option Report → Bool
answers_by c o None = false
answers_by c o (Some t) = may_follow c t o

abbrev pub answers : Telling → Bool
answers t = answers_by t.decision t.outcome t.report

-- values that the entries of an outcome read at a label
abbrev pub values_at : Platform → Label → List Entry → List ℕ
values_at p l es = map (λ e. value_in e.answer) (filter (is_at p l) es)

-- P entries at a label, each answering 0
abbrev pub reads_zeros : Platform → Label → List Entry → Bool
reads_zeros p l es = bytes_eq (values_at p l es) (replicate p.polls 0)

-- the entry opens the gate for this APIC ID
abbrev pub opens : Platform → ℕ → Entry → Bool
opens p apic e = is_that (opened_for p e) apic

-- the present processor is at the tile of a slot
abbrev pub is_at_tile : Platform → ℕ → Cpu → Bool
is_at_tile p slot c = c.present && (c.smbase == tile p slot)

-- N7 for its APIC ID, then N9, then N10, and last of processor 0's an N11 that answered 1
abbrev pub is_last_look : Platform → Option Entry → Bool
is_last_look p None = false
is_last_look p (Some e) = is_at p N11 e && (value_in e.answer == 1)

abbrev pub was_let_in : Platform → ℕ → List Entry → Bool
was_let_in p apic own =
    is_last_look p (newest (λ e. is_access_of 0 e.event) own)
    && list_any (opens p apic) (older_than (is_at p N9) (older_than (is_at p N10) own))

-- the slot is the APIC ID's, and the next one where it had none before
abbrev pub has_slot : List ℕ → List ℕ → ℕ → ℕ → Bool
has_slot before now apic slot = is_in apic now && ((slot_among now apic == slot) && (is_in apic before || (slot == length before)))

abbrev pub is_added : Platform → Telling → ℕ → ℕ → ℕ → Bool
is_added p t cpu apic slot =
    was_let_in p apic (entries_of t.own)
    && (has_slot (bound p (drop (length t.own) t.entries)) (bound p t.entries) apic slot
    && (is_disturbed p t.entries || is_at_tile p slot (at t.state cpu)))

-- who becomes absent, and in which transition
pub record Departure : Type 0 where
  pub cpu : ℕ
  pub by : Transition

abbrev pub departures : Platform → List Transition → List Departure
departures p [] = []
departures p (x ∷ older) = map (λ k. record { cpu = k; by = x }) (left_in p x) ++ departures p older

-- it was ejected at E4b, from SMM at the tile of the slot
abbrev pub is_eject_of : Platform → ℕ → ℕ → Departure → Bool
is_eject_of p cpu slot d =
    (d.cpu == cpu) && (is_at p E4b d.by.entry && (stands_in_smm (at d.by.before cpu) && is_at_tile p slot (at d.by.before cpu)))

abbrev pub is_only : (Departure → Bool) → List Departure → Bool
is_only test [] = false
is_only test (d ∷ []) = test d
is_only test (d ∷ (e ∷ ds)) = false

abbrev pub is_ejected : Platform → Telling → ℕ → ℕ → ℕ → Bool
is_ejected p t cpu apic slot =
    (is_in apic (bound p t.entries) && (slot_among (bound p t.entries) apic == slot))
    && (is_disturbed p t.entries || is_only (is_eject_of p cpu slot) (departures p t.own))

-- three attempts have opened the gate
abbrev pub has_three_attempts : Platform → ℕ → List Entry → Bool
has_three_attempts p apic own = length (filter (opens p apic) own) == 3

-- and each look of the third one read 0
abbrev pub is_not_at_gate : Platform → ℕ → List Entry → Bool
is_not_at_gate p apic own =
    has_three_attempts p apic own
    && (reads_zeros p N8a (since (is_at p N7) own) && reads_zeros p N8b (since (is_at p N7) own))

-- one of the third attempt's looks read 1, and then N10 came
abbrev pub was_seen : Platform → List Entry → Bool
was_seen p looks = is_in 1 (values_at p N8a looks) || is_in 1 (values_at p N8b looks)

abbrev pub is_not_checked_in : Platform → ℕ → List Entry → Bool
is_not_checked_in p apic own =
    let third = since (is_at p N7) own in
    has_three_attempts p apic own && (was_seen p (older_than (is_at p N10) third) && reads_zeros p N11 (since (is_at p N10) third))

abbrev pub is_still_pending : Platform → ℕ → List Entry → Bool
is_still_pending p status own = is_in status (values_at p E4g own) && (bit_and status 0x10 == 0x10)

abbrev pub is_refused : Platform → Telling → Refusal → Bool
is_refused p t (Disabled cpu status) = true
is_refused p t (Both cpu status) = true
is_refused p t (AlreadyKnown cpu apic slot) = true
is_refused p t (GateHeld cpu apic other) = true
is_refused p t (NotAtGate cpu apic) = is_not_at_gate p apic (entries_of t.own)
is_refused p t (NotCheckedIn cpu apic) = is_not_checked_in p apic (entries_of t.own)
is_refused p t (NoUnplug cpu features) = true
is_refused p t (NotKnown cpu apic) = true
is_refused p t (NotArrived cpu apic) = true
is_refused p t (NotParked cpu apic) = reads_zeros p E2 (entries_of t.own)
is_refused p t (Foreign cpu apic) = is_disturbed p t.entries
is_refused p t (StillPending cpu status) = is_disturbed p t.entries && is_still_pending p status (entries_of t.own)

-- an outcome shows in its entries
abbrev pub shows_in : Platform → Telling → Outcome → Bool
shows_in p t (Added cpu apic slot) = is_added p t cpu apic slot
shows_in p t (Ejected cpu apic slot) = is_ejected p t cpu apic slot
shows_in p t (Refused why) = is_refused p t why

abbrev pub shows : Platform → Telling → Bool
shows p t = shows_in p t t.outcome

-- but for an eject nobody leaves in an undisturbed session
abbrev pub may_lose : Outcome → Bool
may_lose (Added cpu apic slot) = false
may_lose (Ejected cpu apic slot) = true
may_lose (Refused why) = false

abbrev pub is_none : List Departure → Bool
is_none [] = true
is_none (d ∷ ds) = false

abbrev pub loses_none : Platform → Telling → Bool
loses_none p t = may_lose t.outcome || (is_disturbed p t.entries || is_none (departures p t.own))
