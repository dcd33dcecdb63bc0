-- What the monarch keeps, the handler of processor 0 in SMM (own rule), and how its record goes on.
use Rattle.std.specs.Prelude.{ℕ, Bool, false, ◌&&◌, ◌||◌, not, ◌==◌, nat_lt, nat_le, ◌+◌, ◌-◌, List, [], ◌∷◌, ◌++◌, length, drop, replicate, Option, Some, None, slice_get, slice_index_or, slice_set, bit_and, if◌then◌else◌}
use Rattle.hp_model.specs.declared.platforms.Platform.{Platform}
use Rattle.hp_model.specs.declared.labels.Label.{Label}
use Rattle.hp_model.specs.declared.labels.Label.TheVariants.{S0, S3, S4, C1, NB, E0, T, E5}
use Rattle.hp_model.specs.declared.outcomes.Outcome.{Outcome}
use Rattle.hp_model.specs.declared.outcomes.Outcome.TheVariants as outcome
use Rattle.hp_model.specs.declared.outcomes.Refusal.{Refusal}
use Rattle.hp_model.specs.declared.outcomes.Refusal.TheVariants.{Foreign, Disabled, Both, AlreadyKnown, GateHeld, NoUnplug, NotKnown, NotArrived}
use Rattle.hp_model.specs.Block.{is_in}
use Rattle.hp_model.specs.Slots.{Slots, slots_start, known_from, slot_among, is_known, bind, completed, forgotten}
use Rattle.hp_model.specs.declared.reports.Report.{Report}
use Rattle.hp_model.specs.declared.reports.Facts.{Facts}
use Rattle.hp_model.specs.declared.reports.Decision.{Decision}
use Rattle.hp_model.specs.declared.reports.Decision.TheVariants.{Tell as ToTell, Add as ToAdd, Eject as ToEject}
use Rattle.hp_model.specs.Collection.{Collection, CollectNext, CollectsAt, CollectEnds, collection_start}
use Rattle.hp_model.specs.Add.{Add, AddNext, AddsAt, Ends, add_of}
use Rattle.hp_model.specs.Eject.{Eject, EjectNext, EjectsAt, EjectEnds, eject_of}

pub record Monarch : Type 0 where
  pub label : Label  -- where it stands
  pub slot : ℕ  -- the slot whose byte is next, at S1, S3 and E6
  pub polls : ℕ  -- loads left of one arrived byte, at S3
  pub slots : Slots
  pub last : List ℕ  -- of each slot, what was last read of its arrived byte in this session; 2 for nothing
  pub features : ℕ  -- the negotiated SMI features
  pub collection : Collection  -- from C1 on
  pub taken : ℕ  -- how many of its reports were taken up
  pub add : Add  -- the running add, at NB to N11
  pub eject : Eject  -- the running eject, at E0 to E4h
  pub outcome : Outcome  -- what is told, at T

-- nothing was read of any slot
abbrev pub unread : Slots → List ℕ
unread s = replicate (length s.bound) 2

-- nothing is told yet
abbrev pub no_outcome : Outcome
no_outcome = outcome.Refused (Disabled 0 0)

-- no session has begun
abbrev pub monarch_start : Platform → Monarch
monarch_start p =
    record {
      label = S0;
      slot = 0;
      polls = 0;
      slots = slots_start p;
      last = unread (slots_start p);
      features = 0;
      collection = collection_start;
      taken = 0;
      add = add_of 0 0 0;
      eject = eject_of 0 0 0;
      outcome = no_outcome;
    }

-- an SMI entry begins a session
abbrev pub restarted : Monarch → Monarch
restarted r = record r { label = S0; slot = 0; polls = 0; last = unread r.slots }

abbrev pub at_label : Label → Monarch → Monarch
at_label l r = record r { label = l }

abbrev pub with_features : ℕ → Monarch → Monarch
with_features features r = record r { features = features }

-- from slot 1 on, if one is bound, at this label, else at that
abbrev pub first_slot : Label → Label → Monarch → Monarch
first_slot each past r = if nat_lt 1 (length r.slots.bound) then record r { label = each; slot = 1 } else at_label past r

-- the next bound slot at this label, and past the last at that
abbrev pub next_slot : Label → Label → Monarch → Monarch
next_slot each past r = if nat_lt (r.slot + 1) (length r.slots.bound) then record r { label = each; slot = r.slot + 1 } else at_label past r

-- a known slot's arrived byte is looked at, so often at most; past the last the SMI command is read
abbrev pub look_at : ℕ → Option ℕ → Monarch → Monarch
look_at polls (Some slot) r = record r { label = S3; slot = slot; polls = polls }
look_at polls None r = at_label S4 r

-- what was read of a slot's arrived byte
abbrev pub noted : ℕ → ℕ → Monarch → Monarch
noted slot value r = record r { last = slice_set r.last slot value }

-- a look at S3: on to the next known slot after a 1 or the last look, else once more
abbrev pub looked : ℕ → ℕ → Monarch → Monarch
looked polls value r =
    if (value == 1) || nat_le r.polls 1 then look_at polls (known_from r.slots (r.slot + 1)) r else record r { polls = r.polls - 1 }

-- command 4 begins a collection; any other ends the session
abbrev pub commanded : ℕ → Monarch → Monarch
commanded command r = if command == 4 then record r { label = C1; collection = collection_start; taken = 0 } else at_label E5 r

abbrev pub refuses : Refusal → Decision
refuses why = ToTell (outcome.Refused why)

abbrev pub is_that : Option ℕ → ℕ → Bool
is_that None apic = false
is_that (Some other) apic = other == apic

-- its APIC ID is that of its processor, among these by place, and that isn't processor 0
abbrev pub is_own : List ℕ → Report → Bool
is_own apics t = not (t.cpu == 0) && is_that (slice_get apics t.cpu) t.apic

-- while an APIC ID is held, no other one is added
abbrev pub held_decision : Option ℕ → Report → Decision
held_decision None t = ToAdd
held_decision (Some held) t = if held == t.apic then ToAdd else refuses (GateHeld t.cpu t.apic held)

-- an insert event
abbrev pub insert_decision : Facts → Report → Decision
insert_decision f t = if f.known then refuses (AlreadyKnown t.cpu t.apic f.slot) else held_decision f.held t

-- a firmware eject; feature bit 2 is hot-unplug
abbrev pub eject_decision : Facts → Report → Decision
eject_decision f t =
    if not (bit_and f.features 4 == 4) then refuses (NoUnplug t.cpu f.features)
    else if not f.known then refuses (NotKnown t.cpu t.apic)
    else if f.look == 0 then refuses (NotArrived t.cpu t.apic)
    else ToEject

-- the tests of a report, in order: status bit 0 is enabled, bit 1 an insert event, bit 4 a firmware eject; a report has one of these two events
abbrev pub decision : Facts → Report → Decision
decision f t =
    if not f.own then refuses (Foreign t.cpu t.apic)
    else if not (bit_and t.status 1 == 1) then refuses (Disabled t.cpu t.status)
    else if bit_and t.status 0x12 == 0x12 then refuses (Both t.cpu t.status)
    else if bit_and t.status 2 == 2 then insert_decision f t
    else eject_decision f t

-- what the monarch goes by, with these APIC IDs by place
abbrev pub facts_of : List ℕ → Monarch → Report → Facts
facts_of apics r t =
    record {
      own = is_own apics t;
      known = is_known r.slots t.apic;
      slot = slot_among r.slots.bound t.apic;
      held = r.slots.held;
      features = r.features;
      look = slice_index_or r.last (slot_among r.slots.bound t.apic) 2;
    }

-- an outcome is to be told
abbrev pub at_tell : Outcome → Monarch → Monarch
at_tell o r = record r { label = T; outcome = o }

-- the byte of a new slot wasn't read
abbrev pub with_byte : ℕ → Slots → List ℕ → List ℕ
with_byte apic s last = if is_in apic s.bound then last else last ++ 2 ∷ []

-- an add begins: its APIC ID is bound and held
abbrev pub adds : Report → Monarch → Monarch
adds t r =
    record r {
      label = NB;
      slots = bind t.apic r.slots;
      last = with_byte t.apic r.slots r.last;
      add = add_of t.cpu t.apic (slot_among (bind t.apic r.slots).bound t.apic);
    }

-- an eject begins
abbrev pub ejects : Report → Monarch → Monarch
ejects t r = record r { label = E0; eject = eject_of t.cpu t.apic (slot_among r.slots.bound t.apic) }

-- the next report is taken up
abbrev pub took : Monarch → Monarch
took r = record r { taken = r.taken + 1 }

-- what becomes of a report
abbrev pub answered : Decision → Report → Monarch → Monarch
answered (ToTell o) t r = at_tell o r
answered ToAdd t r = adds t r
answered ToEject t r = ejects t r

-- the first of these reports is answered; without one the session ends
abbrev pub taken_up : List ℕ → List Report → Monarch → Monarch
taken_up apics [] r = at_label E5 r
taken_up apics (t ∷ ts) r = answered (decision (facts_of apics r t) t) t (took r)

-- the next report
abbrev pub next_report : List ℕ → Monarch → Monarch
next_report apics r = taken_up apics (drop r.taken r.collection.reports) r

-- where the collection goes on; its end leads to the first report
abbrev pub after_collection : List ℕ → CollectNext → Monarch → Monarch
after_collection apics (CollectsAt l c) r = record r { label = l; collection = c }
after_collection apics (CollectEnds c) r = next_report apics (record r { collection = c })

-- where the add goes on; its end leads to T, and so does that of an eject
abbrev pub after_add : AddNext → Monarch → Monarch
after_add (AddsAt l a) r = record r { label = l; add = a }
after_add (Ends o) r = at_tell o r

-- where the eject goes on
abbrev pub after_eject : EjectNext → Monarch → Monarch
after_eject (EjectsAt l j) r = record r { label = l; eject = j }
after_eject (EjectEnds o) r = at_tell o r

-- a told outcome: an APIC ID that was added is known, and no longer held; one that was ejected is forgotten
abbrev pub after_tell : Outcome → Monarch → Monarch
after_tell (outcome.Added cpu apic slot) r = record r { slots = completed apic r.slots }
after_tell (outcome.Ejected cpu apic slot) r = record r { slots = forgotten apic r.slots }
after_tell (outcome.Refused why) r = r
