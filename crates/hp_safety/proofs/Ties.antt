-- What ties the monarch's record to the entries made so far: which APIC IDs have a slot, and what its session has reported.
use Rattle.std.specs.Prelude.{ℕ, ◌≡◌, ◌⊎◌, Bool, true, false, List, [], ◌∷◌, ◌++◌, if◌then◌else◌}
use Rattle.std.specs.List.{list_any}
use Rattle.hp_model.specs.declared.labels.Label.{Label}
use Rattle.hp_model.specs.declared.labels.Label.TheVariants.{F1, F2, F3, F4, F5, F6, R1, R2, R3, R4, R5, R6, S0, S1, S2, S3, S4, C1, C2, C3, C4, C5, C6, NB, N0, N1, N2, N3, N4, N5, N6, N7, N8a, N8b, N9, N10, N11, E0, E1, E2, E3, E4a, E4b, E4c, E4d, E4e, E4f, E4g, E4h, T, E5, E6, E7}
use Rattle.hp_model.specs.Block.{is_in}
use Rattle.hp_model.specs.declared.reports.Report.{Report}
use Rattle.hp_model.specs.Monarch.{Monarch}
use Rattle.hp_model.specs.declared.platforms.Platform.{Platform}
use Rattle.hp_model.specs.declared.entries.Entry.{Entry}
use Rattle.hp_model.specs.Boot.{value_in}
use Rattle.hp_model.specs.Account.{is_at, opened_for, with_bound}
use Rattle.hp_model.specs.Sessions.{bounds_session, session, triples, last_value}
use Rattle.hp_model.specs.Smbases.{is_insert_of}

pub data Tie : Type 0 where
  Free : Tie  -- the record's bound APIC IDs are those of the entries
  Collects : Tie  -- also, each of its reports is one of the session's
  Found : Tie  -- also, the processor that it has found is the one that the session's last C3 read
  Judged : Tie  -- also, the status is what its last C4 read
  Fresh : Tie  -- the add's APIC ID was reported; it may be bound before an entry at N7 has stored it
  Named : Tie  -- it was reported, and stored

abbrev pub tie_of : Label → Tie
tie_of F1 = Free
tie_of F2 = Free
tie_of F3 = Free
tie_of F4 = Free
tie_of F5 = Free
tie_of F6 = Free
tie_of R1 = Free
tie_of R2 = Free
tie_of R3 = Free
tie_of R4 = Free
tie_of R5 = Free
tie_of R6 = Free
tie_of S0 = Free
tie_of S1 = Free
tie_of S2 = Free
tie_of S3 = Free
tie_of S4 = Free
tie_of C1 = Collects
tie_of C2 = Collects
tie_of C3 = Collects
tie_of C4 = Found
tie_of C5 = Judged
tie_of C6 = Judged
tie_of NB = Fresh
tie_of N0 = Fresh
tie_of N1 = Fresh
tie_of N2 = Fresh
tie_of N3 = Fresh
tie_of N4 = Fresh
tie_of N5 = Fresh
tie_of N6 = Fresh
tie_of N7 = Fresh
tie_of N8a = Named
tie_of N8b = Named
tie_of N9 = Named
tie_of N10 = Named
tie_of N11 = Named
tie_of E0 = Collects
tie_of E1 = Collects
tie_of E2 = Collects
tie_of E3 = Collects
tie_of E4a = Collects
tie_of E4b = Collects
tie_of E4c = Collects
tie_of E4d = Collects
tie_of E4e = Collects
tie_of E4f = Collects
tie_of E4g = Collects
tie_of E4h = Collects
tie_of T = Collects
tie_of E5 = Free
tie_of E6 = Free
tie_of E7 = Free

-- what a session of the monarch has read by now: the answers at its last C3 and its last C4, and its reports
pub record Session : Type 0 where
  pub cpu : ℕ
  pub status : ℕ
  pub reports : List Report

abbrev pub session_in : Platform → List Entry → Session
session_in p es = record { cpu = last_value p C3 es; status = last_value p C4 es; reports = triples p es }

-- the one that the newest of these entries lies in
abbrev pub session_of : Platform → List Entry → Session
session_of p es = session_in p (session es)

abbrev pub no_session : Session
no_session = record { cpu = 0; status = 0; reports = [] }

-- one entry more
abbrev pub read_at : Bool → ℕ → ℕ → ℕ
read_at there v old = if there then v else old

abbrev pub reports_at : Bool → Report → List Report → List Report
reports_at there t ts = if there then ts ++ t ∷ [] else ts

abbrev pub session_more : Platform → Session → Entry → Session
session_more p s e =
    if bounds_session e then no_session
    else record {
      cpu = read_at (is_at p C3 e) (value_in e.answer) s.cpu;
      status = read_at (is_at p C4 e) (value_in e.answer) s.status;
      reports = reports_at (is_at p C6 e) (record { cpu = s.cpu; status = s.status; apic = value_in e.answer }) s.reports;
    }

abbrev pub bound_more : Platform → List ℕ → Entry → List ℕ
bound_more p bound e = with_bound (opened_for p e) bound

-- what some of these meets, some of those meets
abbrev pub Within : List Report → List Report → Type 0
Within xs ys = (f : Report → Bool) → list_any f xs ≡ true → list_any f ys ≡ true

-- the record's bound APIC IDs: those of the entries, or also that of the add
abbrev pub IsBound : List ℕ → Monarch → Type 0
IsBound bound r = (r.slots.bound ≡ bound) ⊎ ((is_in r.add.apic bound ≡ false) × (r.slots.bound ≡ bound ++ r.add.apic ∷ []))

abbrev pub TiedAt : List ℕ → Session → Monarch → Tie → Type 0
TiedAt bound s r Free = r.slots.bound ≡ bound
TiedAt bound s r Collects = (r.slots.bound ≡ bound) × Within r.collection.reports s.reports
TiedAt bound s r Found = (r.slots.bound ≡ bound) × Within r.collection.reports s.reports × (r.collection.cpu ≡ s.cpu)
TiedAt bound s r Judged = (r.slots.bound ≡ bound) × Within r.collection.reports s.reports × (r.collection.cpu ≡ s.cpu) × (r.collection.status ≡ s.status)
TiedAt bound s r Fresh = IsBound bound r × Within r.collection.reports s.reports × (list_any (is_insert_of r.add.apic) s.reports ≡ true)
TiedAt bound s r Named = (r.slots.bound ≡ bound) × Within r.collection.reports s.reports × (list_any (is_insert_of r.add.apic) s.reports ≡ true)

abbrev pub Tied : List ℕ → Session → Monarch → Type 0
Tied bound s r = TiedAt bound s r (tie_of r.label)
