-- What ties the monarch's record to the reports and the outcomes that the entries show, and to the APIC ID that they say is held.
use Rattle.std.specs.Prelude.{ℕ, ◌≡◌, ◌⊎◌, Bool, true, false, ◌+◌, ◌==◌, ◌||◌, List, [], length, Option, Some, None, slice_get, if◌then◌else◌}
use Rattle.hp_model.specs.declared.platforms.Platform.{Platform}
use Rattle.hp_model.specs.declared.outcomes.Outcome.{Outcome}
use Rattle.hp_model.specs.declared.outcomes.Outcome.TheVariants.{Added, Ejected, Refused}
use Rattle.hp_model.specs.declared.entries.Entry.{Entry}
use Rattle.hp_model.specs.declared.labels.Label.{Label}
use Rattle.hp_model.specs.declared.labels.Label.TheVariants.{F1, F2, F3, F4, F5, F6, R1, R2, R3, R4, R5, R6, S0, S1, S2, S3, S4, C1, C2, C3, C4, C5, C6, NB, N0, N1, N2, N3, N4, N5, N6, N7, N8a, N8b, N9, N10, N11, E0, E1, E2, E3, E4a, E4b, E4c, E4d, E4e, E4f, E4g, E4h, T, E5, E6, E7}
use Rattle.hp_model.specs.Labels.{index_of}
use Rattle.hp_model.specs.declared.reports.Report.{Report}
use Rattle.hp_model.specs.Monarch.{Monarch, after_tell}
use Rattle.hp_model.specs.Account.{told_held, left_held}
use Rattle.hp_model.specs.Sessions.{session, triples, outcomes, add_runs, apic_in}
use Rattle.hp_safety.proofs.Ties.{reports_at}

-- read from entries: the running session's reports, how many outcomes it has told, whether an add runs, and what a refusal has left held
pub record Tally : Type 0 where
  pub reports : List Report
  pub told : ℕ
  pub runs : Bool
  pub left : Option ℕ

abbrev pub tally_of : Platform → List Entry → Tally
tally_of p es = record { reports = triples p (session es); told = length (outcomes (session es)); runs = add_runs p es; left = left_held es }

-- the first report without an outcome, and what is held
abbrev pub open_in : Tally → Option Report
open_in a = slice_get a.reports a.told

abbrev pub held_in : Tally → Option ℕ
held_in a = if a.runs then apic_in (open_in a) else a.left

-- after a row of the monarch's, which makes this report at C6 and tells this outcome at T
abbrev pub tally_told : Outcome → Tally → Tally
tally_told o a = record { reports = a.reports; told = a.told + 1; runs = false; left = told_held a.left o }

abbrev pub tally_reported : Label → Report → Tally → Tally
tally_reported l t a = record { reports = reports_at (index_of l == 10) t a.reports; told = a.told; runs = (index_of l == 11) || a.runs; left = a.left }

abbrev pub tally_after : Label → Report → Outcome → Tally → Tally
tally_after l t o a = if index_of l == 34 then tally_told o a else tally_reported l t a

-- a session begins or is over
abbrev pub tally_new : Tally → Tally
tally_new a = record { reports = []; told = 0; runs = a.runs; left = a.left }

pub data Turn : Type 0 where
  Waiting : Turn  -- nothing is reported
  Collecting : Turn  -- what is reported is in the record, and nothing is told
  Beginning : Turn  -- an add of the report without an outcome is next
  Running : Turn  -- it runs
  Parting : Turn  -- an eject of the report without an outcome runs
  Telling : Turn  -- its outcome is told next, which says what is held after it
  Ending : Turn  -- each report has an outcome
  Over : Turn

abbrev pub turn_of : Label → Turn
turn_of F1 = Over
turn_of F2 = Over
turn_of F3 = Over
turn_of F4 = Over
turn_of F5 = Over
turn_of F6 = Over
turn_of R1 = Over
turn_of R2 = Over
turn_of R3 = Over
turn_of R4 = Over
turn_of R5 = Over
turn_of R6 = Over
turn_of S0 = Waiting
turn_of S1 = Waiting
turn_of S2 = Waiting
turn_of S3 = Waiting
turn_of S4 = Waiting
turn_of C1 = Collecting
turn_of C2 = Collecting
turn_of C3 = Collecting
turn_of C4 = Collecting
turn_of C5 = Collecting
turn_of C6 = Collecting
turn_of NB = Beginning
turn_of N0 = Running
turn_of N1 = Running
turn_of N2 = Running
turn_of N3 = Running
turn_of N4 = Running
turn_of N5 = Running
turn_of N6 = Running
turn_of N7 = Running
turn_of N8a = Running
turn_of N8b = Running
turn_of N9 = Running
turn_of N10 = Running
turn_of N11 = Running
turn_of E0 = Parting
turn_of E1 = Parting
turn_of E2 = Parting
turn_of E3 = Parting
turn_of E4a = Parting
turn_of E4b = Parting
turn_of E4c = Parting
turn_of E4d = Parting
turn_of E4e = Parting
turn_of E4f = Parting
turn_of E4g = Parting
turn_of E4h = Parting
turn_of T = Telling
turn_of E5 = Ending
turn_of E6 = Over
turn_of E7 = Over

-- no add runs, and what was left is held
abbrev pub IsIdle : Tally → Monarch → Type 0
IsIdle a r = (a.runs ≡ false) × (a.left ≡ r.slots.held)

-- of these reports so many are taken up, and this one is the first without an outcome
pub record IsOpen (a : Tally) (reports : List Report) (taken : ℕ) (t : Report) : Type 0 where
  pub reported : a.reports ≡ reports
  pub taken_up : a.told + 1 ≡ taken
  pub unanswered : slice_get a.reports a.told ≡ Some t

-- and names this processor
pub record Answers (a : Tally) (reports : List Report) (taken : ℕ) (by_cpu by_apic : ℕ) : Type 0 where
  pub report : Report
  pub is : IsOpen a reports taken report
  pub cpu : report.cpu ≡ by_cpu
  pub apic : report.apic ≡ by_apic

-- an add holds its APIC ID, and what was left was none or the same
abbrev pub Holds : Tally → Option ℕ → ℕ → Type 0
Holds a held apic = (held ≡ Some apic) × ((a.left ≡ None) ⊎ (a.left ≡ Some apic))

-- who is told as added is held
abbrev pub IsHeldBy : Outcome → Option ℕ → Type 0
IsHeldBy (Added cpu apic slot) held = held ≡ Some apic
IsHeldBy (Ejected cpu apic slot) held = Unit {0}
IsHeldBy (Refused why) held = Unit {0}

-- what is held, and will be once this outcome is told
pub record Says (a : Tally) (reports : List Report) (taken : ℕ) (now after : Option ℕ) (o : Outcome) : Type 0 where
  pub report : Report
  pub is : IsOpen a reports taken report
  pub held : held_in a ≡ now
  pub left : told_held a.left o ≡ after
  pub added : IsHeldBy o now

abbrev pub TallyAt : Tally → Monarch → Turn → Type 0
TallyAt a r Waiting = (a.reports ≡ []) × (a.told ≡ 0) × IsIdle a r
TallyAt a r Collecting = (a.reports ≡ r.collection.reports) × (a.told ≡ 0) × (r.taken ≡ 0) × IsIdle a r
TallyAt a r Beginning = Answers a r.collection.reports r.taken r.add.cpu r.add.apic × (a.runs ≡ false) × Holds a r.slots.held r.add.apic
TallyAt a r Running = Answers a r.collection.reports r.taken r.add.cpu r.add.apic × (a.runs ≡ true) × Holds a r.slots.held r.add.apic
TallyAt a r Parting = Answers a r.collection.reports r.taken r.eject.cpu r.eject.apic × IsIdle a r
TallyAt a r Telling = Says a r.collection.reports r.taken r.slots.held (after_tell r.outcome r).slots.held r.outcome
TallyAt a r Ending = (a.told ≡ length a.reports) × IsIdle a r
TallyAt a r Over = IsIdle a r

abbrev pub Tallied : Tally → Monarch → Type 0
Tallied a r = TallyAt a r (turn_of r.label)
