-- What contracts see of an eject: what it goes by of the platform, its record, and where the last answer led.
use Rattle.std.specs.Prelude.{◌≡◌, ◌<◌, ◌≤◌, ℕ, Bool, true, false, Option, Some, None}
use Rattle.hp_model.specs.declared.accesses.Answer.{Answer}
use Rattle.hp_model.specs.declared.labels.Label.{Label}
use Rattle.hp_model.specs.declared.labels.Label.TheVariants as label
use Rattle.hp_model.specs.declared.outcomes.Outcome.{Outcome}
use Rattle.hp_model.specs.declared.outcomes.Outcome.TheVariants as outcome
use Rattle.hp_model.specs.declared.outcomes.Step.{Step}
use Rattle.hp_model.specs.declared.outcomes.Step.TheVariants as step
use Rattle.hp_model.specs.Eject.{Eject, EjectNext, EjectsAt, EjectEnds}
use Rattle.hp_model.specs.Fitting.{FitsWant}
use Rattle.hp_model.specs.Handlers.{Seat, want_at}
use Rattle.hp_model.specs.Monarch.{Monarch}
use Rattle.hp_model.specs.SharedBytes.{Layout}
use Rattle.hp_eject.specs.declared.rows.Row.{Row}
use Rattle.hp_eject.specs.declared.rows.Row.TheVariants as row
use Rattle.hp_eject.specs.declared.standing.Standing.{Standing}
use Rattle.hp_eject.specs.declared.standing.Standing.TheVariants.{At, Ended}

pub record Ejecting : Type 0 where
  pub tseg : ℕ  -- the first address of TSEG
  pub polls : ℕ  -- how often the parked byte is looked at, at most
  pub late : Bool  -- whether SMIs may come late
  pub eject : Eject
  pub next : EjectNext

-- the eject's record after an answer
abbrev pub eject_in : EjectNext → Eject → Eject
eject_in (EjectsAt l k) j = k
eject_in (EjectEnds o) j = j

-- what is answered of it
abbrev pub step_of : EjectNext → Step
step_of (EjectsAt l j) = step.Go
step_of (EjectEnds (outcome.Added cpu apic slot)) = step.Added
step_of (EjectEnds (outcome.Ejected cpu apic slot)) = step.Ejected
step_of (EjectEnds (outcome.Refused why)) = step.Refused why

-- it stands at a label
abbrev pub IsGoing : EjectNext → Type 0
IsGoing (EjectsAt l j) = Unit {0}
IsGoing (EjectEnds o) = ⊥

-- the answer fits what it wants: of the layout only TSEG, and of the monarch's record only the eject matters
abbrev pub Fits : ℕ → EjectNext → Answer → Type 0
Fits tseg (EjectsAt l j) answer = (y : Layout) (x : Seat) (r : Monarch) → y.tseg ≡ tseg → r.eject ≡ j → FitsWant (want_at y x r l) answer
Fits tseg (EjectEnds o) answer = ⊥

-- its outcome, once there is one
abbrev pub outcome_of : EjectNext → Option Outcome
outcome_of (EjectsAt l j) = None
outcome_of (EjectEnds o) = Some o

-- it goes on
abbrev pub at_next : EjectNext → Ejecting → Ejecting
at_next d r = record r { eject = eject_in d r.eject; next = d }

abbrev pub label_of : Row → Label
label_of row.E0 = label.E0
label_of row.E1 = label.E1
label_of row.E2 = label.E2
label_of row.E3 = label.E3
label_of row.E4a = label.E4a
label_of row.E4b = label.E4b
label_of row.E4c = label.E4c
label_of row.E4d = label.E4d
label_of row.E4e = label.E4e
label_of row.E4f = label.E4f
label_of row.E4g = label.E4g
label_of row.E4h = label.E4h

-- one of an eject's labels
pub record IsOfEject (l : Label) : Type 0 where
  pub row : Row
  pub is : l ≡ label_of row

-- where it is, with this record
abbrev pub next_of : Standing → Eject → EjectNext
next_of (At row) j = EjectsAt (label_of row) j
next_of (Ended o) j = EjectEnds o

-- no eject ends by an add
abbrev pub is_of_eject : Standing → Bool
is_of_eject (At row) = true
is_of_eject (Ended (outcome.Added cpu apic slot)) = false
is_of_eject (Ended (outcome.Ejected cpu apic slot)) = true
is_of_eject (Ended (outcome.Refused why)) = true

-- addresses have 32 bits
pub record IsSmall (tseg slot : ℕ) (standing : Standing) : Type 0 where
  pub below : tseg ≤ 0x80000000
  pub byte : slot < 512
  pub ends : is_of_eject standing ≡ true
