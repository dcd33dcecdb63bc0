-- What contracts see of an add: what it goes by of the platform, its record, and where the last answer led.
use Rattle.std.specs.Prelude.{◌≡◌, ◌<◌, ◌≤◌, ℕ, Bool, true, false, Option, Some, None}
use Rattle.hp_model.specs.declared.accesses.Answer.{Answer}
use Rattle.hp_model.specs.declared.labels.Label.{Label}
use Rattle.hp_model.specs.declared.labels.Label.TheVariants as label
use Rattle.hp_model.specs.declared.outcomes.Outcome.{Outcome}
use Rattle.hp_model.specs.declared.outcomes.Outcome.TheVariants as outcome
use Rattle.hp_model.specs.declared.outcomes.Step.{Step}
use Rattle.hp_model.specs.declared.outcomes.Step.TheVariants as step
use Rattle.hp_model.specs.Add.{Add, AddNext, AddsAt, Ends}
use Rattle.hp_model.specs.Fitting.{FitsWant}
use Rattle.hp_model.specs.Handlers.{Seat, want_at}
use Rattle.hp_model.specs.Monarch.{Monarch}
use Rattle.hp_model.specs.Platform.{greatest_id}
use Rattle.hp_model.specs.SharedBytes.{Layout}
use Rattle.hp_reloc.specs.declared.rows.Row.{Row}
use Rattle.hp_reloc.specs.declared.rows.Row.TheVariants as row
use Rattle.hp_reloc.specs.declared.standing.Standing.{Standing}
use Rattle.hp_reloc.specs.declared.standing.Standing.TheVariants.{At, Ended}

pub record Relocating : Type 0 where
  pub tseg : ℕ  -- the first address of TSEG
  pub polls : ℕ  -- how often a byte is looked at, at most
  pub x2apic : Bool  -- whether APIC IDs have 32 bits
  pub add : Add
  pub next : AddNext

-- the add's record after an answer
abbrev pub add_in : AddNext → Add → Add
add_in (AddsAt l b) a = b
add_in (Ends o) a = a

-- what is answered of it
abbrev pub step_of : AddNext → Step
step_of (AddsAt l a) = step.Go
step_of (Ends (outcome.Added cpu apic slot)) = step.Added
step_of (Ends (outcome.Ejected cpu apic slot)) = step.Ejected
step_of (Ends (outcome.Refused why)) = step.Refused why

-- it stands at a label
abbrev pub IsGoing : AddNext → Type 0
IsGoing (AddsAt l a) = Unit {0}
IsGoing (Ends o) = ⊥

-- the answer fits what it wants: of the layout only TSEG and x2APIC, and of the monarch's record only the add matters
abbrev pub Fits : ℕ → Bool → AddNext → Answer → Type 0
Fits tseg x2apic (AddsAt l a) answer = (y : Layout) (x : Seat) (r : Monarch) → y.tseg ≡ tseg → y.x2apic ≡ x2apic → r.add ≡ a → FitsWant (want_at y x r l) answer
Fits tseg x2apic (Ends o) answer = ⊥

-- its outcome, once there is one
abbrev pub outcome_of : AddNext → Option Outcome
outcome_of (AddsAt l a) = None
outcome_of (Ends o) = Some o

-- it goes on
abbrev pub at_next : AddNext → Relocating → Relocating
at_next d r = record r { add = add_in d r.add; next = d }

abbrev pub label_of : Row → Label
label_of row.NB = label.NB
label_of row.N0 = label.N0
label_of row.N1 = label.N1
label_of row.N2 = label.N2
label_of row.N3 = label.N3
label_of row.N4 = label.N4
label_of row.N5 = label.N5
label_of row.N6 = label.N6
label_of row.N7 = label.N7
label_of row.N8a = label.N8a
label_of row.N8b = label.N8b
label_of row.N9 = label.N9
label_of row.N10 = label.N10
label_of row.N11 = label.N11

-- one of an add's labels
pub record IsOfAdd (l : Label) : Type 0 where
  pub row : Row
  pub is : l ≡ label_of row

-- where it is, with this record
abbrev pub next_of : Standing → Add → AddNext
next_of (At row) a = AddsAt (label_of row) a
next_of (Ended o) a = Ends o

-- no add ends by an eject
abbrev pub is_of_add : Standing → Bool
is_of_add (At row) = true
is_of_add (Ended (outcome.Added cpu apic slot)) = true
is_of_add (Ended (outcome.Ejected cpu apic slot)) = false
is_of_add (Ended (outcome.Refused why)) = true

-- addresses and interrupt commands have 32 bits, and there are three attempts
pub record IsSmall (tseg : ℕ) (x2apic : Bool) (apic slot attempt : ℕ) (standing : Standing) : Type 0 where
  pub below : tseg ≤ 0x80000000
  pub narrow : apic ≤ greatest_id x2apic
  pub tile : slot < 512
  pub third : attempt ≤ 3
  pub ends : is_of_add standing ≡ true
