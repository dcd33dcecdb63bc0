-- What contracts see of the monarch: its record, and what it goes by of the platform.
use Rattle.std.specs.Prelude.{◌≡◌, ◌⊎◌, ◌<◌, ◌≤◌, ℕ, Bool, nat_le, List, length, drop, slice_index_or, true}
use Rattle.std.specs.List.{list_all}
use Rattle.hp_model.specs.declared.labels.Label.{Label}
use Rattle.hp_model.specs.declared.labels.Label.TheVariants as label
use Rattle.hp_model.specs.declared.accesses.Answer.{Answer}
use Rattle.hp_model.specs.Add.{AddNext, AddsAt, Ends}
use Rattle.hp_model.specs.declared.reports.Report.{Report}
use Rattle.hp_model.specs.Collection.{CollectNext, CollectsAt, CollectEnds}
use Rattle.hp_model.specs.Eject.{EjectNext, EjectsAt, EjectEnds}
use Rattle.hp_model.specs.Fitting.{FitsWant}
use Rattle.hp_model.specs.Handlers.{Seat, want_at}
use Rattle.hp_model.specs.declared.reports.Facts.{Facts}
use Rattle.hp_model.specs.Monarch.{Monarch, is_own}
use Rattle.hp_model.specs.Platform.{greatest_id}
use Rattle.hp_model.specs.SharedBytes.{Layout}
use Rattle.hp_model.specs.Slots.{is_known, slot_among}
use Rattle.hp_collect.specs.Collecting.{Collecting, IsGoing as IsCollecting}
use Rattle.hp_eject.specs.Ejecting.{Ejecting, IsGoing as IsEjecting}
use Rattle.hp_reloc.specs.Relocating.{Relocating, IsGoing as IsAdding}
use Rattle.hp_reloc.specs.Roster.{Roster}
use Rattle.hp_monarch.specs.declared.rows.Standing.{Standing}
use Rattle.hp_monarch.specs.declared.rows.Standing.TheVariants as standing
use Rattle.hp_monarch.specs.declared.rows.Row.{Row}
use Rattle.hp_monarch.specs.declared.rows.Row.TheVariants as row

pub record Session : Type 0 where
  pub layout : Layout
  pub monarch : Monarch

-- the answer fits what the monarch wants, whoever looks at it
abbrev pub Fits : Session → Answer → Type 0
Fits s answer = (x : Seat) → FitsWant (want_at s.layout x s.monarch s.monarch.label) answer

abbrev pub label_of : Row → Label
label_of row.S0 = label.S0
label_of row.S1 = label.S1
label_of row.S2 = label.S2
label_of row.S3 = label.S3
label_of row.S4 = label.S4
label_of row.T = label.T
label_of row.E5 = label.E5
label_of row.E6 = label.E6
label_of row.E7 = label.E7

-- where a collection stands, an add, and an eject; past its end none stands anywhere, and no monarch is in it
abbrev pub collecting_at : CollectNext → Label
collecting_at (CollectsAt l c) = l
collecting_at (CollectEnds c) = label.C1

abbrev pub adding_at : AddNext → Label
adding_at (AddsAt l a) = l
adding_at (Ends o) = label.NB

abbrev pub ejecting_at : EjectNext → Label
ejecting_at (EjectsAt l j) = l
ejecting_at (EjectEnds o) = label.E0

-- where the monarch stands: at a row of its own, in the collection, in an add, or in an eject
abbrev pub label_at : Standing → CollectNext → AddNext → EjectNext → Label
label_at (standing.At row) c d e = label_of row
label_at standing.Collects c d e = collecting_at c
label_at standing.Adds c d e = adding_at d
label_at standing.Ejects c d e = ejecting_at e

-- what is known of a report, by these slots, what was last read of their bytes, and these features
abbrev pub facts_by : Roster → List ℕ → ℕ → Report → Facts
facts_by s last features t =
    record {
      own = is_own s.possible t;
      known = is_known s.slots t.apic;
      slot = slot_among s.slots.bound t.apic;
      held = s.slots.held;
      features = features;
      look = slice_index_or last (slot_among s.slots.bound t.apic) 2;
    }

-- the labels of an add that read an arrived byte
abbrev pub ReadsByte : Label → Type 0
ReadsByte l = (l ≡ label.N8b) ⊎ (l ≡ label.N11)

-- the reports that aren't taken up yet
abbrev pub reports_left : Monarch → List Report
reports_left r = drop r.taken r.collection.reports

-- the labels whose answer may end the collection or an outcome, and so lead to the next report
abbrev pub TakesReports : Label → Type 0
TakesReports l = (l ≡ label.C3) ⊎ ((l ≡ label.C4) ⊎ ((l ≡ label.C6) ⊎ (l ≡ label.T)))

-- a monarch in the collection has one that goes on, and so in an add, which is in a bound slot, and in an eject
abbrev pub IsIn : Standing → ℕ → CollectNext → Relocating → EjectNext → Type 0
IsIn (standing.At row) bound c d e = Unit {0}
IsIn standing.Collects bound c d e = IsCollecting c
IsIn standing.Adds bound c d e = IsAdding d.next × (d.add.slot < bound)
IsIn standing.Ejects bound c d e = IsEjecting e

-- collection, adds and ejects go by the same platform
pub record IsBy (tseg count looks : ℕ) (x2apic late : Bool) (collect : Collecting) (add : Relocating) (eject : Ejecting) : Type 0 where
  pub counts : collect.count ≡ count
  pub adds : add.tseg ≡ tseg
  pub looks_at : add.polls ≡ looks
  pub wide : add.x2apic ≡ x2apic
  pub ejects : eject.tseg ≡ tseg
  pub awaits : eject.polls ≡ looks
  pub looks_late : eject.late ≡ late

-- each bound slot has its byte, the slot whose byte is next is bound, addresses and APIC IDs are in range, and there is room for all possible slots
pub record IsSound (tseg count looks : ℕ) (x2apic late : Bool) (slot : ℕ) (standing : Standing) (roster : Roster) (last : List ℕ) (room : ℕ) (collect : Collecting) (add : Relocating) (eject : Ejecting) : Type 0 where
  pub bound : slot < length roster.slots.bound
  pub read : length last ≡ length roster.slots.bound
  pub at_most : length roster.slots.bound ≤ 512
  pub below : tseg ≤ 0x80000000
  pub few : count ≤ 512
  pub ids : list_all (λ a. nat_le a (greatest_id x2apic)) roster.possible ≡ true
  pub fits : 512 ≤ room
  pub parts : IsBy tseg count looks x2apic late collect add eject
  pub inside : IsIn standing (length roster.slots.bound) collect.next add eject.next
