-- The decision on the report that is being answered is the one by which the record acts.
use Rattle.std.proofs.Common.{ℕ, ◌≡◌, true, Option, Some}
use Rattle.hp_model.specs.declared.reports.Report.{Report}
use Rattle.hp_model.specs.declared.reports.Decision.{Decision}
use Rattle.hp_model.specs.declared.reports.Decision.TheVariants.{Add as ToAdd, Eject as ToEject}
use Rattle.hp_model.specs.Monarch.{Monarch}
use Rattle.hp_model.specs.Outcomes.{answers_by}
use Rattle.hp_safety.proofs.Tallies.{Turn, Waiting, Collecting, Beginning, Running, Parting, Telling, Ending, Over, turn_of}

-- this decision, of this report, is the one by which the record acts
pub record Names (o : Option Report) (by_cpu by_apic : ℕ) : Type 0 where
  pub report : Report
  pub is : o ≡ Some report
  pub cpu : report.cpu ≡ by_cpu
  pub apic : report.apic ≡ by_apic

abbrev pub DecisionAt : Decision → Option Report → Monarch → Turn → Type 0
DecisionAt c o r Waiting = Unit {0}
DecisionAt c o r Collecting = Unit {0}
DecisionAt c o r Beginning = (c ≡ ToAdd) × Names o r.add.cpu r.add.apic
DecisionAt c o r Running = (c ≡ ToAdd) × Names o r.add.cpu r.add.apic
DecisionAt c o r Parting = (c ≡ ToEject) × Names o r.eject.cpu r.eject.apic
DecisionAt c o r Telling = answers_by c r.outcome o ≡ true
DecisionAt c o r Ending = Unit {0}
DecisionAt c o r Over = Unit {0}

abbrev pub Decided : Decision → Option Report → Monarch → Type 0
Decided c o r = DecisionAt c o r (turn_of r.label)
