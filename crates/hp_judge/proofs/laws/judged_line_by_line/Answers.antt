-- The two halves of the law.
use Rattle.hp_judge.proofs.Lines.{fault_is, has_entries}
use Rattle.hp_judge.proofs.laws.judged_line_by_line.Goals as goal

pub returns-clause-fault : goal.returns-clause-fault
returns-clause-fault c = fault_is

pub returns-clause-entries : goal.returns-clause-entries
returns-clause-entries c = has_entries
