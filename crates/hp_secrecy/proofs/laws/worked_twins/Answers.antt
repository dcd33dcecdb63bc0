-- The worked runs.
use Rattle.hp_secrecy.proofs.Worked.{goes_arrived, goes_entered, twins, reads_arrived, reads_entered, looks_arrived, looks_entered, goes_outside, seen_outside}
use Rattle.hp_secrecy.proofs.laws.worked_twins.Goals as goal

pub returns-clause-goes : goal.returns-clause-goes
returns-clause-goes c = (goes_arrived, goes_entered)

pub returns-clause-twins : goal.returns-clause-twins
returns-clause-twins c = twins

pub returns-clause-reads : goal.returns-clause-reads
returns-clause-reads c = (reads_arrived, reads_entered)

pub returns-clause-differ : goal.returns-clause-differ
returns-clause-differ c = (looks_arrived, looks_entered)

pub returns-clause-shown : goal.returns-clause-shown
returns-clause-shown c = (goes_outside, seen_outside)
