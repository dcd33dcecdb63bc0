-- Both ways, line by line.
use Rattle.hp_reading.proofs.FaultLines.{faults_are_none}
use Rattle.hp_reading.proofs.laws.texts_without_fault_are_runs.Goals as goal

pub returns : goal.returns
returns c = faults_are_none
