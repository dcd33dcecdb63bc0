-- Both ways.
use Rattle.hp_reading.proofs.TraceLines.{traces_are_read}
use Rattle.hp_reading.proofs.laws.traces_are_read_as_spelled.Goals as goal

pub returns : goal.returns
returns c = traces_are_read
