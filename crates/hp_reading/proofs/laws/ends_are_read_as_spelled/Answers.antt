-- Both ways.
use Rattle.hp_reading.proofs.TraceLines.{ends_are_read}
use Rattle.hp_reading.proofs.laws.ends_are_read_as_spelled.Goals as goal

pub returns : goal.returns
returns c = ends_are_read
