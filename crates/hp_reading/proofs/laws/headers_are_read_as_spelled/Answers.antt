-- Both ways, part by part.
use Rattle.hp_reading.proofs.HeaderLines.{headers_are_read}
use Rattle.hp_reading.proofs.laws.headers_are_read_as_spelled.Goals as goal

pub returns : goal.returns
returns c = headers_are_read
