-- By the pieces of the header.
use Rattle.hp_reading.proofs.HeaderLengths.{headers_are_short}
use Rattle.hp_reading.proofs.laws.headers_are_short.Goals as goal

pub returns : goal.returns
returns c = headers_are_short
