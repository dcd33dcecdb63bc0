-- By the pieces of the line.
use Rattle.hp_reading.proofs.Lengths.{lines_are_short}
use Rattle.hp_reading.proofs.laws.entry_lines_are_short.Goals as goal

pub returns : goal.returns
returns c = lines_are_short
