-- Both ways, by cases on the entry and on the word at the front.
use Rattle.hp_reading.proofs.EntryLines.{lines_are_read}
use Rattle.hp_reading.proofs.laws.entries_are_read_as_spelled.Goals as goal

pub returns : goal.returns
returns c = lines_are_read
