use Rattle.hp_safety.proofs.Departing.{departures_law}
use Rattle.hp_safety.proofs.laws.processors_leave_by_the_register_block.Goals as goal

pub returns : goal.returns
returns c = λ p es s fits is. departures_law p es fits
