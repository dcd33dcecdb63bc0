use Rattle.hp_safety.proofs.Held.{held_law}
use Rattle.hp_safety.proofs.laws.smbase_changes_while_held.Goals as goal

pub returns : goal.returns
returns c = λ p es s fits is. held_law p es fits
