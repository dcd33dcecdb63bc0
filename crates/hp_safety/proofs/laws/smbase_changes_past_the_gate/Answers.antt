use Rattle.hp_safety.proofs.Smbases.{named_law}
use Rattle.hp_safety.proofs.laws.smbase_changes_past_the_gate.Goals as goal

pub returns : goal.returns
returns c = λ p es s fits is. named_law p es fits
