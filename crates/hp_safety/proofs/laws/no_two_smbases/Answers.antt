use Rattle.hp_safety.proofs.Smbases.{distinct_law}
use Rattle.hp_safety.proofs.laws.no_two_smbases.Goals as goal

pub returns : goal.returns
returns c = λ p es s fits is. distinct_law p es fits
