use Rattle.hp_safety.proofs.Law.{law}
use Rattle.hp_safety.proofs.laws.locked_before.Goals as goal

pub returns : goal.returns
returns c = law
