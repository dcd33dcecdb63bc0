use Rattle.hp_safety.proofs.Guarding.{guarded}
use Rattle.hp_safety.proofs.laws.runs_are_guarded.Goals as goal

pub returns : goal.returns
returns c = guarded
