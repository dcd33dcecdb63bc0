use Rattle.hp_exact.proofs.Exactness.{safe_law}
use Rattle.hp_exact.proofs.laws.runs_are_safe.Goals as goal

pub returns : goal.returns
returns c = safe_law
