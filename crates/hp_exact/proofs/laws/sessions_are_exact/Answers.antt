use Rattle.hp_exact.proofs.Exactness.{exact_law}
use Rattle.hp_exact.proofs.laws.sessions_are_exact.Goals as goal

pub returns : goal.returns
returns c = exact_law
