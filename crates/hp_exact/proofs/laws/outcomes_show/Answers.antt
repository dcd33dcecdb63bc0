use Rattle.hp_exact.proofs.Exactness.{shows_law}
use Rattle.hp_exact.proofs.laws.outcomes_show.Goals as goal

pub returns : goal.returns
returns c = shows_law
