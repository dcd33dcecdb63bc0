use Rattle.hp_exact.proofs.LostLaw.{law}
use Rattle.hp_exact.proofs.laws.outcomes_lose_none.Goals as goal

pub returns : goal.returns
returns c = law
