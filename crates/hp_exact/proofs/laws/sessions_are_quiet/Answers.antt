use Rattle.hp_exact.proofs.Quiet.{law}
use Rattle.hp_exact.proofs.laws.sessions_are_quiet.Goals as goal

pub returns : goal.returns
returns c = law
