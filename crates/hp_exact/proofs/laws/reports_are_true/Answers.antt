use Rattle.hp_exact.proofs.Truth.{law}
use Rattle.hp_exact.proofs.laws.reports_are_true.Goals as goal

pub returns : goal.returns
returns c = law
