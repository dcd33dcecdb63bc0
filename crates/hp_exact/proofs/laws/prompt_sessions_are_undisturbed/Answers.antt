use Rattle.hp_exact.proofs.Undisturbed.{undisturbed_law, blameless_law}
use Rattle.hp_exact.proofs.laws.prompt_sessions_are_undisturbed.Goals as goal

pub returns-clause-undisturbed : goal.returns-clause-undisturbed
returns-clause-undisturbed c = undisturbed_law

pub returns-clause-blames_nobody : goal.returns-clause-blames_nobody
returns-clause-blames_nobody c = blameless_law
