-- The lemma takes that two bits differ, which no tactic matches.
use Rattle.hp_regs.proofs.Ejects.{eject_told}
use Rattle.hp_regs.proofs.laws.an_eject_leaves_the_events.Goals as goal

pub returns-clause-told : goal.returns-clause-told
returns-clause-told c = eject_told
