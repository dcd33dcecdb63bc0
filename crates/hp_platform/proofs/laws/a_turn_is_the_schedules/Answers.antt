-- The law is the lemma.
use Rattle.hp_platform.proofs.Carrying.{acts_as}
use Rattle.hp_platform.proofs.laws.a_turn_is_the_schedules.Goals as goal

pub returns : goal.returns
returns c = acts_as
