use Rattle.hp_gate.proofs.Telling.{tells}
use Rattle.hp_gate.proofs.laws.views_tell_the_words.Goals as goal

pub returns : goal.returns
returns c = tells
