use Rattle.hp_safety.proofs.Answered.{answered_law}
use Rattle.hp_safety.proofs.laws.sessions_answer_all.Goals as goal

pub returns : goal.returns
returns c = λ p es s fits is. answered_law p es fits
