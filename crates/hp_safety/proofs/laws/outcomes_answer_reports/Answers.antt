use Rattle.hp_safety.proofs.Answering.{answers_law}
use Rattle.hp_safety.proofs.laws.outcomes_answer_reports.Goals as goal

pub returns : goal.returns
returns c = λ p es s fits is. answers_law p es fits
