-- One step.
use Rattle.hp_secrecy.proofs.Steps.{step_alike, answer_alike, possible_alike}
use Rattle.hp_secrecy.proofs.laws.a_step_keeps_secrets.Goals as goal

pub returns-clause-state : goal.returns-clause-state
returns-clause-state c = λ p s t e a b fit twins here there. step_alike p s t e a b fit twins.first twins.second twins.alike here there

pub returns-clause-answer : goal.returns-clause-answer
returns-clause-answer c = λ p s t e a b alike here there out. answer_alike p s t e a b alike here there out

pub returns-clause-possible : goal.returns-clause-possible
returns-clause-possible c = possible_alike
