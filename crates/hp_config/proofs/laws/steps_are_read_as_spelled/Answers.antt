-- Both ways, by cases on the access and on the word at the front.
use Rattle.hp_config.proofs.StepRead.{read_as_spelled}
use Rattle.hp_config.proofs.laws.steps_are_read_as_spelled.Goals as goal

pub returns : goal.returns
returns c = read_as_spelled
