-- Each event's step is that of its own call.
use Rattle.hp_machine.proofs.machines.Machine.step.Goals as goal

pub returns-in-Insert-clause-step : goal.returns-in-Insert-clause-step
returns-in-Insert-clause-step c = λ p s is. rw c.in-Insert.is (c.insert.ensures.step p s is)

pub returns-in-Remove-clause-step : goal.returns-in-Remove-clause-step
returns-in-Remove-clause-step c = λ p s is. rw c.in-Remove.is (c.request_removal.ensures.step p s is)

pub returns-in-TakeInit-clause-step : goal.returns-in-TakeInit-clause-step
returns-in-TakeInit-clause-step c = λ p s is. rw c.in-TakeInit.is (c.take_init.ensures.step p s is)

pub returns-in-Resume-clause-step : goal.returns-in-Resume-clause-step
returns-in-Resume-clause-step c = λ p s is. rw c.in-Resume.is (c.resume.ensures.step p s is)
