-- Nothing is judged yet.
use Rattle.hp_judge.proofs.Verdicts.{none_judged}
use Rattle.hp_judge.proofs.judges.Judge.new.Goals as goal

pub invariant_of-result : goal.invariant_of-result
invariant_of-result c = none_judged c.new-2.result.items c.new.result.items c.new-2.ensures c.new.ensures.items
