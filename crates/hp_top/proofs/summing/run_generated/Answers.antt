-- Nothing was written where memory ran out before the line.
use Rattle.hp_top.specs.Generated.{gen_text}
use Rattle.hp_top.proofs.Sends.{front_none}
use Rattle.hp_top.proofs.summing.run_generated.Goals as goal

pub returns-in-Err-clause-part : goal.returns-in-Err-clause-part
returns-in-Err-clause-part g c = front_none _ (gen_text c.args.number)
