-- What no entry stops is a run, and each run is safe.
use Rattle.hp_check.proofs.Stopping.{checked}
use Rattle.hp_check.proofs.checking.check.Goals as goal

pub returns : goal.returns
returns c = checked c.in-Ok.walk c.args.p.now c.args.entries.now c.walk_on.result c.requires c.runs_are_safe.ensures c.in-Ok.ensures.platform c.in-Ok.ensures.state c.walk_on.ensures
