-- The agents that are left give what all of them give.
use Rattle.std.proofs.Common.{◌≡◌, length}
use Rattle.hp_config.specs.Kinds.{put_kinds}
use Rattle.hp_config.proofs.kinds.put_all.Given as goal

abbrev pub invariant-agents : goal.invariant-agents
invariant-agents l = put_kinds l.agents.items l.kinds ≡ put_kinds l.fn.agents.items l.fn.kinds

abbrev pub decreases-agents : goal.decreases-agents
decreases-agents l = length l.agents.items
