-- Those passed have no second agent after them, so the rest decides.
use Rattle.std.proofs.Common.{◌≡◌, length}
use Rattle.hp_config.specs.Rules.{no_two}
use Rattle.hp_config.proofs.rules.are_single.Given as goal

abbrev pub invariant-loop-rest : goal.invariant-loop-rest
invariant-loop-rest l = no_two l.rest ≡ no_two l.agents

abbrev pub decreases-loop-rest : goal.decreases-loop-rest
decreases-loop-rest l = length l.rest
