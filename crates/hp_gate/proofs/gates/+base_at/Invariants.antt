use Rattle.std.proofs.Common.{length}
use Rattle.hp_gate.proofs.gates.+base_at.Given as goal

abbrev pub decreases-base_at : goal.decreases-base_at
decreases-base_at l = length l.list.now
