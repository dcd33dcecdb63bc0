-- So many bytes at the front were taken, and the others are left.
use Rattle.std.proofs.Common.{length}
use Rattle.hp_judge.proofs.Taking.{HasTaken}
use Rattle.hp_judge.proofs.judges.Judge.feed.Given as goal

abbrev pub invariant-lines : goal.invariant-lines
invariant-lines l = HasTaken l.fn.self l.bytes l.self l.left

abbrev pub decreases-lines : goal.decreases-lines
decreases-lines l = length l.left
