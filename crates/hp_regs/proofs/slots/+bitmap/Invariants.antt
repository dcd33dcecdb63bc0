-- The list gets shorter.
use Rattle.std.proofs.Common.{length}
use Rattle.hp_regs.proofs.slots.+bitmap.Given as goal

abbrev pub decreases-bitmap : goal.decreases-bitmap
decreases-bitmap l = length l.slots.now
