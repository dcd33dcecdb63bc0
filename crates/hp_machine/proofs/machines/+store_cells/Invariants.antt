-- The list gets shorter.
use Rattle.std.proofs.Common.{length}
use Rattle.hp_machine.proofs.machines.+store_cells.Given as goal

abbrev pub decreases-store_cells : goal.decreases-store_cells
decreases-store_cells l = length l.cells.now
