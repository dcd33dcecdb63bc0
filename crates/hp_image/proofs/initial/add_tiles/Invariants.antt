-- The tiles of the slots before this one are stored.
use Rattle.std.proofs.Common.{◌≡◌, ◌-◌, []}
use Rattle.hp_model.specs.Image.{with_tiles}
use Rattle.hp_image.specs.Cells.{cells_fit, stored_cells}
use Rattle.hp_image.proofs.initial.add_tiles.Given as goal

abbrev pub invariant-loop-slot : goal.invariant-loop-slot
invariant-loop-slot l = record {
  stored : stored_cells l.cells.items [] ≡ with_tiles l.p (l.slot - 1) (stored_cells l.fn.cells.items []);
  fits : cells_fit l.p.low_memory l.cells.items ≡ cells_fit l.p.low_memory l.fn.cells.items;
}
