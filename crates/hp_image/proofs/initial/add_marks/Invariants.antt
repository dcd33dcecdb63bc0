-- What is stored and what is still to come are all the marks.
use Rattle.std.proofs.Common.{◌≡◌, [], drop}
use Rattle.hp_model.specs.Image.{with_cells}
use Rattle.hp_image.specs.Cells.{cells_fit, stored_cells}
use Rattle.hp_image.proofs.initial.add_marks.Given as goal

abbrev pub invariant-loop-label : goal.invariant-loop-label
invariant-loop-label l = record {
  stored : with_cells l.p l.slot (drop l.label-index l.labels) (stored_cells l.cells.items []) ≡ with_cells l.p l.slot l.labels (stored_cells l.fn.cells.items []);
  fits : cells_fit l.p.low_memory l.cells.items ≡ cells_fit l.p.low_memory l.fn.cells.items;
}
