-- Tiles, then the monarch, then release bytes.
use Rattle.hp_image.proofs.Initials.{image_stored}
use Rattle.hp_image.proofs.initial.image.Goals as goal

pub returns-clause-stored : goal.returns-clause-stored
returns-clause-stored c = image_stored c.args.p.now c.new-cells.result.items c.add_tiles.new.cells.items c.add_marks.new.cells.items c.add_releases.new.cells.items c.new-cells.ensures.items c.in_ok-add_tiles.ensures.stored c.in_ok-add_marks.ensures.stored c.in_ok-add_releases.ensures.stored
