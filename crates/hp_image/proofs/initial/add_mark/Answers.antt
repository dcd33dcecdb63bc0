-- The store ends below the end of RAM.
use Rattle.hp_image.proofs.Initials.{mark_fits}
use Rattle.hp_image.proofs.initial.add_mark.Goals as goal

pub returns-clause-fits : goal.returns-clause-fits
returns-clause-fits c = rw c.in_ok-push.ensures.items (mark_fits c.args.p.now c.args.label c.args.slot _ _ c.args.cells.now.items c.requires.fit c.requires.slot c.cell.ensures)
