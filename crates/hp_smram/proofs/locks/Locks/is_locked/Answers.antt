-- A byte is locked where it lies in the default area or in TSEG.
use Rattle.std.proofs.Common.{ap, ◌∙◌}
use Rattle.hp_model.specs.View.{Locks, is_locked}
use Rattle.hp_smram.specs.Reach.{has_byte}
use Rattle.hp_smram.proofs.Spans.{access_locked}
use Rattle.hp_smram.proofs.locks.Locks.is_locked.Goals as goal

pub returns : goal.returns
returns c =
    c.is_in_table.ensures
    ∙ rw (c.self.invariant.0, c.self.invariant.1) (access_locked c.self.inside.registers c.args.addr c.args.width c.sizes.ensures)
    ∙ ap (λ (l : Locks). has_byte (is_locked l) c.args.addr c.args.width) c.self.view_is
