-- The bytes of the ranges are the locked ones.
use Rattle.std.proofs.Common.{ap, ◌∙◌}
use Rattle.hp_model.specs.View.{Locks, is_locked}
use Rattle.hp_smram.proofs.Spans.{spans_locked}
use Rattle.hp_smram.proofs.locks.Locks.locked.Goals as goal

pub returns-clause-bytes : goal.returns-clause-bytes
returns-clause-bytes c = λ x.
    rw (c.self.invariant.0, c.self.invariant.1)
    (spans_locked c.self.inside.registers x c.sizes.ensures ∙ ap (λ (l : Locks). is_locked l x) c.self.view_is)
