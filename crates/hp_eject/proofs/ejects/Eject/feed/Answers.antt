-- A status has 8 bits.
use Rattle.std.proofs.Common.{◌≡◌, ap, ◌∙◌, arith}
use Rattle.hp_model.specs.declared.labels.Label.TheVariants.{E4g}
use Rattle.hp_model.specs.Eject.{EjectsAt}
use Rattle.hp_eject.specs.declared.rows.Row.{Row}
use Rattle.hp_eject.specs.Ejecting.{label_of}
use Rattle.hp_eject.proofs.Statuses.{status_read}
use Rattle.hp_eject.proofs.ejects.Eject.feed.Goals as goal

pub overflow_cast-value : goal.overflow_cast-value
overflow_cast-value c =
    let e = c.args.self.now in
    let at : e.next ≡ EjectsAt E4g e.eject = c.row.ensures ∙ ap (λ (w : Row). EjectsAt (label_of w) e.eject) c.in-E4g.is in
    omega (arith, c.value-value.ensures, status_read e.tseg e.next e.eject c.args.answer at c.requires)
