-- The answer fits the access that `want` told, which is that of the place where the boot stands.
use Rattle.std.proofs.Common.{sym, ap, subst, ◌∙◌}
use Rattle.hp_model.specs.Boot.{value_in}
use Rattle.hp_boot.specs.Booting.{Booting, IsRead, stage_view}
use Rattle.hp_boot.proofs.Parts.{read_at}
use Rattle.hp_boot.proofs.boots.Boot.feed.Goals as goal

pub after-self-inside-requires-clause-read : goal.after-self-inside-requires-clause-read
after-self-inside-requires-clause-read c =
    let at = ap (λ (b : Booting). b.stage) (sym c.self.view_is) ∙ ap stage_view c.in-Boots.is in
    rw c.value.ensures
    (subst (λ (b : Booting). IsRead b.mib c.in-Boots.done (value_in c.args.answer)) (sym c.self.view_is)
    (read_at c.args.self.now c.in-Boots.supported c.in-Boots.done c.args.answer at c.requires.fits))
