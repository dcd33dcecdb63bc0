-- The monarch's row is the one where its record stands.
use Rattle.std.proofs.Common.{◌≡◌, Some, ap, sym, subst, ◌∙◌}
use Rattle.hp_model.specs.declared.labels.Label.{Label}
use Rattle.hp_model.specs.Handlers.{want_at}
use Rattle.hp_model.specs.declared.labels.Handler.TheVariants.{Monarch as Monarchs}
use Rattle.hp_model.specs.Labels.{handler_of}
use Rattle.hp_monarch.specs.Session.{Session}
use Rattle.hp_smm.specs.Rows.{seat_for}
use Rattle.hp_smm.proofs.Due.{monarch_label}
use Rattle.hp_smm.proofs.handlers.Handlers.want_at.Goals as goal

pub returns-in-Monarch : goal.returns-in-Monarch
returns-in-Monarch c =
    let h = c.args.self.now in
    let s = c.args.me.now in
    let its : handler_of c.args.label ≡ Monarchs = sym c.position_of.ensures.handler ∙ c.in-Monarch.is in
    let at : c.args.label ≡ h.monarch.label = monarch_label h.layout h.monarch s.cpu s.smbase s.mark c.args.label c.requires.row its in
    ap (λ (l : Label). want_at h.layout (seat_for h s) h.monarch l) at
    ∙ subst (λ (k : Session). want_at k.layout (seat_for h s) k.monarch k.monarch.label ≡ Some c.want.result) c.self.view_is (c.want.ensures (seat_for h s))
