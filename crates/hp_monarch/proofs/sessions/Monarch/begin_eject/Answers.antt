-- An eject begins.
use Rattle.std.proofs.Common.{◌≡◌, sym, subst}
use Rattle.hp_model.specs.declared.reports.Decision.TheVariants.{Eject as ToEject}
use Rattle.hp_model.specs.Monarch.{decision as decision_at, facts_of}
use Rattle.hp_monarch.specs.Session.{Session}
use Rattle.hp_monarch.specs.contracts.sessions.Monarch.{the_view}
use Rattle.hp_monarch.proofs.Deciding.{ejects_known}
use Rattle.hp_monarch.proofs.sessions.Monarch.begin_eject.Goals as goal

pub restart-requires : goal.restart-requires
restart-requires c =
    let s : Session = the_view c.self.inside in
    let t = c.args.report in
    let e = subst (λ (s : Session). decision_at (facts_of s.layout.apics s.monarch t) t ≡ ToEject) (sym c.self.view_is) c.requires in
    record { slot = c.bound_slot-slot.ensures.known (ejects_known (facts_of s.layout.apics s.monarch t) t e) }
