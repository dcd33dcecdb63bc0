use Rattle.std.proofs.Common.{rules, ◌≡◌, ap, ◌∙◌}
use Rattle.hp_gate.specs.declared.views.Work.TheVariants.{Flagged}
use Rattle.hp_gate.specs.Seats.{CpuSeen}
use Rattle.hp_gate.specs.Steps.{cpu_of}
use Rattle.hp_gate.proofs.Knowing.{not_free}
use Rattle.hp_gate.proofs.Moves.{may_arrive}
use Rattle.hp_gate.proofs.gates.Gate.arrive.Goals as goal

pub store-requires : goal.store-requires
store-requires c =
    let flagged : (cpu_of c.c.inside.place.me.0).work ≡ Flagged = ap (λ (s : CpuSeen). s.view.work) c.c.view_is ∙ c.requires.flagged in
    (search rules, search rules, may_arrive _ _ _ _ (cpu_of c.c.inside.place.me.0) c.c.invariant.is flagged (not_free _ Flagged flagged tt) (search rules))
