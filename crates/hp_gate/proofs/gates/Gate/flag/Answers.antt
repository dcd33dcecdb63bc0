use Rattle.std.proofs.Common.{rules, ◌≡◌, ap, ◌∙◌}
use Rattle.hp_gate.specs.declared.views.Work.TheVariants.{Passed}
use Rattle.hp_gate.specs.Seats.{CpuSeen}
use Rattle.hp_gate.specs.Steps.{cpu_of}
use Rattle.hp_gate.proofs.Knowing.{not_free}
use Rattle.hp_gate.proofs.Moves.{may_flag}
use Rattle.hp_gate.proofs.gates.Gate.flag.Goals as goal

pub store-requires : goal.store-requires
store-requires c =
    let passed : (cpu_of c.c.inside.place.me.0).work ≡ Passed = ap (λ (s : CpuSeen). s.view.work) c.c.view_is ∙ c.requires.passed in
    (search rules, search rules, may_flag _ _ _ _ (cpu_of c.c.inside.place.me.0) c.c.invariant.is passed (not_free _ Passed passed tt) (search rules))
