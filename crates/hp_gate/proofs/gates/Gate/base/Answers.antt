use Rattle.std.proofs.Common.{rules, ◌≢◌, sym, subst}
use Rattle.hp_gate.specs.declared.views.Work.TheVariants.{Free}
use Rattle.hp_gate.specs.Seats.{CpuSeen}
use Rattle.hp_gate.specs.Steps.{cpu_of}
use Rattle.hp_gate.proofs.Moves.{may_load_base}
use Rattle.hp_gate.proofs.gates.Gate.base.Goals as goal

pub load-requires : goal.load-requires
load-requires c = (search rules, search rules, may_load_base _ _ _ (cpu_of c.c.inside.place.me.0) c.c.invariant.is (subst (λ (s : CpuSeen). s.view.work ≢ Free) (sym c.c.view_is) c.requires.passed))
