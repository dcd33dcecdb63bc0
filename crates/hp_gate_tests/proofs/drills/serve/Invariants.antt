use Rattle.std.proofs.Common.{◌≡◌}
use Rattle.std.specs.Arc.{arc_value}
use Rattle.hp_gate.specs.declared.views.Work.TheVariants.{Free}
use Rattle.hp_gate_tests.proofs.drills.serve.Given as goal

abbrev pub invariant-tries : goal.invariant-tries
invariant-tries l = record { mine : l.seat.gate ≡ arc_value l.gate; free : l.seat.view.work ≡ Free }
