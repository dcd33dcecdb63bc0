use Rattle.std.proofs.Common.{◌≡◌}
use Rattle.hp_gate.specs.Seats.{IsShut}
use Rattle.hp_gate_tests.proofs.drills.arrives.Given as goal

abbrev pub invariant-looks : goal.invariant-looks
invariant-looks l = record { mine : l.m.gate ≡ l.fn.m.gate; list : l.m.view.list ≡ l.fn.m.view.list; is_shut : IsShut l.m.view.stage }
