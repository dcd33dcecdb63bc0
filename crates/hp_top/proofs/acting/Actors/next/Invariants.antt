-- What was to come is still to come.
use Rattle.std.proofs.Common.{◌≡◌, ◌-◌}
use Rattle.hp_top.specs.Actors.{IsAhead, to_come}
use Rattle.hp_top.proofs.acting.Actors.next.Given as goal

abbrev pub invariant-turns : goal.invariant-turns
invariant-turns l = record {
  ahead : IsAhead l.self;
  file : l.self.file ≡ l.fn.self.file;
  same : to_come l.fn.self ≡ to_come l.self;
}

abbrev pub decreases-turns : goal.decreases-turns
decreases-turns l = l.self.file.platform.turns - l.self.turn
