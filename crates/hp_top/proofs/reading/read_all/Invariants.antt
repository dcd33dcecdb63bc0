-- What was read so far was at the front of what was left.
use Rattle.std.proofs.Common.{◌≡◌, ◌-◌, ◌≤◌, length}
use Rattle.std.specs.Io.KnownBytes.{Consumes}
use Rattle.hp_top.proofs.reading.read_all.Given as goal

abbrev pub invariant-source : goal.invariant-source
invariant-source g l = record {
  taken : Consumes (g.S.Source.left l.fn.src) (g.S.Source.left l.src) l.all.items;
  within : length l.all.items ≤ 1048577;
  calm : g.S.Source.faults l.src ≡ g.S.Source.faults l.fn.src;
}

abbrev pub decreases-source : goal.decreases-source
decreases-source g l = 1048577 - length l.all.items
