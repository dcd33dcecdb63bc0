-- What was read so far was at the front of what was left, and the judge has taken it.
use Rattle.std.proofs.Common.{◌≡◌, ◌-◌, ◌≤◌, length}
use Rattle.std.specs.Io.KnownBytes.{Consumes}
use Rattle.hp_top.proofs.checking.judge_all.Given as goal

abbrev pub invariant-source : goal.invariant-source
invariant-source g l = record {
  consumed : Consumes (g.S.Source.left l.fn.src) (g.S.Source.left l.src) l.judge;
  count : length l.judge ≡ l.taken;
  within : l.taken ≤ 67108865;
  calm : g.S.Source.faults l.src ≡ g.S.Source.faults l.fn.src;
}

abbrev pub decreases-source : goal.decreases-source
decreases-source g l = 67108865 - l.taken
