-- Those entries so far are steps.
use Rattle.std.proofs.Common.{◌≡◌, ◌+◌, false, length}
use Rattle.hp_check.specs.Checking.{stop_from}
use Rattle.hp_check.proofs.checking.walk_on.Given as goal

abbrev pub invariant-entries : goal.invariant-entries
invariant-entries l = record {
  going : l.walk.stopped ≡ false;
  platform : l.walk.platform ≡ l.fn.walk.platform;
  few : l.next + length l.rest ≡ l.number + length l.entries;
  stops : stop_from l.fn.walk.platform l.fn.walk.state l.number l.entries ≡ stop_from l.walk.platform l.walk.state l.next l.rest;
}

abbrev pub decreases-entries : goal.decreases-entries
decreases-entries l = length l.rest
