-- So many turns of the boot were counted.
use Rattle.std.proofs.Common.{◌≤◌, ◌-◌}
use Rattle.hp_model.specs.declared.platforms.Platform.{Platform}
use Rattle.hp_model.specs.Following.{Carried}
use Rattle.hp_trace.specs.Summary.{IsSummary}
use Rattle.hp_top.specs.Doing.{Counted, Did}
use Rattle.hp_top.specs.Lives.{StandsFor}
use Rattle.hp_top.specs.Turns.{boot_left}
use Rattle.hp_top.proofs.summing.sum_boot.Given as goal

abbrev pub invariant-turns : goal.invariant-turns
invariant-turns g l = record {
  done : (p : Platform) (v : Carried) → StandsFor p l.fn.live v → Did p v (boot_left l.turns) (boot_left (l.turns - l._turn)) l.live (Counted l.fn.sum l.sum);
  sums : IsSummary l.sum;
  most : l.sum.entries ≤ l._turn;
}
