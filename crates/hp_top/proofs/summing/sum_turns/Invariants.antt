-- The actors before those that are still to come acted, and what they made was counted.
use Rattle.std.proofs.Common.{◌≤◌, ◌+◌, length}
use Rattle.hp_model.specs.declared.platforms.Platform.{Platform}
use Rattle.hp_model.specs.Following.{Carried}
use Rattle.hp_trace.specs.Summary.{IsSummary}
use Rattle.hp_top.specs.Actors.{IsAhead, to_come}
use Rattle.hp_top.specs.Doing.{Counted, Did}
use Rattle.hp_top.specs.Lives.{StandsFor}
use Rattle.hp_top.proofs.summing.sum_turns.Given as goal

abbrev pub invariant-actors : goal.invariant-actors
invariant-actors g l = record {
  done : (p : Platform) (v : Carried) → StandsFor p l.fn.live v → Did p v (to_come l.fn.actors) (to_come l.actors) l.live (Counted l.fn.sum l.sum);
  ahead : IsAhead l.actors;
  sums : IsSummary l.sum;
  room : l.sum.entries + length (to_come l.actors) ≤ l.fn.sum.entries + length (to_come l.fn.actors);
}

abbrev pub decreases-actors : goal.decreases-actors
decreases-actors g l = length (to_come l.actors)
