-- The actors before those that are still to come acted.
use Rattle.std.proofs.Common.{◌≡◌, ◌+◌, ◌≤◌, length}
use Rattle.hp_model.specs.declared.platforms.Platform.{Platform}
use Rattle.hp_model.specs.Following.{Carried}
use Rattle.hp_top.specs.Actors.{IsAhead, to_come}
use Rattle.hp_top.specs.Lives.{StandsFor}
use Rattle.hp_top.specs.Doing.{DoneActors}
use Rattle.hp_top.proofs.running.make_turns.Given as goal

abbrev pub invariant-actors : goal.invariant-actors
invariant-actors g l = record {
  done : (p : Platform) (v : Carried) → StandsFor p l.fn.live v → DoneActors p v (to_come l.fn.actors) (to_come l.actors) l.live l.made (g.K.Sink.held l.fn.out) (g.K.Sink.held l.out);
  ahead : IsAhead l.actors;
  bound : l.made + length (to_come l.actors) ≤ length (to_come l.fn.actors);
  calm : g.K.Sink.faults l.out ≡ g.K.Sink.faults l.fn.out;
}

abbrev pub decreases-actors : goal.decreases-actors
decreases-actors g l = length (to_come l.actors)
