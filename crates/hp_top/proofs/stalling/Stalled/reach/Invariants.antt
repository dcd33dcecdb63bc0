-- What has begun is told by the turn after its last.
use Rattle.std.proofs.Common.{◌≡◌, List, length}
use Rattle.hp_model.specs.declared.files.Stall.{Stall}
use Rattle.hp_top.specs.Stalls.{Tracks}
use Rattle.hp_top.specs.Turns.{Rises, start_of}
use Rattle.hp_top.proofs.stalling.Stalled.reach.Given as goal

abbrev pub invariant-begun : goal.invariant-begun
invariant-begun l = record {
  tracks : (all : List Stall) → Tracks all l.turn l.fn.self → Tracks all l.turn l.self;
  rises : Rises start_of 0 l.fn.self.rest → Rises start_of 0 l.self.rest;
  count : length l.self.until ≡ length l.fn.self.until;
}

abbrev pub decreases-begun : goal.decreases-begun
decreases-begun l = length l.self.rest
