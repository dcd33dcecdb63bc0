-- A stall more has begun.
use Rattle.std.proofs.Common.{◌∙◌, ap}
use Rattle.std.specs.Prelude.{length}
use Rattle.hp_top.proofs.Tracking.{taken_tracks, taken_rises, count_begun}
use Rattle.hp_top.proofs.stalling.Stalled.reach.Goals as goal

pub begun-preserved : goal.begun-preserved
begun-preserved c = record {
  tracks = λ all tracks. taken_tracks c.in-Some.stall c.in-Some.more.now c.begun.self c.take.new.self c.in-Some.ensures.some c.take.ensures.rest all c.args.turn
      c.take.ensures.until c.in-Some.ensures.begun (c.begun.invariant.tracks all tracks);
  rises = λ up. taken_rises c.in-Some.stall c.in-Some.more.now c.begun.self c.take.new.self c.in-Some.ensures.some c.take.ensures.rest (c.begun.invariant.rises up);
  count = ap length c.take.ensures.until ∙ count_begun c.in-Some.stall c.begun.self.until ∙ c.begun.invariant.count;
}
