-- An actor after those before it.
use Rattle.std.proofs.Common.{length, ap, arith, refl}
use Rattle.hp_top.specs.Actors.{to_come}
use Rattle.hp_top.specs.Doing.{Counted}
use Rattle.hp_top.proofs.Doing.{counted_both, counted_none, did_all, did_more, did_none}
use Rattle.hp_top.proofs.summing.sum_turns.Goals as goal

pub actors-init : goal.actors-init
actors-init g c = record {
  done = λ p v shows. did_none p v (to_come c.args.actors.now) c.args.live.now (Counted c.args.sum.now c.args.sum.now) shows (counted_none c.args.sum.now);
  ahead = c.requires.ahead;
  sums = c.requires.sums;
  room = omega arith;
}

pub actors-preserved : goal.actors-preserved
actors-preserved g c = record {
  done = λ p v shows.
      did_more p v (to_come c.args.actors.now) _ _ c.in-Some.actor c.actors.live _ (Counted c.args.sum.now c.actors.sum) (Counted c.actors.sum c.sum_turn.new.sum) (Counted c.args.sum.now c.sum_turn.new.sum)
      c.in-Some.ensures.some (λ es fs. counted_both c.args.sum.now c.actors.sum c.sum_turn.new.sum es fs) (c.actors.invariant.done p v shows)
      (λ u seen. c.in-Ok.ensures.done p u seen);
  ahead = c.next.ensures.ahead;
  sums = c.sum_turn.ensures.sums;
  room = omega (arith, c.sum_turn.ensures.most, c.actors.invariant.room, ap length c.in-Some.ensures.some);
}

pub returns : goal.returns
returns g c = record {
  done = λ p v shows. did_all p v _ _ c.actors.live (Counted c.args.sum.now c.actors.sum) (c.in_default.ensures.none refl) (c.actors.invariant.done p v shows);
}
