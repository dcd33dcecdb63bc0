-- An actor after those before it.
use Rattle.std.proofs.Common.{ap, arith, length, refl, ◌∙◌}
use Rattle.hp_top.specs.Actors.{to_come}
use Rattle.hp_top.proofs.Lines.{done_start, done_more, done_cuts, done_all}
use Rattle.hp_top.proofs.running.make_turns.Goals as goal

pub actors-init : goal.actors-init
actors-init g c = record {
  done = λ p v shows. done_start p v (to_come c.args.actors.now) _ _ shows;
  ahead = c.requires.ahead;
  bound = omega arith;
  calm = refl;
}

pub actors-preserved : goal.actors-preserved
actors-preserved g c = record {
  done = λ p v shows. done_more p v _ _ _ _ _ _ _ _ _ c.in-Some.ensures.some (c.actors.invariant.done p v shows) _ _ (λ u seen. c.in-Ok.ensures.made p u seen);
  ahead = c.next.ensures.ahead;
  bound = omega (arith, c.actors.invariant.bound, ap length c.in-Some.ensures.some, c.in-Ok.ensures.bound);
  calm = c.in-Ok.ensures.cause.calm ∙ c.actors.invariant.calm;
}

pub returns-in-Err-clause-part : goal.returns-in-Err-clause-part
returns-in-Err-clause-part g c =
    λ p v shows. done_cuts p v _ _ _ _ _ _ _ _ _ c.in-Some.ensures.some (c.actors.invariant.done p v shows) (λ u seen. c.in-Err.ensures.part p u seen)

pub returns-clause-made : goal.returns-clause-made
returns-clause-made g c =
    λ p v shows. done_all p v _ _ c.actors.live c.actors.made _ _ (c.actors.invariant.done p v shows) (c.in_default.ensures.none refl)
