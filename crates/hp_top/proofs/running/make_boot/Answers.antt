-- A turn of the boot after those before it.
use Rattle.std.proofs.Common.{◌∙◌, refl, arith}
use Rattle.hp_top.proofs.Lines.{boot_start, done_more, done_cuts, done_all}
use Rattle.hp_top.proofs.Turning.{boot_next, boot_all}
use Rattle.hp_top.proofs.running.make_boot.Goals as goal

pub turns-init : goal.turns-init
turns-init g c = record { done = λ p v shows. boot_start p v c.args.turns _ _ shows; bound = omega arith; calm = refl }

pub turns-preserved : goal.turns-preserved
turns-preserved g c = record {
  done = λ p v shows. done_more p v _ _ _ _ _ _ _ _ _ (boot_next c.args.turns c.turns.turn c.turns-test.true) (c.turns.invariant.done p v shows) _ _ (λ u seen. c.in-Ok.ensures.made p u seen);
  bound = omega (arith, c.in-Ok.ensures.bound, c.turns.invariant.bound);
  calm = c.in-Ok.ensures.cause.calm ∙ c.turns.invariant.calm;
}

pub returns-in-Err-clause-part : goal.returns-in-Err-clause-part
returns-in-Err-clause-part g c =
    λ p v shows. done_cuts p v _ _ _ _ _ _ _ _ _ (boot_next c.args.turns c.turns.turn c.turns-test.true) (c.turns.invariant.done p v shows) (λ u seen. c.in-Err.ensures.part p u seen)

pub returns-clause-made : goal.returns-clause-made
returns-clause-made g c = λ p v shows. done_all p v _ _ c.turns.live c.turns.made _ _ (c.turns.invariant.done p v shows) (boot_all c.args.turns c.turns.turn (omega arith))
