-- A turn of the boot after those before it.
use Rattle.std.proofs.Common.{◌≡◌, ◌-◌, ℕ, subst, arith}
use Rattle.hp_model.specs.declared.entries.Actor.TheVariants.{Cpu}
use Rattle.hp_top.specs.Doing.{Counted, Did}
use Rattle.hp_top.specs.Turns.{boot_left}
use Rattle.hp_top.proofs.Doing.{counted_both, counted_none, did_all, did_more, did_none}
use Rattle.hp_top.proofs.Turning.{boot_all, boot_next}
use Rattle.hp_top.proofs.summing.sum_boot.Goals as goal

pub turns-init : goal.turns-init
turns-init g c = record {
  done = λ p v shows.
      let all : c.args.turns ≡ c.args.turns - 0 = omega arith in
      subst (λ (n : ℕ). Did p v (boot_left c.args.turns) (boot_left n) c.args.live.now (Counted c.args.sum.now c.args.sum.now)) all
      (did_none p v (boot_left c.args.turns) c.args.live.now (Counted c.args.sum.now c.args.sum.now) shows (counted_none c.args.sum.now));
  sums = c.requires.sums;
  most = omega (arith, c.requires.none);
}

pub turns-preserved : goal.turns-preserved
turns-preserved g c = record {
  done = λ p v shows.
      did_more p v (boot_left c.args.turns) _ _ (Cpu 0) c.turns.live _ (Counted c.args.sum.now c.turns.sum) (Counted c.turns.sum c.sum_turn.new.sum) (Counted c.args.sum.now c.sum_turn.new.sum)
      (boot_next c.args.turns c.turns._turn c.turns-test.true) (λ es fs. counted_both c.args.sum.now c.turns.sum c.sum_turn.new.sum es fs) (c.turns.invariant.done p v shows)
      (λ u seen. c.in-Ok.ensures.done p u seen);
  sums = c.sum_turn.ensures.sums;
  most = omega (arith, c.sum_turn.ensures.most, c.turns.invariant.most);
}

pub returns-clause-done : goal.returns-clause-done
returns-clause-done g c = λ p v shows.
    did_all p v _ _ c.turns.live (Counted c.args.sum.now c.turns.sum) (boot_all c.args.turns c.turns._turn (omega arith)) (c.turns.invariant.done p v shows)
