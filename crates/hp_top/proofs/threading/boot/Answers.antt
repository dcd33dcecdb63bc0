-- A turn of the boot after those before it.
use Rattle.std.proofs.Common.{◌≡◌, ◌-◌, List, arith, subst}
use Rattle.hp_model.specs.declared.entries.Actor.{Actor}
use Rattle.hp_top.specs.Turns.{boot_left}
use Rattle.hp_top.specs.Worlds.{IsBooting}
use Rattle.hp_top.proofs.Turning.{boot_all, boot_next}
use Rattle.hp_top.proofs.threading.boot.Goals as goal

pub turns-init : goal.turns-init
turns-init g c = record {
  boots = λ p told b.
      let all : c.args.turns ≡ c.args.turns - 0 = omega arith in subst (λ n. IsBooting p told (boot_left c.args.turns) (boot_left n) c.args.world.now) all b;
  small = λ most few place. let less = few place in omega (arith, less);
}

pub turns-preserved : goal.turns-preserved
turns-preserved g c = record {
  boots = λ p told b.
      c.in-Ok.ensures.boots p told _ _
      (subst (λ (xs : List Actor). IsBooting p told (boot_left c.args.turns) xs c.turns.world) (boot_next c.args.turns c.turns._turn c.turns-test.true) (c.turns.invariant.boots p told b));
  small = λ most few place. let less = c.in-Ok.ensures.small _ (c.turns.invariant.small most few) place in omega (arith, less);
}

pub returns-clause-boots : goal.returns-clause-boots
returns-clause-boots g c = λ p told b.
    subst (λ (xs : List Actor). IsBooting p told (boot_left c.args.turns) xs c.turns.world) (boot_all c.args.turns c.turns._turn (omega arith)) (c.turns.invariant.boots p told b)

pub returns-clause-small : goal.returns-clause-small
returns-clause-small g c = λ most few place. let less = c.turns.invariant.small most few place in omega (arith, less, c.turns.auto._turn-end)
