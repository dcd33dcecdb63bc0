-- What a world keeps, as callers see it.
use Rattle.std.proofs.Common.{IsSome, Option, refl, sym, subst}
use Rattle.hp_model.specs.State.{State}
use Rattle.hp_platform.specs.World.{IsSound, World}
use Rattle.hp_platform.proofs.worlds.World.sound.Goals as goal

pub returns : goal.returns
returns g c =
    subst (λ (w : World). IsSound w) c.self.view_is (record {
      fit = c.self.invariant.fit;
      run = subst (λ (o : Option State). IsSome o) (sym c.self.invariant.replay) refl;
      noted = c.self.invariant.noted;
    })
