-- The entries are a run, and each run is safe.
use Rattle.std.proofs.Common.{subst}
use Rattle.hp_model.specs.Safety.{IsSafe}
use Rattle.hp_platform.specs.World.{World}
use Rattle.hp_platform.proofs.worlds.World.entries.Goals as goal

pub returns-clause-safe : goal.returns-clause-safe
returns-clause-safe g c =
    subst (λ (w : World). IsSafe w.platform w.entries) c.self.view_is
    (c.runs_are_safe.ensures c.self.inside.live.platform c.self.inside.entries.items c.self.inside.live.state c.self.invariant.fit c.self.invariant.replay)
