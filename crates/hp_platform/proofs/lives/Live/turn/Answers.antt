-- An actor that sleeps has no step, and nothing changes.
use Rattle.std.proofs.Common.{◌≡◌, subst}
use Rattle.hp_platform.specs.Live.{IsIdle, Live}
use Rattle.hp_platform.proofs.Living.{idle_turn, seen, state_in}
use Rattle.hp_platform.proofs.lives.Live.turn.Goals as goal

pub returns-then-sleeps-clause-turned : goal.returns-then-sleeps-clause-turned
returns-then-sleeps-clause-turned g c =
    let b = c.self.inside.board in
    let old = seen b.platform c.self.inside.steps.items c.self.inside.agents.voices c.self.inside.agents.heard c.self.inside.last.items in
    subst (λ (l : Live). IsIdle l l c.args.a) c.self.view_is
    (idle_turn old c.args.a (c.sleeps.ensures (state_in b c.self.inside.steps.items) c.self.invariant.shows c.if-sleeps.true))
