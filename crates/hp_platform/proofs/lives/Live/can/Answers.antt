-- The model has a step where one was found.
use Rattle.std.proofs.Common.{sym, subst, ◌∙◌}
use Rattle.std.specs.Prelude.{◌≡◌, is_some}
use Rattle.hp_model.specs.Step.{step}
use Rattle.hp_platform.specs.Live.{Live}
use Rattle.hp_platform.proofs.Living.{can_step, state_in}
use Rattle.hp_platform.proofs.lives.Live.can.Goals as goal

pub returns : goal.returns
returns g c =
    let b = c.self.inside.board in
    let s = state_in b c.self.inside.steps.items in
    subst (λ (l : Live). c.is_some.result ≡ is_some (step l.platform l.state c.args.e.now)) c.self.view_is
    (c.is_some.ensures ∙ c.step_of.ensures.is s c.self.invariant.shows ∙ sym (can_step b.platform s c.args.e.now))
