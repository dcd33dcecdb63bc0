-- By the law.
use Rattle.std.proofs.Common.{subst, ◌∙◌}
use Rattle.std.proofs.lemmas.Result.{IfOk-weaker}
use Rattle.hp_model.specs.declared.platforms.Platform.{Platform}
use Rattle.hp_model.specs.Schedule.{act}
use Rattle.hp_platform.specs.Carrying.{ActsAs}
use Rattle.hp_top.proofs.running.take_turn.Goals as goal

pub returns : goal.returns
returns g c = λ p v shows. IfOk-weaker c.turn.result _ _
    (λ turn turned. record {
      platform = c.turn.ensures.platform ∙ shows.platform;
      acts = subst (λ (q : Platform). ActsAs c.turn.new.self v (λ w. act q w c.args.actor) turn) shows.platform
          (c.a_turn_is_the_schedules.ensures c.args.live.now c.turn.new.self c.args.actor turn v shows.carries turned);
    })
    c.turn.ensures.turned
