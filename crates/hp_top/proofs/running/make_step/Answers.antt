-- No entry, or one whose line was sent.
use Rattle.std.proofs.Common.{subst}
use Rattle.hp_model.specs.Schedule.{act}
use Rattle.hp_platform.specs.declared.worlds.Turn.{Turn}
use Rattle.hp_top.specs.Lives.{Takes}
use Rattle.hp_top.proofs.Lines.{sends_none, sends_one, cuts_one}
use Rattle.hp_top.proofs.running.make_step.Goals as goal

pub returns-in-Ok-Idle-clause-made : goal.returns-in-Ok-Idle-clause-made
returns-in-Ok-Idle-clause-made g c = λ p v shows.
    sends_none p _ v (λ w. act p w c.args.actor) (g.K.Sink.held c.args.out.now) (g.K.Sink.held c.args.out.now)
    (subst (λ (turn : Turn). Takes p c.take_turn.new.live v (λ w. act p w c.args.actor) turn) c.in-Ok-Idle.field-0-is (c.in-Ok-Idle.ensures p v shows))

pub returns-in-Ok-clause-made : goal.returns-in-Ok-clause-made
returns-in-Ok-clause-made g c = λ p v shows.
    sends_one p _ v (λ w. act p w c.args.actor) _ _ c.in-Ok-Made.entry
    (subst (λ (turn : Turn). Takes p c.take_turn.new.live v (λ w. act p w c.args.actor) turn) c.in-Ok-Made.field-0-is (c.in-Ok-Made.ensures p v shows)) c.in-Ok.ensures.all

pub returns-in-Err-send_line-clause-part : goal.returns-in-Err-send_line-clause-part
returns-in-Err-send_line-clause-part g c = λ p v shows.
    cuts_one p _ v (λ w. act p w c.args.actor) _ _ c.in-Ok-Made.entry
    (subst (λ (turn : Turn). Takes p c.take_turn.new.live v (λ w. act p w c.args.actor) turn) c.in-Ok-Made.field-0-is (c.in-Ok-Made.ensures p v shows)) c.in-Err-send_line.ensures.part
