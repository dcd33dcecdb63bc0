-- The ways of a line feed.
use Rattle.std.proofs.Common.{refl, sym, ap, ◌∙◌}
use Rattle.hp_judge.specs.Standing.{after_line}
use Rattle.hp_judge.specs.Stages.{judged, standing}
use Rattle.hp_judge.proofs.Bytes.{byte_stays}
use Rattle.hp_judge.proofs.Telling.{byte_ends}
use Rattle.hp_judge.proofs.stages.end_kept.Goals as goal

pub returns-then-is_refused-clause-led : goal.returns-then-is_refused-clause-led
returns-then-is_refused-clause-led c = byte_stays (judged c.args.stage.now c.args.rest.now.items) 10 (sym c.is_refused.ensures ∙ c.if-is_refused.true)

pub returns-clause-led : goal.returns-clause-led
returns-clause-led c =
    byte_ends (standing c.args.stage.now) (standing c.end_line.new.stage) c.args.rest.now.items c.clear.new.self.items 10 (sym c.is_refused.ensures ∙ c.if-is_refused.false) refl
    (c.in_ok-end_line.ensures.led ∙ ap (after_line (standing c.args.stage.now)) c.as_slice.ensures.value) c.clear.ensures.items
