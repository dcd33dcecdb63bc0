-- The ways of bytes that don't end a line.
use Rattle.std.proofs.Common.{length, sym, ap, ◌∙◌, arith}
use Rattle.hp_judge.specs.Stages.{judged, standing}
use Rattle.hp_judge.proofs.Taking.{bytes_kept, bytes_stay, over_taken}
use Rattle.hp_judge.proofs.stages.keep.Goals as goal

pub returns-then-is_refused-clause-led : goal.returns-then-is_refused-clause-led
returns-then-is_refused-clause-led c = bytes_stay c.args.bytes.now (judged c.args.stage.now c.args.rest.now.items) (sym c.is_refused.ensures ∙ c.if-is_refused.true)

pub returns-in_ok-extend_from_slice-clause-led : goal.returns-in_ok-extend_from_slice-clause-led
returns-in_ok-extend_from_slice-clause-led c =
    ap (judged c.args.stage.now) c.in_ok-extend_from_slice.ensures.items
    ∙ bytes_kept c.args.bytes.now c.args.rest.now.items (standing c.args.stage.now) (sym c.is_refused.ensures ∙ c.if-is_refused.false) c.requires.free
    (omega (arith, c.if-bytes-saturating_sub.true, c.saturating_sub.ensures, ap length c.as_slice.ensures.value))

pub returns-else-bytes-saturating_sub-clause-led : goal.returns-else-bytes-saturating_sub-clause-led
returns-else-bytes-saturating_sub-clause-led c =
    over_taken c.args.bytes.now c.args.rest.now.items c.clear.new.self.items (standing c.args.stage.now) (standing c.over.result) (sym c.is_refused.ensures ∙ c.if-is_refused.false) c.requires.free
    (omega (arith, c.if-bytes-saturating_sub.false, c.saturating_sub.ensures, ap length c.as_slice.ensures.value)) c.over.ensures.led c.clear.ensures.items
