-- A line that lies in the piece whole.
use Rattle.std.proofs.Common.{length, sym, ap, ◌∙◌, arith}
use Rattle.std.proofs.lemmas.Bool.{eqb-true}
use Rattle.hp_judge.proofs.Verdicts.{line_judged}
use Rattle.hp_judge.proofs.judges.Judge.take_line.Goals as goal

pub invariant_of-self-then-line-le-LONGEST : goal.invariant_of-self-then-line-le-LONGEST
invariant_of-self-then-line-le-LONGEST c =
    line_judged c.self.inside.taken.items c.note.new.taken.items c.note-then-line-le-LONGEST.new.taken.items c.args.line.now c.self.inside.stage c.end_line.new.stage c.self.inside.rest.items
    c.note.ensures c.note-then-line-le-LONGEST.ensures c.self.invariant c.in_ok-end_line.ensures.held
    (ap length (sym c.as_slice.ensures.value) ∙ eqb-true (length c.as_slice.result.now) 0 (sym c.is_empty.ensures ∙ c.if-is_empty.true)) c.requires (omega (arith, c.if-line-le-LONGEST.true)) c.in_ok-end_line.ensures.led
