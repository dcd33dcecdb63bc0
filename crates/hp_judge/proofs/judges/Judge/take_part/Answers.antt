-- Bytes behind what is kept.
use Rattle.std.proofs.Common.{List, ℕ, ◌++◌, ap, ◌∙◌}
use Rattle.hp_judge.proofs.Verdicts.{piece_judged}
use Rattle.hp_judge.proofs.judges.Judge.take_part.Goals as goal

pub invariant_of-self-2 : goal.invariant_of-self-2
invariant_of-self-2 c =
    piece_judged c.self.inside.taken.items c.note.new.taken.items c.args.bytes.now c.self.inside.stage c.keep.new.stage c.self.inside.rest.items c.keep.new.rest.items
    c.note.ensures c.self.invariant c.in_ok-keep.ensures.held c.in_ok-keep.ensures.led

pub returns-clause-taken : goal.returns-clause-taken
returns-clause-taken c = c.note.ensures ∙ ap (λ (text : List ℕ). text ++ c.args.bytes.now) c.self.view_is
