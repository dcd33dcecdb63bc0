-- The verdict of the text that was taken.
use Rattle.std.proofs.Common.{ℕ, List, subst, ap, ◌∙◌}
use Rattle.hp_judge.specs.Judging.{Judges}
use Rattle.hp_judge.specs.Standing.{verdict}
use Rattle.hp_judge.specs.Stages.{standing, text_of}
use Rattle.hp_judge.proofs.Verdicts.{finished}
use Rattle.hp_judge.proofs.judges.Judge.finish.Goals as goal

pub returns : goal.returns
returns c =
    subst (λ (text : List ℕ). Judges text c.close.result) c.self.view_is
    (finished (text_of c.self.inside.taken.items) c.self.inside.stage c.self.inside.rest.items c.close.result c.self.invariant
    (c.close.ensures ∙ ap (verdict (standing c.self.inside.stage)) c.as_slice.ensures.value) c.runs_are_safe.ensures)
