-- A line feed behind what is kept.
use Rattle.std.proofs.Common.{List, ℕ, [], ◌∷◌, ◌++◌, sym, ap, ◌∙◌}
use Rattle.hp_judge.specs.Stages.{text_of}
use Rattle.hp_judge.proofs.Taking.{after-feed}
use Rattle.hp_judge.proofs.Verdicts.{piece_judged, text_of-snoc}
use Rattle.hp_judge.proofs.judges.Judge.take_feed.Goals as goal

pub invariant_of-self-2 : goal.invariant_of-self-2
invariant_of-self-2 c =
    piece_judged c.self.inside.taken.items c.and-self-inside.result.items (10 ∷ []) c.self.inside.stage c.end_kept.new.stage c.self.inside.rest.items c.end_kept.new.rest.items
    (ap text_of c.and-self-inside.ensures ∙ text_of-snoc c.self.inside.taken.items 10 _) c.self.invariant c.in_ok-end_kept.ensures.held (c.in_ok-end_kept.ensures.led ∙ sym (after-feed _))

pub returns-clause-taken : goal.returns-clause-taken
returns-clause-taken c =
    ap text_of c.and-self-inside.ensures ∙ text_of-snoc c.self.inside.taken.items 10 _ ∙ ap (λ (text : List ℕ). text ++ 10 ∷ []) c.self.view_is
