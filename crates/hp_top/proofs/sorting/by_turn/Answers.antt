-- The sort's clauses, where each key is the turn.
use Rattle.std.proofs.Common.{rules, ◌∙◌, ap, arith}
use Rattle.std.proofs.lemmas.List.Sorted.{IsNonDecreasingBy-from_sort_by_key, answers_always}
use Rattle.hp_top.specs.Turns.{at_turn, turn_of}
use Rattle.hp_top.proofs.Rising.{at_turn-sorted, rises}
use Rattle.hp_top.proofs.sorting.by_turn.Goals as goal

pub returns-clause-rises : goal.returns-clause-rises
returns-clause-rises c =
    rises turn_of 0 _ (λ d some. omega arith) (IsNonDecreasingBy-from_sort_by_key turn_of _ c.in_ok-sort_by_key.ensures.sorted (λ a r q k. search rules))

pub returns-clause-same : goal.returns-clause-same
returns-clause-same c =
    λ turn. at_turn-sorted c.in_ok-sorted.sorted.items _ (c.sort_by_key.ensures.stable (λ h. h.turn) (answers_always _ _ _ (λ f a r g h. search rules))) turn ∙ ap (at_turn turn) c.in_ok-sorted.ensures.items
