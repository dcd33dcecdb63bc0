-- The sort's clauses, where each key is the stall's start.
use Rattle.std.proofs.Common.{rules, ◌∙◌, sym, ap, arith}
use Rattle.std.proofs.lemmas.List.Sorted.{IsNonDecreasingBy-from_sort_by_key, list_any-IsPermutation}
use Rattle.hp_model.specs.Schedule.{is_stalled}
use Rattle.hp_top.specs.Turns.{start_of}
use Rattle.hp_top.proofs.Rising.{rises}
use Rattle.hp_top.proofs.stalling.by_start.Goals as goal

pub returns-clause-rises : goal.returns-clause-rises
returns-clause-rises c =
    rises start_of 0 _ (λ d some. omega arith) (IsNonDecreasingBy-from_sort_by_key start_of _ c.in_ok-sort_by_key.ensures.sorted (λ a r q k. search rules))

pub returns-clause-same : goal.returns-clause-same
returns-clause-same c =
    λ k t. sym (list_any-IsPermutation _ c.in_ok-sorted.sorted.items _ c.sort_by_key.ensures.permutation) ∙ ap (λ ss. is_stalled ss k t) c.in_ok-sorted.ensures.items
