-- A new world has no entries, and no idle turn.
use Rattle.std.proofs.Common.{ℕ, ◌+◌, List, replicate, None, sym, ap, subst, ◌∙◌}
use Rattle.hp_model.specs.declared.platforms.Platform.{Platform}
use Rattle.hp_model.specs.declared.entries.Entry.{Entry}
use Rattle.hp_model.specs.Platform.{IsFit, count_of, is_late}
use Rattle.hp_model.specs.State.{start}
use Rattle.hp_platform.specs.World.{IsKept, idle_places}
use Rattle.hp_platform.proofs.Turning.{kept_start}
use Rattle.hp_platform.proofs.worlds.World.new.Goals as goal

pub invariant_of-result : goal.invariant_of-result
invariant_of-result g c =
    let l = c.in_ok-live.live in
    let same = c.in_ok-live.ensures.platform in
    subst (λ (es : List Entry). IsKept l es c.in_ok-asked.asked.items c.in_ok-idle.idle.items) (sym c.new-2.ensures.items)
    (kept_start l c.in_ok-asked.asked.items c.in_ok-idle.idle.items (subst (λ (p : Platform). IsFit p) (sym same) c.requires.fit) (c.in_ok-live.ensures.state ∙ ap start (sym same))
    (c.in_ok-asked.ensures.items_if_clones_equal (λ y e. e) ∙ ap (λ (n : ℕ). replicate (n + 1) 0) (c.possible.ensures.value ∙ ap count_of (sym same)))
    (c.in_ok-idle.ensures ∙ ap (λ (n : ℕ). replicate n None) (c.many_places.ensures ∙ ap (λ (p : Platform). idle_places (is_late p.delivery) (count_of p)) (sym same))))
