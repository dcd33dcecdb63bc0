-- What stands at entry is kept.
use Rattle.std.proofs.Common.{List, ℕ, ap, subst, sym, ◌∙◌}
use Rattle.hp_platform.specs.World.{IsSound, World}
use Rattle.hp_threads.specs.Running.{IsKept}
use Rattle.hp_threads.proofs.Leaving.{kept_entry}
use Rattle.hp_threads.proofs.running.Running.new.Goals as goal

pub invariant_of-result : goal.invariant_of-result
invariant_of-result g c = (
  subst (λ (w : World). IsKept g.E.Entered.world g.E.Entered.turns g.E.Entered.hosts (record { world = w; marks = c.new.result.items })) (sym c.requires.world)
      (subst (λ (ms : List ℕ). IsKept g.E.Entered.world g.E.Entered.turns g.E.Entered.hosts (record { world = g.E.Entered.world; marks = ms })) (sym c.new.ensures.items)
      (kept_entry g.E.Entered.world g.E.Entered.turns g.E.Entered.hosts c.requires.ready (subst (λ (w : World). IsSound w) c.requires.world c.sound.ensures))),
  c.in_ok-before.ensures ∙ ap (λ (w : World). w.asked) c.requires.world,
  c.requires.turns,
)
