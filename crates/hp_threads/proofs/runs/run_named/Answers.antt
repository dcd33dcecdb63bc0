-- What is kept once all turns were made is what the call leaves.
use Rattle.std.proofs.Common.{ap, arith, length, ◌∙◌}
use Rattle.std.specs.Prelude.{slice_index_or}
use Rattle.hp_platform.specs.World.{World}
use Rattle.hp_threads.proofs.Leaving.{left, many_more}
use Rattle.hp_threads.proofs.runs.run_named.Goals as goal

pub returns-clause-left : goal.returns-clause-left
returns-clause-left g c =
    left g.E.Entered.world c.finish-world.result.0 g.E.Entered.turns g.E.Entered.hosts c.finish-world.result.1.items c.finish-world.ensures.kept c.finish-world.ensures.sound
    (λ k inside. ap (λ (w : World). slice_index_or w.asked k 0) c.finish-world.ensures.world ∙ c.in_ok-rest.ensures.cpus k inside)
    (ap length c.finish-world.ensures.marks ∙ c.in_ok-rest.ensures.host)

pub overflow_sub-made : goal.overflow_sub-made
overflow_sub-made g c =
    let more = many_more g.E.Entered.world c.finish-world.result.0 g.E.Entered.turns g.E.Entered.hosts c.finish-world.result.1.items c.finish-world.ensures.kept c.entries.result.now c.entries-many.result.now c.entries.ensures.entries (c.entries-many.ensures.entries ∙ ap (λ (w : World). w.entries) c.requires.world) in
    omega (arith, more)

pub returns-clause-made : goal.returns-clause-made
returns-clause-made g c =
    let more = many_more g.E.Entered.world c.finish-world.result.0 g.E.Entered.turns g.E.Entered.hosts c.finish-world.result.1.items c.finish-world.ensures.kept c.entries.result.now c.entries-many.result.now c.entries.ensures.entries (c.entries-many.ensures.entries ∙ ap (λ (w : World). w.entries) c.requires.world) in
    omega (arith, more)
