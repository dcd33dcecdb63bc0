-- A processor's turn keeps what is kept, and is counted.
use Rattle.std.proofs.Common.{◌+◌, ℕ, arith, ap, ◌∙◌}
use Rattle.std.specs.Prelude.{slice_index_or}
use Rattle.hp_threads.specs.Running.{Running}
use Rattle.hp_threads.proofs.Turning.{cpu_counted, kept_cpu}
use Rattle.hp_threads.proofs.running.Running.turn_cpu.Goals as goal

pub invariant_of-self-2 : goal.invariant_of-self-2
invariant_of-self-2 g c =
    (kept_cpu g.E.Entered.world c.self.inside.world c.turn.new.self g.E.Entered.turns g.E.Entered.hosts c.self.inside.marks.items c.self.invariant.0 c.sound.ensures c.turn.ensures.platform c.args.cpu c.requires.cpu c.own_turns-own.result (ap (λ (r : Running). slice_index_or r.world.asked c.args.cpu 0) c.self.view_is ∙ c.own_turns-own.ensures.asked) (omega (arith, c.self.invariant.2, c.if-own-self.false)) c.turn_actor.result c.platform.result.now c.turn_actor.ensures c.platform.ensures c.in_ok-turn.field-0 c.in_ok-turn.ensures.turned, c.self.invariant.1, c.self.invariant.2)

pub returns-clause-others : goal.returns-clause-others
returns-clause-others g c =
    λ j other. (cpu_counted g.E.Entered.world c.self.inside.world c.turn.new.self g.E.Entered.turns g.E.Entered.hosts c.self.inside.marks.items c.self.invariant.0 c.sound.ensures c.turn.ensures.platform c.args.cpu c.requires.cpu c.own_turns-own.result (ap (λ (r : Running). slice_index_or r.world.asked c.args.cpu 0) c.self.view_is ∙ c.own_turns-own.ensures.asked) (omega (arith, c.self.invariant.2, c.if-own-self.false)) c.turn_actor.result c.platform.result.now c.turn_actor.ensures c.platform.ensures c.in_ok-turn.field-0 c.in_ok-turn.ensures.turned).1 j other ∙ ap (λ (r : Running). slice_index_or r.world.asked j 0) c.self.view_is

pub returns-clause-asked : goal.returns-clause-asked
returns-clause-asked g c =
    λ left. (cpu_counted g.E.Entered.world c.self.inside.world c.turn.new.self g.E.Entered.turns g.E.Entered.hosts c.self.inside.marks.items c.self.invariant.0 c.sound.ensures c.turn.ensures.platform c.args.cpu c.requires.cpu c.own_turns-own.result (ap (λ (r : Running). slice_index_or r.world.asked c.args.cpu 0) c.self.view_is ∙ c.own_turns-own.ensures.asked) (omega (arith, c.self.invariant.2, c.if-own-self.false)) c.turn_actor.result c.platform.result.now c.turn_actor.ensures c.platform.ensures c.in_ok-turn.field-0 c.in_ok-turn.ensures.turned).0 ∙ ap (λ (n : ℕ). n + 1) (ap (λ (r : Running). slice_index_or r.world.asked c.args.cpu 0) c.self.view_is)
