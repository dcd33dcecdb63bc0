-- One turn raises each number by one at most.
use Rattle.std.proofs.Common.{◌+◌, ℕ, List, arith, ap, ◌∙◌}
use Rattle.std.specs.Prelude.{slice_index_or}
use Rattle.hp_model.specs.declared.entries.Actor.TheVariants.{Cpu}
use Rattle.hp_threads.proofs.Counting.{turned_small, zero_at}
use Rattle.hp_thread_tests.proofs.worlds.handed_over.Goals as goal

pub loop-turn-init : goal.loop-turn-init
loop-turn-init g c = λ j. let none = ap (λ (xs : List ℕ). slice_index_or xs j 0) c.in_ok-world.ensures.asked ∙ zero_at _ j in omega (arith, none)

pub loop-turn-preserved : goal.loop-turn-preserved
loop-turn-preserved g c = turned_small c.loop-turn.world c.turn.new.self (Cpu 0) c.in_ok-turn.field-0 (c.loop-turn._turn + 1) c.in_ok-turn.ensures.turned c.loop-turn.invariant
