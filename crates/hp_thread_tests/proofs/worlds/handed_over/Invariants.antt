-- Each number of turns is at most that of the turns so far.
use Rattle.std.proofs.Common.{◌<◌, ◌+◌, ℕ}
use Rattle.std.specs.Prelude.{slice_index_or}
use Rattle.hp_thread_tests.proofs.worlds.handed_over.Given as goal

abbrev pub invariant-loop-turn : goal.invariant-loop-turn
invariant-loop-turn g l = (j : ℕ) → slice_index_or l.world.asked j 0 < l._turn + 1
