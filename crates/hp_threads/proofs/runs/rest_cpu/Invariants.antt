-- The turns so far.
use Rattle.std.proofs.Common.{◌≡◌, ◌≢◌, ◌+◌, ℕ}
use Rattle.std.specs.Prelude.{slice_index_or}
use Rattle.hp_threads.proofs.runs.rest_cpu.Given as goal

abbrev pub invariant-loop-turn : goal.invariant-loop-turn
invariant-loop-turn g l =
    (slice_index_or l.running.world.asked l.cpu 0 ≡ slice_index_or g.E.Entered.world.asked l.cpu 0 + l.turn)
    × ((j : ℕ) → j ≢ l.cpu → slice_index_or l.running.world.asked j 0 ≡ slice_index_or l.fn.running.world.asked j 0)
    × (l.running.marks ≡ l.fn.running.marks)
