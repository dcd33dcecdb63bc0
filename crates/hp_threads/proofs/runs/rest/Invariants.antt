-- The processors so far.
use Rattle.std.proofs.Common.{◌≡◌, ◌<◌, ◌+◌, ℕ}
use Rattle.std.specs.Prelude.{slice_index_or}
use Rattle.hp_threads.proofs.runs.rest.Given as goal

abbrev pub invariant-loop-place : goal.invariant-loop-place
invariant-loop-place g l = (k : ℕ) → k < l.place → slice_index_or l.running.world.asked k 0 ≡ slice_index_or g.E.Entered.world.asked k 0 + g.E.Entered.turns
