-- The events so far.
use Rattle.std.proofs.Common.{◌≡◌, ◌<◌, ℕ, length}
use Rattle.std.specs.Prelude.{slice_index_or}
use Rattle.hp_model.specs.Platform.{count_of}
use Rattle.hp_threads.proofs.runs.rest_host.Given as goal

abbrev pub invariant-loop-i : goal.invariant-loop-i
invariant-loop-i g l =
    (length l.running.marks ≡ l.i)
    × ((j : ℕ) → j < count_of g.E.Entered.world.platform → slice_index_or l.running.world.asked j 0 ≡ slice_index_or l.fn.running.world.asked j 0)
