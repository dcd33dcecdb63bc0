-- So many places so far.
use Rattle.std.proofs.Common.{◌≡◌, take}
use Rattle.hp_threads.proofs.running.asked_all.Given as goal

abbrev pub invariant-loop-place : goal.invariant-loop-place
invariant-loop-place g l = l.asked.items ≡ take l.place l.world.asked
