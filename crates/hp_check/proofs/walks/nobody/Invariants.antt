-- A place for each processor so far.
use Rattle.std.proofs.Common.{◌≡◌, length}
use Rattle.hp_check.proofs.walks.nobody.Given as goal

abbrev pub invariant-loop-place : goal.invariant-loop-place
invariant-loop-place l = length l.places.items ≡ l._place
