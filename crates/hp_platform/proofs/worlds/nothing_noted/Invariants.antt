-- So many places so far.
use Rattle.std.proofs.Common.{◌≡◌, None, replicate}
use Rattle.hp_platform.proofs.worlds.nothing_noted.Given as goal

abbrev pub invariant-loop-place : goal.invariant-loop-place
invariant-loop-place l = l.notes.items ≡ replicate l._place None
