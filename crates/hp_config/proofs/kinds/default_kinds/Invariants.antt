-- The kinds so far are those of the places so far.
use Rattle.std.proofs.Common.{◌≡◌}
use Rattle.hp_config.specs.Kinds.{default_kinds}
use Rattle.hp_config.proofs.kinds.default_kinds.Given as goal

abbrev pub invariant-loop-place : goal.invariant-loop-place
invariant-loop-place l = l.kinds.items ≡ default_kinds l.boot l.place
