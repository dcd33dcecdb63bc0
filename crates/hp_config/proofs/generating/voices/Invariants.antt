-- The kinds so far are those of the processors so far.
use Rattle.std.proofs.Common.{◌≡◌}
use Rattle.hp_config.specs.Generated.{generated_kinds}
use Rattle.hp_config.proofs.generating.voices.Given as goal

abbrev pub invariant-loop-cpu : goal.invariant-loop-cpu
invariant-loop-cpu l = l.kinds.items ≡ generated_kinds l.n l.cpu
