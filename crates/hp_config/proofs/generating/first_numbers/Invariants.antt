-- The numbers so far are those below the next one.
use Rattle.std.proofs.Common.{◌≡◌}
use Rattle.hp_config.specs.Generated.{numbers_below}
use Rattle.hp_config.proofs.generating.first_numbers.Given as goal

abbrev pub invariant-loop-number : goal.invariant-loop-number
invariant-loop-number l = l.ids.items ≡ numbers_below l.number
