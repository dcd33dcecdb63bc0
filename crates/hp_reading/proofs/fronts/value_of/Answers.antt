-- Fifteen digits leave room for one more.
use Rattle.std.proofs.Common.{arith}
use Rattle.hp_reading.proofs.Digits.{below_fits}
use Rattle.hp_reading.proofs.fronts.value_of.Goals as goal

pub overflow_mul-value : goal.overflow_mul-value
overflow_mul-value c = omega (arith, below_fits c.loop-byte.value c.loop-byte.byte-index c.loop-byte.invariant.1 (omega arith))

pub overflow_add-value : goal.overflow_add-value
overflow_add-value c = omega (arith, c.in-Some.ensures.small, below_fits c.loop-byte.value c.loop-byte.byte-index c.loop-byte.invariant.1 (omega arith))
