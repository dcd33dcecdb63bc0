use Rattle.std.proofs.Common.{arith}
use Rattle.hp_mem.proofs.Values.{below_more, fits_more}
use Rattle.hp_mem.proofs.pages.+value_at.Goals as goal

pub overflow_mul-result : goal.overflow_mul-result
overflow_mul-result t c = omega (arith, fits_more 0 c.value_at.result c.args.width (omega arith) c.value_at.ensures.below (omega arith) c.requires.width)

pub overflow_add-result : goal.overflow_add-result
overflow_add-result t c = omega (arith, fits_more c.byte_of.result c.value_at.result c.args.width (omega arith) c.value_at.ensures.below (omega arith) c.requires.width)

pub returns-clause-below : goal.returns-clause-below
returns-clause-below t c = below_more c.from.result c.value_at.result c.args.width (omega arith) c.value_at.ensures.below (omega arith)
