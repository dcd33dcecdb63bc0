-- The base that is loaded has 4 bytes.
use Rattle.std.proofs.Common.{arith}
use Rattle.hp_reloc.proofs.Bases.{base_below}
use Rattle.hp_reloc.proofs.first.first_next.Goals as goal

pub overflow_cast-result : goal.overflow_cast-result
overflow_cast-result c = omega (arith, c.value-value.ensures, base_below c.args.label c.args.apic c.args.base c.args.answer c.in-F2.is c.requires.fits)
