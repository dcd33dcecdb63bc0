-- The lemma takes a choice of widths, which no tactic matches.
use Rattle.hp_regs.proofs.Bitmap.{legacy_reads_more}
use Rattle.hp_regs.proofs.laws.offset_0_tells_the_form.Goals as goal

pub returns-clause-legacy : goal.returns-clause-legacy
returns-clause-legacy c = legacy_reads_more
