-- What is read was written, and the other way round.
use Rattle.std.proofs.Common.{sym, ◌∙◌}
use Rattle.hp_top.proofs.Decimals.{no_number, number_if}
use Rattle.hp_top.proofs.numbers.number_of.Goals as goal

pub returns-clause-some : goal.returns-clause-some
returns-clause-some c = number_if c.args.word.now c.number_onto.result (sym c.number_onto.ensures)

pub returns-clause-none : goal.returns-clause-none
returns-clause-none c = λ none. no_number c.args.word.now (sym c.number_onto.ensures ∙ none)
