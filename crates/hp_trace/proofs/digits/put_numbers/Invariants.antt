use Rattle.std.proofs.Common.{drop}
use Rattle.hp_model.specs.Text.{numbers_text}
use Rattle.hp_trace.proofs.Texts.{IsOnTheWay, after_commas}
use Rattle.hp_trace.proofs.digits.put_numbers.Given as goal

abbrev pub invariant-loop-number : goal.invariant-loop-number
invariant-loop-number l = IsOnTheWay l.fn.out.items l.out.items (after_commas (drop l.number-index l.rest)) (numbers_text l.numbers)
