-- What is left ascends from the last number exactly where the whole does from the first bound.
use Rattle.std.proofs.Common.{◌≡◌, drop}
use Rattle.hp_model.specs.Platform.{ascends_from}
use Rattle.hp_model.proofs.rules.ascends.Given as goal

abbrev pub invariant-loop-number : goal.invariant-loop-number
invariant-loop-number l = ascends_from l.last (drop l.number-index l.numbers) ≡ ascends_from l.fn.low l.fn.numbers
