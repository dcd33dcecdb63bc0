-- A digit fewer is left.
use Rattle.std.proofs.Common.{length}
use Rattle.hp_top.proofs.numbers.+number_onto.Given as goal

abbrev pub decreases-number_onto : goal.decreases-number_onto
decreases-number_onto l = length l.word.now
