-- Fewer numbers are left.
use Rattle.hp_reading.proofs.headers.+numbers_onto.Given as goal

abbrev pub decreases-numbers_onto : goal.decreases-numbers_onto
decreases-numbers_onto l = l.left
