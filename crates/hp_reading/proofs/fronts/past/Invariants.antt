-- The bytes so far are the same.
use Rattle.std.proofs.Common.{◌≡◌, drop}
use Rattle.hp_reading.specs.Forms.{past as text_past}
use Rattle.hp_reading.proofs.fronts.past.Given as goal

abbrev pub invariant-loop-at : goal.invariant-loop-at
invariant-loop-at l = text_past (drop l.at l.word) (drop l.at l.text) ≡ text_past l.word l.text
