-- The digits so far make the value.
use Rattle.std.proofs.Common.{◌≡◌, ◌≤◌, drop}
use Rattle.hp_reading.specs.Forms.{decimal_onto}
use Rattle.hp_reading.proofs.fronts.onto.Given as goal

abbrev pub invariant-loop-at : goal.invariant-loop-at
invariant-loop-at l = (decimal_onto l.most l.made (drop l.at l.text) ≡ decimal_onto l.most l.value l.text) × (l.made ≤ l.most)
