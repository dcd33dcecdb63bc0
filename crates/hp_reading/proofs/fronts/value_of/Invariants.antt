-- The digits so far make the value, which has no more places than they are.
use Rattle.std.proofs.Common.{◌≡◌, drop}
use Rattle.hp_reading.specs.Forms.{hex_onto}
use Rattle.hp_reading.proofs.Digits.{IsBelow}
use Rattle.hp_reading.proofs.fronts.value_of.Given as goal

abbrev pub invariant-loop-byte : goal.invariant-loop-byte
invariant-loop-byte l = (hex_onto l.value (drop l.byte-index l.text) ≡ hex_onto 0 l.text) × IsBelow l.value l.byte-index
