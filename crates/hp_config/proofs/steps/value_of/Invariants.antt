-- The digits so far make the value, which has no more places than they are.
use Rattle.std.proofs.Common.{◌≡◌, drop}
use Rattle.hp_config.specs.Script.{hex_onto}
use Rattle.hp_config.proofs.Digits.{IsBelow}
use Rattle.hp_config.proofs.steps.value_of.Given as goal

abbrev pub invariant-loop-byte : goal.invariant-loop-byte
invariant-loop-byte l = (hex_onto l.value (drop l.byte-index l.text) ≡ hex_onto 0 l.text) × IsBelow l.value l.byte-index
