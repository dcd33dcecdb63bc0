-- The first from here on is the first of all.
use Rattle.std.proofs.Common.{◌≡◌, drop}
use Rattle.hp_model.specs.Slots.{first_true}
use Rattle.hp_reloc.proofs.slots.first_known.Given as goal

abbrev pub invariant-loop-slot : goal.invariant-loop-slot
invariant-loop-slot l = first_true l.slot (drop l.slot l.known) ≡ first_true l.from (drop l.from l.known)
