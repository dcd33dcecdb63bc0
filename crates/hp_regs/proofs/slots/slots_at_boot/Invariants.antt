-- What is made and what is still to come are all slots.
use Rattle.std.proofs.Common.{◌≡◌, ◌++◌, drop}
use Rattle.hp_model.specs.Block.{slots_from}
use Rattle.hp_regs.proofs.slots.slots_at_boot.Given as goal

abbrev pub invariant-loop-place : goal.invariant-loop-place
invariant-loop-place l = l.slots.items ++ slots_from l.place (drop l.place l.apic) l.boot ≡ slots_from 0 l.apic l.boot
