-- The processors from this place on are still to be hit.
use Rattle.std.proofs.Common.{◌≡◌, length}
use Rattle.hp_model.specs.Interrupts.{is_target, hit_each}
use Rattle.hp_machine.specs.Machine.{hit_from}
use Rattle.hp_machine.proofs.interrupts.send_to_targets.Given as goal

abbrev pub invariant-loop-place : goal.invariant-loop-place
invariant-loop-place l = record {
  rest : hit_from (is_target l.ipi.to l.sender) l.ipi.kind l.place l.apic l.cpus ≡ hit_each (is_target l.ipi.to l.sender) l.ipi.kind l.apic l.fn.cpus;
  same : length l.cpus ≡ length l.apic;
}
