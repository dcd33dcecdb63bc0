-- The processors from this place on are still to be hit.
use Rattle.std.proofs.Common.{◌≡◌, true, length}
use Rattle.hp_model.specs.declared.processors.Kind.TheVariants.{Smi}
use Rattle.hp_model.specs.Interrupts.{hit_each}
use Rattle.hp_machine.specs.Machine.{hit_from}
use Rattle.hp_machine.proofs.interrupts.hit_all.Given as goal

abbrev pub invariant-loop-place : goal.invariant-loop-place
invariant-loop-place l = record {
  rest : hit_from (λ id. true) Smi l.place l.apic l.cpus ≡ hit_each (λ id. true) Smi l.apic l.fn.cpus;
  same : length l.cpus ≡ length l.apic;
}
