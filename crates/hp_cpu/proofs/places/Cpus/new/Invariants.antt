-- The boot processors that are still to come lead to the start.
use Rattle.std.proofs.Common.{◌≡◌, length, drop}
use Rattle.hp_model.specs.Cpu.{boot_cpus, cpus_start}
use Rattle.hp_cpu.proofs.places.Cpus.new.Given as goal

abbrev pub invariant-loop-slot : goal.invariant-loop-slot
invariant-loop-slot l = record {
  count : length l.cpus.items ≡ length l.p.apic;
  rest : boot_cpus l.p l.slot (drop l.slot l.p.boot) l.cpus.items ≡ cpus_start l.p;
}
