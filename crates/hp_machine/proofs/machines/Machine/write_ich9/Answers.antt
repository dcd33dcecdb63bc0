-- As many processors as before.
use Rattle.hp_machine.proofs.Sizes.{sized_raised}
use Rattle.hp_machine.proofs.machines.Machine.write_ich9.Goals as goal

pub invariant_of-self : goal.invariant_of-self
invariant_of-self c = sized_raised c.self.inside.apic.items c.self.inside.cpus c.self.inside.block c.self.invariant _ _ _ _ _ c.write_ich9.ensures.cpus
