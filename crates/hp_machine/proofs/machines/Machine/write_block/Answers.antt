-- What a write of the register block leaves.
use Rattle.std.proofs.Common.{sym, subst, ◌-◌}
use Rattle.hp_machine.specs.Machine.{Machine, StandsFor}
use Rattle.hp_machine.proofs.Sizes.{sized_block}
use Rattle.hp_machine.proofs.PortWrites.{block_state}
use Rattle.hp_machine.proofs.machines.Machine.write_block.Goals as goal

pub invariant_of-self : goal.invariant_of-self
invariant_of-self c =
    sized_block c.self.inside.apic.items c.self.inside.cpus c.self.inside.block c.self.invariant (c.args.port - 0xcd8) c.args.width c.args.value _ _ _
    c.write_block-ejected.ensures.block c.write_block-ejected.ensures.cpus

pub returns-clause-state : goal.returns-clause-state
returns-clause-state c = λ p s is.
    block_state p _ s (subst (λ (m : Machine). StandsFor p m s) (sym c.self.view_is) is) _ (c.args.port - 0xcd8) c.args.width c.args.value
    c.write_block-ejected.new.block c.write_block-ejected.new.cpus c.write_block-ejected.ensures.block c.write_block-ejected.ensures.cpus
