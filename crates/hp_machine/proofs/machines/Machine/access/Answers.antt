-- What a port read and an interrupt command leave.
use Rattle.std.proofs.Common.{None, sym, ◌∙◌, ap, subst}
use Rattle.hp_model.specs.declared.accesses.Answer.TheVariants.{Value}
use Rattle.hp_machine.specs.Machine.{Machine, StandsFor}
use Rattle.hp_machine.proofs.Sizes.{sized_sent}
use Rattle.hp_machine.proofs.PortWrites.{read_value, read_state}
use Rattle.hp_machine.proofs.machines.Machine.access.Goals as goal

pub invariant_of-self-in-Icr : goal.invariant_of-self-in-Icr
invariant_of-self-in-Icr c = sized_sent c.self.inside.apic.items c.self.inside.cpus c.self.inside.block c.self.invariant _ _ _ _ c.send.ensures

pub returns-in-In-clause-step : goal.returns-in-In-clause-step
returns-in-In-clause-step c = λ p s is.
    let seen = subst (λ (m : Machine). StandsFor p m s) (sym c.self.view_is) is in
    rw c.in-In.is (record {
      answers = ap Value (c.from.ensures ∙ c.read_port-value.ensures.value ∙ read_value p _ s seen c.in-In.port c.in-In.width);
      state = read_state p _ s seen c.in-In.port c.in-In.width c.read_port-value.new.fw_cfg None c.read_port-value.ensures.moved;
    })
