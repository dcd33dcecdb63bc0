-- A write of the register block.
use Rattle.std.proofs.Common.{◌≡◌, true, None, sym, ◌∙◌, subst}
use Rattle.hp_model.specs.Ports.{is_on_block}
use Rattle.hp_machine.specs.Machine.{Machine, StandsFor}
use Rattle.hp_machine.proofs.PortWrites.{ejected_state}
use Rattle.hp_machine.proofs.machines.Machine.write_port.Goals as goal

pub returns-then-is_on_block-clause-state : goal.returns-then-is_on_block-clause-state
returns-then-is_on_block-clause-state c = λ p s is.
    let on : is_on_block c.args.port ≡ true = sym c.is_on_block.ensures.value ∙ c.if-is_on_block.true in
    rw on (c.write_block.ensures.state p s (ejected_state p _ s (subst (λ (m : Machine). StandsFor p m s) (sym c.self.view_is) is) None))
