-- What SMI entry leaves.
use Rattle.std.proofs.Common.{refl, sym, subst}
use Rattle.hp_model.specs.Cpu.{cpu_at}
use Rattle.hp_machine.specs.Machine.{Machine, StandsFor}
use Rattle.hp_machine.proofs.Entry.{entry_state}
use Rattle.hp_machine.proofs.machines.Machine.enter.Goals as goal

pub returns-clause-step : goal.returns-clause-step
returns-clause-step c = λ p s is.
    let is' = subst (λ (m : Machine). StandsFor p m s) (sym c.self.view_is) is in
    record {
      answers = refl;
      state = entry_state p _ s _ c.args.cpu c.save.new.memory c.enter-plan.new.self is'
          (rw c.unwrap.ensures at (c.save.ensures.saved s.writes (cpu_at c.self.inside.cpus c.args.cpu) (c.take_room.ensures.unchanged s.writes is'.memory) c.enter-plan.ensures.plan))
          c.enter-plan.ensures.step;
    }
