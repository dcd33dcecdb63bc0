-- What the machine has of a processor in SMM is what the state has.
use Rattle.std.proofs.Common.{List, sym, ◌∙◌, ap, refl}
use Rattle.hp_model.specs.declared.processors.Cpu.{Cpu}
use Rattle.hp_model.specs.Cpu.{cpu_at}
use Rattle.hp_platform.proofs.boards.smm_cpu_of.Goals as goal

pub returns-in_default-clause-none : goal.returns-in_default-clause-none
returns-in_default-clause-none c = λ s is e. sym (c.in_default.ensures.mark _ s is)

pub returns-clause-some : goal.returns-clause-some
returns-clause-some c = λ s is.
    let cpu = c.cpu-processor.ensures ∙ ap (λ (cs : List Cpu). cpu_at cs c.args.cpu) is.cpus in
    record {
      cpu = refl;
      apic = c.apic_at-apic.ensures.value;
      smbase = ap (λ (x : Cpu). x.smbase) cpu;
      base = ap (λ (x : Cpu). x.base) cpu;
      mark = sym (c.in-Some.ensures.mark _ s is);
    }
