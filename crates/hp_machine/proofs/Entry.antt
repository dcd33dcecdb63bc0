-- SMI entry leads to the state that the model has after it.
use Rattle.std.proofs.Common.{◌≡◌, ℕ, List, Option, ◌∙◌, ap, subst}
use Rattle.std.specs.Prelude.{slice_set}
use Rattle.hp_model.specs.declared.platforms.Platform.{Platform}
use Rattle.hp_model.specs.declared.processors.Cpu.{Cpu}
use Rattle.hp_model.specs.Cpu.{cpu_at, take_smi}
use Rattle.hp_model.specs.View.{Locks}
use Rattle.hp_model.specs.SaveArea.{saved}
use Rattle.hp_model.specs.State.{State}
use Rattle.hp_model.specs.Step.{enter_smm}
use Rattle.hp_mem.specs.Kept.{Kept, StandsFor as MemoryStandsFor}
use Rattle.hp_machine.specs.Machine.{Machine, StandsFor}

pub entry_state : (p : Platform) (m : Machine) (s : State) (e : Option ℕ) (k : ℕ) (memory : Kept) (cs : List Cpu) → StandsFor p m s →
    MemoryStandsFor memory (saved m.locks (cpu_at m.cpus k) s.writes) → cs ≡ slice_set m.cpus k (take_smi (cpu_at m.cpus k)) →
    StandsFor p (record m { memory = memory; cpus = cs; ejected = e }) (enter_smm k s)
entry_state p m s e k memory cs is stands cpus = record {
  apic = is.apic;
  memory = subst (λ (l : Locks). MemoryStandsFor memory (saved l (cpu_at s.cpus k) s.writes)) is.locks
      (subst (λ (xs : List Cpu). MemoryStandsFor memory (saved m.locks (cpu_at xs k) s.writes)) is.cpus stands);
  locks = is.locks;
  cpus = cpus ∙ ap (λ (xs : List Cpu). slice_set xs k (take_smi (cpu_at xs k))) is.cpus;
  block = is.block;
  ich9 = is.ich9;
  fw_cfg = is.fw_cfg;
  late = is.late;
  x2apic = is.x2apic;
}
