-- An access to a port leads to the state that the model has after it, and a read answers what it answers.
use Rattle.std.proofs.Common.{◌≡◌, ℕ, Bool, true, false, List, Option, ◌∙◌, ap}
use Rattle.std.specs.Prelude.{if◌then◌else◌}
use Rattle.hp_model.specs.declared.platforms.Platform.{Platform}
use Rattle.hp_model.specs.declared.processors.Cpu.{Cpu}
use Rattle.hp_model.specs.Block.{Block, block_write, ejected_by}
use Rattle.hp_model.specs.Ich9.{Ich9, ich9_write, raises_smi}
use Rattle.hp_model.specs.FwCfg.{FwCfg, advanced, has_broadcast}
use Rattle.hp_model.specs.Interrupts.{smi_raised}
use Rattle.hp_model.specs.State.{State}
use Rattle.hp_model.specs.Ports.{without_ejected, is_fw_cfg_data, read_port, after_read, write_block, write_ich9}
use Rattle.hp_machine.specs.Machine.{Machine, StandsFor, port_value, port_read}

module _ (p : Platform) (m : Machine) (s : State) (is : StandsFor p m s) where
  pub block_state : (e : Option ℕ) (offset width value : ℕ) (b : Block) (cs : List Cpu) →
      b ≡ block_write m.block offset width value → cs ≡ without_ejected (ejected_by m.block b) m.cpus →
      StandsFor p (record m { cpus = cs; block = b; ejected = e }) (write_block offset width value s)
  block_state e offset width value b cs block cpus = record {
    apic = is.apic;
    memory = is.memory;
    locks = is.locks;
    cpus = cpus ∙ ap (λ (x : Block). without_ejected (ejected_by m.block x) m.cpus) block
        ∙ ap (λ (x : Block). without_ejected (ejected_by x (block_write x offset width value)) m.cpus) is.block
        ∙ ap (λ (xs : List Cpu). without_ejected (ejected_by s.block (block_write s.block offset width value)) xs) is.cpus;
    block = block ∙ ap (λ (x : Block). block_write x offset width value) is.block;
    ich9 = is.ich9;
    fw_cfg = is.fw_cfg;
    late = is.late;
    x2apic = is.x2apic;
  }

  pub ich9_state : (k port width value : ℕ) (i : Ich9) (cs : List Cpu) → i ≡ ich9_write m.ich9 port width value →
      cs ≡ (if raises_smi m.ich9 port width then smi_raised (has_broadcast m.fw_cfg.negotiated) k m.apic m.cpus else m.cpus) →
      StandsFor p (record m { cpus = cs; ich9 = i }) (write_ich9 p k port width value s)
  ich9_state k port width value i cs ich9 cpus = record {
    apic = is.apic;
    memory = is.memory;
    locks = is.locks;
    cpus = cpus
        ∙ ap (λ (x : Ich9). if raises_smi x port width then smi_raised (has_broadcast m.fw_cfg.negotiated) k m.apic m.cpus else m.cpus) is.ich9
        ∙ ap (λ (x : FwCfg). if raises_smi s.ich9 port width then smi_raised (has_broadcast x.negotiated) k m.apic m.cpus else m.cpus) is.fw_cfg
        ∙ ap (λ (xs : List ℕ). if raises_smi s.ich9 port width then smi_raised (has_broadcast s.fw_cfg.negotiated) k xs m.cpus else m.cpus) is.apic
        ∙ ap (λ (xs : List Cpu). if raises_smi s.ich9 port width then smi_raised (has_broadcast s.fw_cfg.negotiated) k p.apic xs else xs) is.cpus;
    block = is.block;
    ich9 = ich9 ∙ ap (λ (x : Ich9). ich9_write x port width value) is.ich9;
    fw_cfg = is.fw_cfg;
    late = is.late;
    x2apic = is.x2apic;
  }

  -- who was ejected isn't the state's
  pub ejected_state : (e : Option ℕ) → StandsFor p (record m { ejected = e }) s
  ejected_state e = record { apic = is.apic; memory = is.memory; locks = is.locks; cpus = is.cpus; block = is.block; ich9 = is.ich9; fw_cfg = is.fw_cfg; late = is.late; x2apic = is.x2apic }

  pub read_value : (port width : ℕ) → port_value port width m.block m.ich9 m.fw_cfg ≡ read_port port width s
  read_value port width =
      ap (λ (x : Block). port_value port width x m.ich9 m.fw_cfg) is.block
      ∙ ap (λ (x : Ich9). port_value port width s.block x m.fw_cfg) is.ich9
      ∙ ap (λ (x : FwCfg). port_value port width s.block s.ich9 x) is.fw_cfg

  pub read_state : (port width : ℕ) (f : FwCfg) (e : Option ℕ) → f ≡ port_read port width m.fw_cfg →
      StandsFor p (record m { fw_cfg = f; ejected = e }) (after_read port width s)
  read_state port width f e moved = by (is_fw_cfg_data port width) moved
    where
      by : (is_data : Bool) → f ≡ (if is_data then advanced 1 m.fw_cfg else m.fw_cfg) →
          StandsFor p (record m { fw_cfg = f; ejected = e }) (if is_data then record s { fw_cfg = advanced 1 s.fw_cfg } else s)
      by true moved =
          record { apic = is.apic; memory = is.memory; locks = is.locks; cpus = is.cpus; block = is.block; ich9 = is.ich9; fw_cfg = moved ∙ ap (advanced 1) is.fw_cfg; late = is.late; x2apic = is.x2apic }
      by false moved = record { apic = is.apic; memory = is.memory; locks = is.locks; cpus = is.cpus; block = is.block; ich9 = is.ich9; fw_cfg = moved ∙ is.fw_cfg; late = is.late; x2apic = is.x2apic }
