-- Ports: what a read is answered, and what a write does.
use Rattle.std.specs.Prelude.{ℕ, Bool, false, ◌&&◌, nat_lt, nat_le, ◌-◌, List, Option, Some, None, slice_set, if◌then◌else◌}
use Rattle.hp_model.specs.declared.platforms.Platform.{Platform}
use Rattle.hp_model.specs.declared.processors.Cpu.{Cpu}
use Rattle.hp_model.specs.declared.accesses.Access.{Access}
use Rattle.hp_model.specs.declared.accesses.Access.TheVariants.{Load, Store, Swap, In, Out, CfgRead, CfgWrite, Icr, Halt, Nop}
use Rattle.hp_model.specs.Cpu.{absent}
use Rattle.hp_model.specs.Block.{block_read, block_write, ejected_by}
use Rattle.hp_model.specs.Interrupts.{smi_raised}
use Rattle.hp_model.specs.Ich9.{is_at, ich9_read, ich9_write, raises_smi}
use Rattle.hp_model.specs.FwCfg.{selected, advanced, next_byte, with_high, dma_address, without_high, has_broadcast}
use Rattle.hp_model.specs.Transfers.{Transferred, transfer}
use Rattle.hp_model.specs.State.{State}

-- an ejected processor is absent (own rule)
abbrev pub without_ejected : Option ℕ → List Cpu → List Cpu
without_ejected None cs = cs
without_ejected (Some k) cs = slice_set cs k absent

-- a write to the register block, which may eject a processor
abbrev pub write_block : ℕ → ℕ → ℕ → State → State
write_block offset width value s =
    record s {
      block = block_write s.block offset width value;
      cpus = without_ejected (ejected_by s.block (block_write s.block offset width value)) s.cpus;
    }

-- the register block's ports, 0cd8 to 0ce3
abbrev pub is_on_block : ℕ → Bool
is_on_block port = nat_le 0xcd8 port && nat_lt port 0xce4

-- fw_cfg's ports: the selector (2 bytes), the data (1), and the halves of the DMA address (4 each)
abbrev pub is_fw_cfg_selector : ℕ → ℕ → Bool
is_fw_cfg_selector port width = is_at port width 0x510 2

abbrev pub is_fw_cfg_data : ℕ → ℕ → Bool
is_fw_cfg_data port width = is_at port width 0x511 1

abbrev pub is_dma_high : ℕ → ℕ → Bool
is_dma_high port width = is_at port width 0x514 4

abbrev pub is_dma_low : ℕ → ℕ → Bool
is_dma_low port width = is_at port width 0x518 4

-- ports that no rule names read 0, and so do fw_cfg's but for its data (own rules)
abbrev pub read_port : ℕ → ℕ → State → ℕ
read_port port width s =
    if is_on_block port then block_read s.block (port - 0xcd8) width
    else if is_fw_cfg_data port width then next_byte s.fw_cfg
    else ich9_read s.ich9 port width

-- a read of fw_cfg's data moves its offset
abbrev pub after_read : ℕ → ℕ → State → State
after_read port width s = if is_fw_cfg_data port width then record s { fw_cfg = advanced 1 s.fw_cfg } else s

-- a write of the DMA address's low half is one transfer (own rule: it is part of this step)
abbrev pub with_transfer : Transferred → State → State
with_transfer t s = record s { fw_cfg = t.fw_cfg; writes = t.writes }

abbrev pub start_transfer : ℕ → State → State
start_transfer value s = with_transfer (transfer s.locks (dma_address value s.fw_cfg) (without_high s.fw_cfg) s.writes) s

-- a write of the SMI command may raise an SMI: on all present processors where broadcast was negotiated, else on the writer
abbrev pub write_ich9 : Platform → ℕ → ℕ → ℕ → ℕ → State → State
write_ich9 p k port width value s =
    record s {
      ich9 = ich9_write s.ich9 port width value;
      cpus = (if raises_smi s.ich9 port width then smi_raised (has_broadcast s.fw_cfg.negotiated) k p.apic s.cpus else s.cpus);
    }

-- a write of processor k; ports that no rule names ignore it (own rule)
abbrev pub write_port : Platform → ℕ → ℕ → ℕ → ℕ → State → State
write_port p k port width value s =
    if is_on_block port then write_block (port - 0xcd8) width value s
    else if is_fw_cfg_selector port width then record s { fw_cfg = selected value s.fw_cfg }
    else if is_dma_high port width then record s { fw_cfg = with_high value s.fw_cfg }
    else if is_dma_low port width then start_transfer value s
    else write_ich9 p k port width value s

-- a write to the register block
abbrev pub writes_block : Access → Bool
writes_block (Load addr width) = false
writes_block (Store addr width value) = false
writes_block (Swap addr expected desired) = false
writes_block (In port width) = false
writes_block (Out port width value) = is_on_block port
writes_block (CfgRead reg) = false
writes_block (CfgWrite reg value) = false
writes_block (Icr high low) = false
writes_block Halt = false
writes_block Nop = false
