-- ICH9's SMI command port, SMI enable and general-purpose event status (source: QEMU, ICH9 LPC). Each register answers at its own port and width alone (own rule).
use Rattle.std.specs.Prelude.{ℕ, Bool, ◌&&◌, ◌==◌, ◌-◌, ◌%◌, ◌^◌, bit_and, bit_or, if◌then◌else◌}

pub record Ich9 : Type 0 where
  pub apm_cnt : ℕ  -- port b2, 1 byte: the SMI command
  pub apm_sts : ℕ  -- port b3, 1 byte
  pub smi_en : ℕ  -- port 630, 4 bytes: bit 0 GBL_SMI_EN, bit 5 APMC_EN
  pub gpe_status : ℕ  -- port 620, 1 byte: bit 2 is set by processor events

-- all registers start at 0
abbrev pub ich9_start : Ich9
ich9_start = record { apm_cnt = 0; apm_sts = 0; smi_en = 0; gpe_status = 0 }

-- an access to a register's port at the register's width
abbrev pub is_at : ℕ → ℕ → ℕ → ℕ → Bool
is_at port width its_port its_width = (port == its_port) && (width == its_width)

-- what was written is read back; other ports and widths read 0 (own rule)
abbrev pub ich9_read : Ich9 → ℕ → ℕ → ℕ
ich9_read i port width =
    if is_at port width 0xb2 1 then i.apm_cnt
    else if is_at port width 0xb3 1 then i.apm_sts
    else if is_at port width 0x620 1 then i.gpe_status
    else if is_at port width 0x630 4 then i.smi_en
    else 0

-- a 1 that is written to a bit of the GPE status clears it
abbrev pub cleared : ℕ → ℕ → ℕ
cleared old value = old - bit_and old value

abbrev pub ich9_write : Ich9 → ℕ → ℕ → ℕ → Ich9
ich9_write i port width value =
    if is_at port width 0xb2 1 then record i { apm_cnt = value % 0x100 }
    else if is_at port width 0xb3 1 then record i { apm_sts = value % 0x100 }
    else if is_at port width 0x620 1 then record i { gpe_status = cleared i.gpe_status (value % 0x100) }
    else if is_at port width 0x630 4 then record i { smi_en = value }
    else i

-- a write of the SMI command raises an SMI where APMC_EN is set; that alone decides it (own rule)
abbrev pub raises_smi : Ich9 → ℕ → ℕ → Bool
raises_smi i port width = is_at port width 0xb2 1 && (bit_and i.smi_en 0x20 == 0x20)

-- an event sets its bit of the GPE status
abbrev pub with_event : ℕ → Ich9 → Ich9
with_event bit i = record i { gpe_status = bit_or i.gpe_status (2 ^ bit) }

-- the bit of processor events (QEMU docs/specs/acpi_cpu_hotplug)
abbrev pub processor_event : ℕ
processor_event = 2
