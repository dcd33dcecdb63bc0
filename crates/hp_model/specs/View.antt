-- Lockable SMRAM (source: Q35 memory controller, registers 9c, 9d and 9e; register 50 and what else docs/MACHINE.md marks are our own): which bytes an access reaches.
use Rattle.std.specs.Prelude.{ℕ, zero, suc, Bool, false, ◌&&◌, ◌||◌, not, ◌==◌, nat_lt, nat_le, ◌+◌, ◌-◌, ◌*◌, ◌^◌, List, ◌∷◌, bit_and, if◌then◌else◌}
use Rattle.hp_model.specs.declared.platforms.Platform.{Platform}
use Rattle.hp_model.specs.Memory.{Write, byte_at, value_from, write_of}

pub record Locks : Type 0 where
  pub low_memory : ℕ  -- RAM is the addresses below it
  pub has_default : Bool  -- whether the default area can be locked
  pub f_smbase : ℕ  -- register 9c: 0, 1 once the default area was asked for, 2 once it is locked
  pub smram : ℕ  -- register 9d: bit 3 G_SMRAME, bit 4 D_LCK
  pub esmramc : ℕ  -- register 9e: bit 0 T_EN, bits 2:1 the size of TSEG
  pub has_ext : Bool  -- whether TSEG can have 48 MiB
  pub ext_tseg : ℕ  -- register 50: 0, or the 48 MiB that were asked for

-- all registers start at 0
abbrev pub locks_start : Platform → Locks
locks_start p = record { low_memory = p.low_memory; has_default = p.default_smram; f_smbase = 0; smram = 0; esmramc = 0; has_ext = p.ext_tseg; ext_tseg = 0 }

-- register 9c goes from 0 to 1 by ff, where the default area can be locked, and from 1 to 2 by a value with bit 1 other than ff
abbrev pub f_smbase_written : Bool → ℕ → ℕ → ℕ
f_smbase_written has_default old value =
    if (old == 0) && ((value == 0xff) && has_default) then 1
    else if (old == 1) && ((bit_and value 2 == 2) && not (value == 0xff)) then 2
    else old

-- D_LCK is set: registers 9d, 9e and 50 are fixed
abbrev pub is_fixed : Locks → Bool
is_fixed l = bit_and l.smram 0x10 == 0x10

-- register 50 becomes 30, which is 48, by ff, where the platform has such a TSEG and at least 64 MiB of RAM (own rule)
abbrev pub ext_tseg_written : Locks → ℕ → ℕ
ext_tseg_written l value = if (value == 0xff) && (l.has_ext && nat_le 0x4000000 l.low_memory) then 0x30 else l.ext_tseg

abbrev pub lock_write : Locks → ℕ → ℕ → Locks
lock_write l reg value =
    if reg == 0x9c then record l { f_smbase = f_smbase_written l.has_default l.f_smbase value }
    else if is_fixed l then l
    else if reg == 0x9d then record l { smram = bit_and value 0x18 }
    else if reg == 0x9e then record l { esmramc = bit_and value 7 }
    else if reg == 0x50 then record l { ext_tseg = ext_tseg_written l value }
    else l

-- other configuration bytes read 0
abbrev pub lock_read : Locks → ℕ → ℕ
lock_read l reg =
    if reg == 0x9c then l.f_smbase
    else if reg == 0x9d then l.smram
    else if reg == 0x9e then l.esmramc
    else if reg == 0x50 then l.ext_tseg
    else 0

-- the size of TSEG in MiB that register 9e enables: 0 without T_EN, and the one of register 50 for size 11 (own rule)
abbrev pub tseg_size : ℕ → ℕ → ℕ
tseg_size ext_tseg esmramc =
    if esmramc == 1 then 1
    else if esmramc == 3 then 2
    else if esmramc == 5 then 8
    else if esmramc == 7 then ext_tseg
    else 0

-- the default area is 30000 to 4ffff
abbrev pub is_in_default : Locks → ℕ → Bool
is_in_default l x = (l.f_smbase == 2) && (nat_le 0x30000 x && nat_lt x 0x50000)

-- TSEG is the last MiB of RAM, hidden only once D_LCK, G_SMRAME and T_EN are all set
abbrev pub is_in_tseg : Locks → ℕ → Bool
is_in_tseg l x = (l.smram == 0x18) && (nat_le (l.low_memory - tseg_size l.ext_tseg l.esmramc * 0x100000) x && nat_lt x l.low_memory)

-- the byte lies in a locked range
abbrev pub is_locked : Locks → ℕ → Bool
is_locked l x = is_in_default l x || is_in_tseg l x

-- the byte is out of reach: past RAM, or locked while the actor isn't in SMM
abbrev pub is_hidden : Locks → Bool → ℕ → Bool
is_hidden l in_smm x = nat_le l.low_memory x || (not in_smm && is_locked l x)

-- some byte of an access is out of reach: then the access is a hole as a whole (own rule)
unfoldable pub is_hole : Locks → Bool → ℕ → ℕ → Bool
is_hole l in_smm addr zero = false
is_hole l in_smm addr (suc n) = is_hidden l in_smm addr || is_hole l in_smm (addr + 1) n

-- a hole reads as all ones
abbrev pub ones : ℕ → ℕ
ones width = 256 ^ width - 1

-- a load from memory with these bytes
abbrev pub loaded : Locks → Bool → (ℕ → ℕ) → ℕ → ℕ → ℕ
loaded l in_smm bytes addr width = if is_hole l in_smm addr width then ones width else value_from bytes addr width

-- a store; a hole takes nothing
abbrev pub stored : Locks → Bool → ℕ → ℕ → ℕ → List Write → List Write
stored l in_smm addr width value ws = if is_hole l in_smm addr width then ws else write_of addr width value ∷ ws

-- compare and exchange of 8 bytes: the new value is stored where the old one is the expected one
abbrev pub swapped : Locks → Bool → ℕ → ℕ → ℕ → List Write → List Write
swapped l in_smm addr expected desired ws =
    if loaded l in_smm (byte_at ws) addr 8 == expected then stored l in_smm addr 8 desired ws else ws
