-- fw_cfg's transfers: what a descriptor asks for, and what one transfer does to the items and to memory, in one step (source: QEMU docs/specs/fw_cfg; docs/MACHINE.md marks what is our own).
use Rattle.std.specs.Prelude.{ℕ, zero, suc, Bool, false, ◌&&◌, ◌==◌, nat_lt, nat_le, ◌+◌, ◌/◌, ◌%◌, ◌^◌, List, [], ◌∷◌, ◌++◌, length, take, drop, bit_and, if◌then◌else◌}
use Rattle.hp_model.specs.Memory.{Write, byte_at}
use Rattle.hp_model.specs.View.{Locks, is_hole, loaded, stored}
use Rattle.hp_model.specs.FwCfg.{FwCfg, big_value, selected, advanced, next_bytes}

-- the 16 bytes of a descriptor: control (4), length (4), address (8), each with its highest byte first
pub record Descriptor : Type 0 where
  pub control : ℕ
  pub size : ℕ
  pub address : ℕ

abbrev pub descriptor_of : List ℕ → Descriptor
descriptor_of bytes = record { control = big_value (take 4 bytes); size = big_value (take 4 (drop 4 bytes)); address = big_value (take 8 (drop 8 bytes)) }

-- control bits: 1 read, 2 skip, 3 select, 4 write; the key is in bits 31:16
abbrev pub reads : Descriptor → Bool
reads d = bit_and d.control 2 == 2

abbrev pub skips : Descriptor → Bool
skips d = bit_and d.control 4 == 4

abbrev pub selects : Descriptor → Bool
selects d = bit_and d.control 8 == 8

abbrev pub writes : Descriptor → Bool
writes d = bit_and d.control 16 == 16

abbrev pub key_of : Descriptor → ℕ
key_of d = d.control / 0x10000 % 0x10000

-- what a transfer moves between the items and memory
pub data Move : Type 0 where
  nothing : Move
  to_memory : ℕ → List ℕ → Move  -- these bytes, from this address on
  from_memory : ℕ → ℕ → Move  -- so many bytes, from this address on
  failed : Move

-- a move, and the device when it begins
pub record Asked : Type 0 where
  pub move : Move
  pub fw_cfg : FwCfg

-- limits of a transfer (own rule): at most 256 bytes, at an address of 32 bits
abbrev pub is_short : Descriptor → Bool
is_short d = nat_le d.size 256

abbrev pub is_near : Descriptor → Bool
is_near d = nat_lt d.address (2 ^ 32)

-- an error moves no offset and changes no item (own rule)
abbrev pub refused : FwCfg → Asked
refused f = record { move = failed; fw_cfg = f }

abbrev pub ask_read : Descriptor → FwCfg → Asked
ask_read d f =
    if is_short d && is_near d then record { move = to_memory d.address (next_bytes d.size f); fw_cfg = advanced d.size f } else refused f

-- only etc/smi/requested-features is writable, and no byte past its end
abbrev pub is_writable : Descriptor → FwCfg → Bool
is_writable d f = (f.key == 0x21) && nat_le (f.offset + d.size) 8

abbrev pub ask_write : Descriptor → FwCfg → Asked
ask_write d f =
    if (is_short d && is_near d) && is_writable d f then record { move = from_memory d.address d.size; fw_cfg = f } else refused f

abbrev pub ask_skip : Descriptor → FwCfg → Asked
ask_skip d f = if is_short d then record { move = nothing; fw_cfg = advanced d.size f } else refused f

-- the first of read, write and skip whose bit is set acts alone
abbrev pub ask_move : Descriptor → FwCfg → Asked
ask_move d f =
    if reads d then ask_read d f
    else if writes d then ask_write d f
    else if skips d then ask_skip d f
    else record { move = nothing; fw_cfg = f }

-- select comes first
abbrev pub ask : Descriptor → FwCfg → Asked
ask d f = ask_move d (if selects d then selected (key_of d) f else f)

-- bytes that came from memory are written to the item, whose offset moves on
abbrev pub finished : List ℕ → FwCfg → FwCfg
finished bytes f =
    advanced (length bytes) (record f { requested = take f.offset f.requested ++ (bytes ++ drop (f.offset + length bytes) f.requested) })

-- bytes go to memory one by one, as stores from outside SMM: one that falls in a hole is dropped, alone (own rule)
unfoldable pub bytes_stored : Locks → ℕ → List ℕ → List Write → List Write
bytes_stored l addr [] ws = ws
bytes_stored l addr (b ∷ bs) ws = bytes_stored l (addr + 1) bs (stored l false addr 1 b ws)

-- bytes come from memory one by one, as loads from outside SMM: one in a hole is ff (own rule)
unfoldable pub bytes_loaded : Locks → (ℕ → ℕ) → ℕ → ℕ → List ℕ
bytes_loaded l bytes addr zero = []
bytes_loaded l bytes addr (suc n) = loaded l false bytes addr 1 ∷ bytes_loaded l bytes (addr + 1) n

-- the device and memory after a transfer
pub record Transferred : Type 0 where
  pub fw_cfg : FwCfg
  pub writes : List Write

abbrev pub moved : Locks → Move → FwCfg → List Write → Transferred
moved l nothing f ws = record { fw_cfg = f; writes = ws }
moved l (to_memory addr bytes) f ws = record { fw_cfg = f; writes = bytes_stored l addr bytes ws }
moved l (from_memory addr n) f ws = record { fw_cfg = finished (bytes_loaded l (byte_at ws) addr n) f; writes = ws }
moved l failed f ws = record { fw_cfg = f; writes = ws }

-- at last the control field becomes 0, or 1 after an error, its highest byte first
abbrev pub control_after : Move → ℕ
control_after nothing = 0
control_after (to_memory addr bytes) = 0
control_after (from_memory addr n) = 0
control_after failed = 0x1000000

abbrev pub closed_with : Locks → ℕ → ℕ → Transferred → Transferred
closed_with l at control t = record t { writes = stored l false at 4 control t.writes }

-- the descriptor as it stands in memory
abbrev pub descriptor_at : Locks → List Write → ℕ → Descriptor
descriptor_at l ws at = descriptor_of (bytes_loaded l (byte_at ws) at 16)

abbrev pub carried_out : Locks → ℕ → Asked → List Write → Transferred
carried_out l at a ws = closed_with l at (control_after a.move) (moved l a.move a.fw_cfg ws)

-- one transfer, whose descriptor lies at this address; where a byte of that is a hole, nothing happens (own rule)
unfoldable pub transfer : Locks → ℕ → FwCfg → List Write → Transferred
transfer l at f ws =
    if is_hole l false at 16 then record { fw_cfg = f; writes = ws }
    else carried_out l at (ask (descriptor_at l ws at) f) ws
