-- What the code's answer to a descriptor means.
use Rattle.std.specs.Prelude.{◌≡◌, ℕ, Bool, ◌&&◌, ◌||◌, ◌+◌, ◌^◌, ◌<◌, ◌≤◌, length, take, Option, Some, None, if◌then◌else◌}
use Rattle.hp_model.specs.FwCfg.{FwCfg}
use Rattle.hp_model.specs.Transfers.{Descriptor, Move, nothing, to_memory, from_memory, failed, is_short, is_near, reads, writes, skips}
use Rattle.hp_fwcfg.specs.declared.descriptors.Area.{Area}
use Rattle.hp_fwcfg.specs.declared.transfers.Transfer.{Transfer}
use Rattle.hp_fwcfg.specs.declared.transfers.Transfer.TheVariants.{Nothing, ToMemory, FromMemory, Failed}

-- the length of a descriptor, and its area of memory, where they are within the limits
abbrev pub length_of : Descriptor → Option ℕ
length_of d = if is_short d then Some d.size else None

abbrev pub area_of : Descriptor → Option Area
area_of d = if is_short d && is_near d then Some (record { addr = d.address; len = d.size }) else None

-- what moves
abbrev pub move_of : Transfer → Move
move_of Nothing = nothing
move_of (ToMemory addr len bytes) = to_memory addr (take len bytes)
move_of (FromMemory addr len) = from_memory addr len
move_of Failed = failed

-- at most 256 bytes move
abbrev pub IsShort : Transfer → Type 0
IsShort Nothing = Unit {0}
IsShort (ToMemory addr len bytes) = len ≤ 256
IsShort (FromMemory addr len) = len ≤ 256
IsShort Failed = Unit {0}

-- what comes from memory fits the item from the offset on
abbrev pub IsWritable : Transfer → FwCfg → Type 0
IsWritable Nothing f = Unit {0}
IsWritable (ToMemory addr len bytes) f = Unit {0}
IsWritable (FromMemory addr len) f = (f.key ≡ 0x21) × (f.offset + len ≤ 8)
IsWritable Failed f = Unit {0}

-- a descriptor asks for a move of bytes, or of the offset
abbrev pub is_moving : Descriptor → Bool
is_moving d = reads d || (writes d || skips d)

-- a move is within the limits: at most 256 bytes to memory, at most 8 from memory, at an address of 32 bits
abbrev pub IsWithin : Move → Type 0
IsWithin nothing = Unit {0}
IsWithin (to_memory addr bytes) = (addr < 2 ^ 32) × (length bytes ≤ 256)
IsWithin (from_memory addr n) = (addr < 2 ^ 32) × (n ≤ 8)
IsWithin failed = Unit {0}
