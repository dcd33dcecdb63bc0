-- The bytes that the SMI handlers share (own rule): one of each array a slot, and those of the default area.
use Rattle.std.specs.Prelude.{ℕ, Bool, ◌+◌, ◌*◌, List}
use Rattle.hp_model.specs.declared.platforms.Platform.{Platform}
use Rattle.hp_model.specs.Platform.{count_of, tseg, is_late}

-- what the handlers go by of a platform: where TSEG begins, how many processors are possible, with which APIC IDs by place, how often a byte is
-- looked at, how an interrupt command names an APIC ID, and whether SMIs may come late
pub record Layout : Type 0 where
  pub tseg : ℕ
  pub count : ℕ
  pub apics : List ℕ
  pub polls : ℕ
  pub x2apic : Bool
  pub late : Bool

abbrev pub layout_of : Platform → Layout
layout_of p = record { tseg = tseg p; count = count_of p; apics = p.apic; polls = p.polls; x2apic = p.x2apic; late = is_late p.delivery }

-- the first address of a slot's tile
abbrev pub tile_in : Layout → ℕ → ℕ
tile_in y slot = y.tseg + 0x20000 + slot * 0x10000

-- 1 while the processor of the slot is in its handler, as far as it has told
abbrev pub arrived_byte : Layout → ℕ → ℕ
arrived_byte y slot = y.tseg + slot

-- 1 where the processor of the slot may leave SMM
abbrev pub release_byte : Layout → ℕ → ℕ
release_byte y slot = y.tseg + 0x1000 + slot

-- 1 where the processor of the slot is to park, since it will be ejected
abbrev pub map_byte : Layout → ℕ → ℕ
map_byte y slot = y.tseg + 0x2000 + slot

-- 1 once it has parked
abbrev pub parked_byte : Layout → ℕ → ℕ
parked_byte y slot = y.tseg + 0x3000 + slot

-- 1 during a session of the monarch
abbrev pub session_byte : Layout → ℕ
session_byte y = y.tseg + 0x4000

-- the gate of the first handler, 8 bytes: the APIC ID that may pass, or closed
abbrev pub gate : ℕ
gate = 0x30000

abbrev pub closed : ℕ
closed = 0xffffffffffffffff

-- the SMBASE for whoever passes the gate, 4 bytes
abbrev pub new_smbase : ℕ
new_smbase = 0x30008

-- 1 once whoever passed has stored its new SMBASE
abbrev pub flag : ℕ
flag = 0x3000c

-- where SMBASE is saved at the default SMBASE, 4 bytes
abbrev pub default_smbase_field : ℕ
default_smbase_field = 0x3ff00
