-- Which bytes of memory a run leaves alone once SMRAM is locked, and what the platform and the locks are for that.
use Rattle.std.specs.Prelude.{ℕ, ◌≡◌, ◌⊎◌, Bool, true, ◌&&◌, ◌||◌, nat_lt, nat_le, ◌+◌, ◌*◌, ◌%◌, ◌≤◌, List, length}
use Rattle.hp_model.specs.declared.platforms.Platform.{Platform}
use Rattle.hp_model.specs.Platform.{tseg, count_of, all_distinct, apic_of}
use Rattle.hp_model.specs.Memory.{Write, byte_at, touched}
use Rattle.hp_model.specs.View.{Locks, is_locked}
use Rattle.hp_model.specs.Boot.{tseg_enabled}
use Rattle.hp_model.specs.State.{State}

-- from old to new memory no write has covered byte x
pub record IsLeft (x : ℕ) (old new : List Write) : Type 0 where
  pub byte : byte_at new x ≡ byte_at old x
  pub touched : touched new x ≡ touched old x

-- the locks that a boot ends with: the default area is locked, D_LCK, G_SMRAME and T_EN are set, and TSEG has the platform's size, of which register 50 holds 48 MiB
pub record Locked (p : Platform) (l : Locks) : Type 0 where
  pub f_smbase : l.f_smbase ≡ 2
  pub smram : l.smram ≡ 0x18
  pub esmramc : l.esmramc ≡ tseg_enabled p.tseg_mib
  pub low_memory : l.low_memory ≡ p.low_memory
  pub ext_tseg : p.tseg_mib ≡ 48 → l.ext_tseg ≡ 0x30

-- the arithmetic of a platform that fits: TSEG is whole units of 64 KiB, lies above 8 MiB, and has room for the shared bytes and each tile
pub record Sound (p : Platform) : Type 0 where
  pub unit : ℕ
  pub whole : tseg p ≡ 0x10000 * unit
  pub size : (p.tseg_mib ≡ 1) ⊎ ((p.tseg_mib ≡ 2) ⊎ ((p.tseg_mib ≡ 8) ⊎ (p.tseg_mib ≡ 48)))
  pub above : 0x800000 ≤ tseg p
  pub top : p.low_memory ≡ tseg p + 0x100000 * p.tseg_mib
  pub room : 0x10000 * count_of p + 0x20000 ≤ 0x100000 * p.tseg_mib
  pub some : 1 ≤ count_of p
  pub few : count_of p ≤ 512
  pub most : p.low_memory ≤ 0x80000000
  pub boots : length p.boot ≤ 512
  pub ids : (k : ℕ) → apic_of p k ≤ 0xffffffff
  pub distinct : all_distinct p.apic ≡ true
  pub features : p.features ≤ 7

-- the gate's 8 bytes
abbrev pub is_gate : ℕ → Bool
is_gate x = nat_le 0x30000 x && nat_lt x 0x30008

-- the 6 cells of the first handler
abbrev pub is_first_cell : ℕ → Bool
is_first_cell x = nat_le 0x38000 x && nat_lt x 0x38018

-- these, and the tiles: all of a TSEG from `base` to `top` past its 128 KiB of shared bytes
abbrev pub guarded_by : ℕ → ℕ → ℕ → Bool
guarded_by base top x = is_first_cell x || (nat_le (base + 0x20000) x && nat_lt x top)

-- the bytes that no handler may store to
abbrev pub is_guarded : Platform → ℕ → Bool
is_guarded p x = guarded_by (tseg p) p.low_memory x

-- and of these the ones that SMI entry leaves as well: its fields lie from fefc on in a tile
abbrev pub is_kept : Platform → ℕ → Bool
is_kept p x = is_guarded p x && nat_lt (x % 0x10000) 0xfefc

-- what a step does to a kept byte that is locked: nothing covers it, and it stays locked
pub record LeavesKept (p : Platform) (s t : State) : Type 0 where
  pub left : (x : ℕ) → is_kept p x ≡ true → is_locked s.locks x ≡ true → IsLeft x s.writes t.writes
  pub locked : (x : ℕ) → is_kept p x ≡ true → is_locked s.locks x ≡ true → is_locked t.locks x ≡ true

-- what a step does to a locked byte while the boot goes on: nothing covers it, and it stays locked
pub record LeavesLocked (s t : State) : Type 0 where
  pub left : (x : ℕ) → is_locked s.locks x ≡ true → IsLeft x s.writes t.writes
  pub locked : (x : ℕ) → is_locked s.locks x ≡ true → is_locked t.locks x ≡ true
