-- What holds while the boot sequence goes on, after each number of accesses.
use Rattle.std.specs.Prelude.{ℕ, ◌≡◌, ◌≢◌, Bool, true, false, ◌||◌, nat_lt, ◌<◌, ◌≤◌, ◌⊎◌, ◌+◌, List, ◌∷◌, if◌then◌else◌}
use Rattle.hp_model.specs.declared.platforms.Platform.{Platform}
use Rattle.hp_model.specs.declared.outcomes.BootFact.{BootFact}
use Rattle.hp_model.specs.Memory.{Write, byte_at, write_of}
use Rattle.hp_model.specs.Image.{image}
use Rattle.hp_model.specs.Boot.{Boots, Refused, tseg_enabled, ext_count}
use Rattle.hp_model.specs.State.{State}
use Rattle.hp_sealed.specs.Left.{is_gate, is_kept, LeavesKept}
use Rattle.hp_sealed.specs.Sealed.{IsOutside, IsSealed}
use Rattle.hp_sealed.specs.Features.{Agreeing}

-- registers 9c, 9d and 9e after n accesses, of which `more` ask for 48 MiB; after 5 register 9c isn't known until it is read
abbrev pub f_smbase_after : ℕ → ℕ
f_smbase_after n = if nat_lt n 5 then 0 else if nat_lt n 15 then 1 else 2

abbrev pub smram_after : ℕ → ℕ → ℕ
smram_after more n = if nat_lt n (17 + more) then 0 else 0x18

abbrev pub esmramc_after : ℕ → ℕ → ℕ → ℕ
esmramc_after mib more n = if nat_lt n (16 + more) then 0 else tseg_enabled mib

-- memory after n accesses, up to the one that locks TSEG
abbrev pub more_if : Bool → ℕ → ℕ → ℕ → List Write → List Write
more_if true addr width value ws = write_of addr width value ∷ ws
more_if false addr width value ws = ws

abbrev pub memory_after : Platform → ℕ → List Write
memory_after p n =
    more_if (nat_lt 13 n) 0x30000 8 0xffffffffffffffff
    (more_if (nat_lt 12 n) 0x38014 4 0x53000006 (more_if (nat_lt 11 n) 0x38010 4 0x53000005 (more_if (nat_lt 10 n) 0x3800c 4 0x53000004
    (more_if (nat_lt 9 n) 0x38008 4 0x53000003 (more_if (nat_lt 8 n) 0x38004 4 0x53000002 (more_if (nat_lt 7 n) 0x38000 4 0x53000001
    (more_if (nat_lt 6 n) 0x9f000 4 0x4e4550 (image p))))))))

-- the bytes that the boot has set up for the handlers once it has locked them: those that are kept from then on, and the gate
abbrev pub is_set_up : Platform → ℕ → Bool
is_set_up p x = is_gate x || is_kept p x

-- after n accesses of the boot
pub record Booting (p : Platform) (n : ℕ) (s : State) : Type 0 where
  pub cpus : IsOutside p s
  pub low_memory : s.locks.low_memory ≡ p.low_memory
  pub f_smbase : n ≢ 5 → s.locks.f_smbase ≡ f_smbase_after n
  pub smram : s.locks.smram ≡ smram_after (ext_count p.tseg_mib) n
  pub esmramc : s.locks.esmramc ≡ esmramc_after p.tseg_mib (ext_count p.tseg_mib) n
  pub ext_tseg : p.tseg_mib ≡ 48 → 17 ≤ n → s.locks.ext_tseg ≡ 0x30
  pub memory : n ≤ 17 + ext_count p.tseg_mib → s.writes ≡ memory_after p n
  pub kept : 17 + ext_count p.tseg_mib ≤ n → (x : ℕ) → is_set_up p x ≡ true → byte_at s.writes x ≡ byte_at (memory_after p 17) x

-- the boot goes on: not all of its accesses are made
pub record IsBooting (p : Platform) (s : State) : Type 0 where
  pub done : ℕ
  pub supported : ℕ
  pub stage : s.stage ≡ Boots done supported
  pub going : done < 27 + ext_count p.tseg_mib
  pub holds : Booting p done s
  pub agreeing : Agreeing p done supported s

-- the boot was refused: nothing steps from there on
pub record IsRefused (p : Platform) (s : State) : Type 0 where
  pub fact : BootFact
  pub stage : s.stage ≡ Refused fact
  pub cpus : IsOutside p s

-- where a step of the boot leads
abbrev pub IsBooted : Platform → State → Type 0
IsBooted p s = IsBooting p s ⊎ (IsRefused p s ⊎ IsSealed p s)

abbrev pub KeepsBooted : Platform → State → State → Type 0
KeepsBooted p s t = IsBooted p t × LeavesKept p s t
