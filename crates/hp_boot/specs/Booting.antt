-- What contracts see of a boot, and what a caller is told of it.
use Rattle.std.specs.Prelude.{◌≡◌, ℕ, ◌<◌, ◌+◌, ◌^◌, List, ◌++◌}
use Rattle.hp_model.specs.declared.accesses.Access.{Access}
use Rattle.hp_model.specs.Boot.{Stage, Boots, Refused, Handed, boot_count, ext_count, lock_accesses, feature_accesses, last_accesses}
use Rattle.hp_boot.specs.declared.boots.BootStage.{BootStage}
use Rattle.hp_boot.specs.declared.boots.BootStage.TheVariants as boot_stage
use Rattle.hp_boot.specs.declared.boots.Standing.{Standing}
use Rattle.hp_boot.specs.declared.boots.Standing.TheVariants as standing

-- the boot of a machine with a TSEG of so many MiB
pub record Booting : Type 0 where
  pub mib : ℕ
  pub stage : Stage

abbrev pub stage_view : Standing → Stage
stage_view (standing.Boots done supported) = Boots done supported
stage_view (standing.Refused fact) = Refused fact
stage_view (standing.Handed requested) = Handed requested

-- not all of its accesses are made while it boots
abbrev pub IsBefore : ℕ → Standing → Type 0
IsBefore mib (standing.Boots done supported) = done < boot_count mib
IsBefore mib (standing.Refused fact) = Unit {0}
IsBefore mib (standing.Handed requested) = Unit {0}

-- the last 12 accesses: from the locks of TSEG on
unfoldable pub tail_accesses : ℕ → ℕ → List Access
tail_accesses mib supported = lock_accesses mib ++ (feature_accesses supported ++ last_accesses)

abbrev pub boot_stage_of : Stage → BootStage
boot_stage_of (Boots done supported) = boot_stage.More
boot_stage_of (Refused fact) = boot_stage.Refused fact
boot_stage_of (Handed requested) = boot_stage.Handed requested

-- the values that are looked at, each of its access's width: 4 bytes, and 1
pub record IsRead (mib done value : ℕ) : Type 0 where
  pub block : done ≡ 3 → value < 2 ^ 32
  pub area : done ≡ 5 → value < 2 ^ 8
  pub ext : mib ≡ 48 → done ≡ 16 → value < 2 ^ 8
  pub features : done ≡ 25 + ext_count mib → value < 2 ^ 8
