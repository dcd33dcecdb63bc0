-- APIC IDs of a platform that fits are at most the greatest.
use Rattle.std.proofs.Common.{◌≤◌, ◌<◌, ℕ, length}
use Rattle.hp_model.specs.declared.platforms.Platform.{Platform}
use Rattle.hp_model.specs.Platform.{IsFit, apic_of, greatest_id}
use Rattle.hp_model.proofs.Counts.{in_at}
use Rattle.hp_model.proofs.FitPlatforms.{possible_small}

pub low : (p : Platform) (k : ℕ) → IsFit p → k < length p.apic → apic_of p k ≤ greatest_id p.x2apic
low p k fit within = possible_small p (apic_of p k) fit (in_at p.apic k 0xffffffff within)
