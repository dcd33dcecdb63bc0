-- The monarch's record at the start.
use Rattle.std.proofs.Common.{◌≡◌, ℕ, ◌<◌, Bool, true, nat_le, List, [], ◌∷◌, length, arith}
use Rattle.std.specs.List.{list_all}
use Rattle.std.proofs.lemmas.Bool.Decides.{nat_tests}
use Rattle.std.proofs.lemmas.List.{length-map}
use Rattle.hp_model.specs.declared.platforms.Platform.{Platform}
use Rattle.hp_model.specs.Platform.{IsFit, ascends_from_zero, greatest_id}
use Rattle.hp_model.specs.Slots.{boot_ids}
use Rattle.hp_model.proofs.FitPlatforms.{apic_few, ids_small, tseg_below}

some : (ks : List ℕ) → ascends_from_zero ks ≡ true → 0 < length ks
some [] e = absurd cc
some (k ∷ ks) e = omega arith

pub boot_bound : (p : Platform) → IsFit p → 0 < length (boot_ids p)
boot_bound p fit = simp length-map (some p.boot (grind (arith, nat_tests)))

pub ids_as : (p : Platform) (x2apic : Bool) (ids : List ℕ) → x2apic ≡ p.x2apic → ids ≡ p.apic → IsFit p → list_all (λ a. nat_le a (greatest_id x2apic)) ids ≡ true
ids_as p x2apic ids wide possible fit = rw (wide, possible) (ids_small p fit)

pub ruleset start_facts = (boot_bound, tseg_below, apic_few)
