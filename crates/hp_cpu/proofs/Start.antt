-- The processors at the start: the boot processors take their tiles one after another.
use Rattle.std.proofs.Common.{◌≡◌, ℕ, ◌+◌, ◌<◌, ◌≤◌, List, length, drop, get_or, replicate, slice_set, refl, sym, ap, ◌∙◌, drop-cons, add-one, arith}
use Rattle.std.proofs.lemmas.Bool.Decides.{nat_tests}
use Rattle.std.proofs.lemmas.List.{drop_all}
use Rattle.hp_model.specs.declared.platforms.Platform.{Platform}
use Rattle.hp_model.specs.declared.processors.Cpu.{Cpu}
use Rattle.hp_model.specs.Platform.{IsFit, count_of, tile}
use Rattle.hp_model.specs.Cpu.{boot_cpus, cpus_start, booted, absent}
use Rattle.hp_model.proofs.Counts.{below_at}
use Rattle.hp_model.proofs.FitPlatforms.{apic_few, boot_few}
use Rattle.hp_cpu.specs.Smbase.{IsSmbase}

-- one more boot processor has its tile
pub boot_more : (p : Platform) (slot : ℕ) (bs : List ℕ) (cs : List Cpu) → slot < length bs →
    boot_cpus p slot (drop slot bs) cs ≡
    boot_cpus p (slot + 1) (drop (slot + 1) bs) (slice_set cs (get_or bs slot 0) (booted (tile p slot)))
unfolding boot_cpus
boot_more p slot bs cs h =
    let made = slice_set cs (get_or bs slot 0) (booted (tile p slot)) in
    ap (λ (ks : List ℕ). boot_cpus p slot ks cs) (drop-cons bs slot 0 h)
    ∙ ap (λ (n : ℕ). boot_cpus p (slot + 1) (drop n bs) made) (sym (add-one slot))

-- the first of them
pub boot_first : (p : Platform) → boot_cpus p 0 p.boot (replicate (length p.apic) absent) ≡ cpus_start p
unfolding cpus_start
boot_first p = refl

-- the last of them has its tile
pub boot_done : (p : Platform) (slot : ℕ) (bs : List ℕ) (cs : List Cpu) → length bs ≤ slot →
    boot_cpus p slot (drop slot bs) cs ≡ cs
unfolding boot_cpus
boot_done p slot bs cs h = ap (λ (ks : List ℕ). boot_cpus p slot ks cs) (drop_all slot bs h)

-- each boot processor has a place
pub boot_placed : (p : Platform) (i : ℕ) → IsFit p → i < length p.boot → get_or p.boot i 0 < length p.apic
boot_placed p i fit h = below_at (count_of p) p.boot i (grind (arith, nat_tests)) h

pub IsSmbase-tile : (p : Platform) (slot : ℕ) → IsFit p → slot < length p.apic → IsSmbase (tile p slot)
IsSmbase-tile p slot fit h = record { aligned = grind (arith, nat_tests); below = grind (arith, nat_tests) }

pub ruleset start_facts = (boot_first, boot_few, apic_few, boot_placed, IsSmbase-tile)
