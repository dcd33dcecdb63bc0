-- A platform that fits, and its machine at the start: processor 0 runs, and no slot has an event.
use Rattle.std.proofs.Common.{◌≡◌, ◌≢◌, ℕ, zero, suc, Bool, true, false, not, ◌&&◌, ◌||◌, ◌==◌, ◌+◌, ◌*◌, ◌%◌, ◌<◌, ◌≤◌, List, [], ◌∷◌, length, take, replicate, slice_set, None, refl, ap, ◌∙◌, arith, nat_le, nat_lt}
use Rattle.std.proofs.lemmas.Bool.{and_parts, leb-true, ltb-true, eqb-true, false≢true}
use Rattle.std.specs.List.{list_all}
use Rattle.hp_model.specs.declared.platforms.Platform.{Platform}
use Rattle.hp_model.specs.declared.processors.Cpu.{Cpu}
use Rattle.hp_model.specs.Platform.{IsFit, tile, ascends_from, ascends_from_zero, count_of, has_room, most_tiles, tiles_fit, tseg_fits}
use Rattle.hp_model.specs.Cpu.{absent, booted, cpu_at, is_free, boot_cpus, cpus_start}
use Rattle.hp_model.specs.Block.{bitmap, cut, first_event, first_places, is_in, slots_from}
use Rattle.hp_model.proofs.FitPlatforms.{rules_of}
use Rattle.hp_boot.specs.Ending.{legacy_value}

-- what the boot needs of a platform
pub record Facts (p : Platform) : Type 0 where
  pub features : p.features ≤ 7
  pub memory : 0x1000000 ≤ p.low_memory
  pub room : (p.tseg_mib == 48) ≡ true → 0x4000000 ≤ p.low_memory
  pub first : ascends_from_zero p.boot ≡ true
  pub some : 0 < length p.apic

room_of : (p : Platform) → tiles_fit p ≡ true → (p.tseg_mib == 48) ≡ true → 0x4000000 ≤ p.low_memory
room_of p tiles size =
    let fits = and_parts (nat_le (count_of p) (most_tiles p.tseg_mib)) (has_room p) (and_parts (tseg_fits p) (nat_le (count_of p) (most_tiles p.tseg_mib) && has_room p) tiles).1 in
    by (p.tseg_mib == 48) size fits.1
  where
    by : (b : Bool) → b ≡ true → (not b || nat_le 0x4000000 p.low_memory) ≡ true → 0x4000000 ≤ p.low_memory
    by true e r = leb-true 0x4000000 p.low_memory r
    by false e r = absurd cc

pub facts : (p : Platform) → IsFit p → Facts p
facts p fit =
    let r = rules_of p fit in
    let size = and_parts (p.low_memory % 0x100000 == 0) (nat_le 0x1000000 p.low_memory && nat_le p.low_memory 0x80000000) r.memory in
    record {
      features = leb-true p.features 7 r.features;
      memory = leb-true 0x1000000 p.low_memory (and_parts (nat_le 0x1000000 p.low_memory) (nat_le p.low_memory 0x80000000) size.1).0;
      room = room_of p r.tiles;
      first = (and_parts (ascends_from_zero p.boot) (list_all (λ k. nat_lt k (count_of p)) p.boot) r.boot).0;
      some = ltb-true 0 (count_of p) (and_parts (nat_lt 0 (count_of p)) (nat_le (count_of p) 512) r.counts).0;
    }

-- boot processors in places above 0 leave processor 0
above_zero : (p : Platform) (low slot : ℕ) (bs : List ℕ) (cs : List Cpu) → ascends_from low bs ≡ true → cpu_at (boot_cpus p slot bs cs) 0 ≡ cpu_at cs 0
unfolding boot_cpus
above_zero p low slot [] cs up = refl
above_zero p low slot (b ∷ bs) cs up =
    let parts = and_parts (nat_lt low b) (ascends_from b bs) up in
    above_zero p b (slot + 1) bs (slice_set cs b (booted (tile p slot))) parts.1
    ∙ apart b cs (booted (tile p slot)) (omega (arith, ltb-true low b parts.0))
  where
    apart : (k : ℕ) (ds : List Cpu) (c : Cpu) → 0 < k → cpu_at (slice_set ds k c) 0 ≡ cpu_at ds 0
    apart zero ds c h = absurd (omega (arith, h))
    apart (suc k) [] c h = refl
    apart (suc k) (d ∷ ds) c h = refl

-- the first boot processor is processor 0
first_runs : (p : Platform) (bs : List ℕ) (n : ℕ) → ascends_from_zero bs ≡ true → 0 < n →
    cpu_at (boot_cpus p 0 bs (replicate n absent)) 0 ≡ booted (tile p 0)
unfolding boot_cpus
first_runs p [] n first some = absurd (false≢true first)
first_runs p (b ∷ bs) zero first some = absurd (omega (arith, some))
first_runs p (b ∷ bs) (suc n) first some =
    let parts = and_parts (b == 0) (ascends_from 0 bs) first in
    above_zero p 0 (0 + 1) bs (slice_set (replicate (suc n) absent) b (booted (tile p 0))) parts.1
    ∙ ap (λ (k : ℕ). cpu_at (slice_set (replicate (suc n) absent) k (booted (tile p 0))) 0) (eqb-true b 0 parts.0)

booted_free : (late : Bool) (smbase : ℕ) → is_free late (booted smbase) ≡ true
booted_free true smbase = refl
booted_free false smbase = refl

pub starts_free : (p : Platform) (late : Bool) → Facts p → is_free late (cpu_at (cpus_start p) 0) ≡ true
unfolding cpus_start
starts_free p late f = ap (is_free late) (first_runs p p.boot (length p.apic) f.first f.some) ∙ booted_free late (tile p 0)

-- no slot has an event
pub no_event : (k : ℕ) (apic boot : List ℕ) → first_event (slots_from k apic boot) ≡ None
no_event k [] boot = refl
no_event k (a ∷ as') boot = rw (no_event (k + 1) as' boot) refl

-- the legacy form shows processor 0, in bit 0
odd_cut : (n : ℕ) → cut 4 (1 + 2 * n) ≢ 0
odd_cut n h = absurd (omega (arith, h))

in_first : (bs : List ℕ) → ascends_from_zero bs ≡ true → is_in 0 bs ≡ true
in_first [] first = absurd (false≢true first)
in_first (b ∷ bs) first = rw ((and_parts (b == 0) (ascends_from 0 bs) first).0) refl

shows_first : (apic boot : List ℕ) → 0 < length apic → is_in 0 boot ≡ true → cut 4 (bitmap (first_places (slots_from 0 apic boot))) ≢ 0
unfolding first_places
shows_first [] boot some is = absurd (omega (arith, some))
shows_first (a ∷ as') boot some is = rw is (odd_cut (bitmap (take 31 (slots_from (0 + 1) as' boot))))

pub legacy_shows : (p : Platform) → Facts p → legacy_value p ≢ 0
legacy_shows p f = shows_first p.apic p.boot f.some (in_first p.boot f.first)
