-- A platform that fits, and its machine at the start.
use Rattle.std.proofs.Common.{ℕ, zero, suc, ◌≡◌, ◌≢◌, ◌+◌, ◌-◌, ◌*◌, ◌/◌, ◌%◌, ◌<◌, ◌≤◌, ◌==◌, ◌⊎◌, inl, inr, Bool, true, false, not, ◌&&◌, ◌||◌, nat_lt, nat_le, List, [], ◌∷◌, length, slice_set, replicate, None, refl, sym, ap, subst, ◌∙◌, arith, get_or-set_other, if◌then◌else◌}
use Rattle.std.specs.Prelude.{slice_index_or}
use Rattle.std.specs.List.{list_all}
use Rattle.std.proofs.lemmas.Bool.{and_parts, eqb-true, ltb-true, cases_eq}
use Rattle.std.proofs.lemmas.Bool.Decides.{nat_tests}
use Rattle.hp_model.specs.declared.platforms.Platform.{Platform}
use Rattle.hp_model.specs.declared.processors.Cpu.{Cpu}
use Rattle.hp_model.specs.Platform.{IsFit, boot_fits, tseg_fits, ascends_from, ascends_from_zero, all_distinct, tseg, tile, count_of, apic_of, greatest_id, most_tiles, has_room}
use Rattle.hp_model.specs.Cpu.{absent, booted, boot_cpus, cpus_start, cpu_at, smm_address}
use Rattle.hp_model.specs.Block.{is_in}
use Rattle.hp_model.specs.SharedBytes.{layout_of}
use Rattle.hp_model.specs.Handlers.{slot_at}
use Rattle.hp_model.specs.Slots.{slots_start, boot_ids, slot_among}
use Rattle.hp_model.specs.Boot.{ext_count}
use Rattle.hp_model.specs.State.{start}
use Rattle.hp_model.proofs.FitPlatforms.{rules_of}
use Rattle.hp_sealed.specs.Left.{Sound}
use Rattle.hp_sealed.specs.Sealed.{is_based, Placed, IsAtSlot}
use Rattle.hp_sealed.specs.Booting.{smram_after, esmramc_after, IsBooting}
use Rattle.hp_sealed.proofs.BootSlots.{placed_start, AtPlaces, places}

ids_small : (most : ℕ) (as' : List ℕ) (k : ℕ) → most ≤ 0xffffffff → list_all (λ a. nat_le a most) as' ≡ true → slice_index_or as' k 0xffffffff ≤ 0xffffffff
ids_small most [] k low e = omega arith
ids_small most (a ∷ as') zero low e = small a most low (and_parts (nat_le a most) (list_all (λ a. nat_le a most) as') e).0
  where
    small : (a most : ℕ) → most ≤ 0xffffffff → nat_le a most ≡ true → a ≤ 0xffffffff
    small a most low e = grind (arith, nat_tests)
ids_small most (a ∷ as') (suc k) low e = ids_small most as' k low (and_parts (nat_le a most) (list_all (λ a. nat_le a most) as') e).1

greatest_small : (x2apic : Bool) → (if x2apic then 0xfffffffe else 254) ≤ 0xffffffff
greatest_small true = omega arith
greatest_small false = omega arith

-- an ascending list above k, below n, has at most n - k - 1 places
length_ascends : (k n : ℕ) (bs : List ℕ) → ascends_from k bs ≡ true → list_all (λ b. nat_lt b n) bs ≡ true → k < n → length bs + k < n
length_ascends k n [] up low h = omega (arith, h)
length_ascends k n (b ∷ bs) up low h =
    let lows = and_parts (nat_lt b n) (list_all (λ b. nat_lt b n) bs) low in
    let ups = and_parts (nat_lt k b) (ascends_from b bs) up in
    let b_low = ltb-true b n lows.0 in
    let b_up = ltb-true k b ups.0 in
    let rest = length_ascends b n bs ups.1 lows.1 b_low in
    omega (arith, rest, b_up)

-- the boot processors: 0, and then ascending
record BootList (p : Platform) : Type 0 where
  rest : List ℕ
  is : p.boot ≡ 0 ∷ rest
  ascends : ascends_from 0 rest ≡ true
  low : list_all (λ b. nat_lt b (count_of p)) rest ≡ true

boot_list : (p : Platform) → boot_fits p ≡ true → BootList p
boot_list p e = by_list p.boot refl e
  where
    by_list : (bs : List ℕ) → p.boot ≡ bs → (ascends_from_zero bs && list_all (λ k. nat_lt k (count_of p)) bs) ≡ true → BootList p
    by_list [] is e = absurd cc
    by_list (b ∷ bs) is e =
        let parts = and_parts ((b == 0) && ascends_from 0 bs) (list_all (λ k. nat_lt k (count_of p)) (b ∷ bs)) e in
        let ups = and_parts (b == 0) (ascends_from 0 bs) parts.0 in
        let first : b ≡ 0 = eqb-true b 0 ups.0 in
        record { rest = bs; is = is ∙ ap (λ x. x ∷ bs) first; ascends = ups.1; low = (and_parts (nat_lt b (count_of p)) (list_all (λ k. nat_lt k (count_of p)) bs) parts.1).1 }

sizes : (m : ℕ) → ((m == 1) || ((m == 2) || ((m == 8) || (m == 48)))) ≡ true → (m ≡ 1) ⊎ ((m ≡ 2) ⊎ ((m ≡ 8) ⊎ (m ≡ 48)))
sizes m e = grind (arith, nat_tests)

pub sound : (p : Platform) → IsFit p → Sound p
sound p e =
    let f = rules_of p e in
    let size = sizes p.tseg_mib f.tseg in
    let list = boot_list p f.boot in
    let low = memory_low p.low_memory f.memory in
    let tiles = and_parts (nat_le (count_of p) (most_tiles p.tseg_mib)) (has_room p) (and_parts (tseg_fits p) (nat_le (count_of p) (most_tiles p.tseg_mib) && has_room p) f.tiles).1 in
    let mib = mib_small p.low_memory p.tseg_mib size low.1 tiles.1 in
    let some = some_of (count_of p) f.counts in
    let few = few_of (count_of p) f.counts in
    record {
      unit = p.low_memory / 0x10000 - 16 * p.tseg_mib;
      whole = whole_of p.low_memory p.tseg_mib low.0 mib;
      size = size;
      above = above_of p.low_memory p.tseg_mib mib;
      top = top_of p.low_memory p.tseg_mib mib;
      room = room_of (count_of p) p.tseg_mib size tiles.0;
      some = some;
      few = few;
      most = low.2;
      boots = let n = length_ascends 0 (count_of p) list.rest list.ascends list.low some in let i : length p.boot ≡ suc (length list.rest) = ap length list.is in omega (arith, n, i, few);
      ids = λ k. ids_small (greatest_id p.x2apic) p.apic k (greatest_small p.x2apic) (and_parts (list_all (λ x. nat_le x (greatest_id p.x2apic)) p.apic) (all_distinct p.apic) f.ids).0;
      distinct = (and_parts (list_all (λ x. nat_le x (greatest_id p.x2apic)) p.apic) (all_distinct p.apic) f.ids).1;
      features = features_low p.features f.features;
    }
  where
    features_low : (f : ℕ) → nat_le f 7 ≡ true → f ≤ 7
    features_low f e = grind (arith, nat_tests)

    memory_low : (m : ℕ) → ((m % 0x100000 == 0) && (nat_le 0x1000000 m && nat_le m 0x80000000)) ≡ true → (m % 0x100000 ≡ 0) × (0x1000000 ≤ m) × (m ≤ 0x80000000)
    memory_low m e = (grind (arith, nat_tests), grind (arith, nat_tests), grind (arith, nat_tests))

    low_room : (m : ℕ) → (false || nat_le 0x4000000 m) ≡ true → 0x4000000 ≤ m
    low_room m e = grind (arith, nat_tests)

    -- below TSEG there are 8 MiB
    mib_small : (m t : ℕ) → (t ≡ 1) ⊎ ((t ≡ 2) ⊎ ((t ≡ 8) ⊎ (t ≡ 48))) → 0x1000000 ≤ m → (not (t == 48) || nat_le 0x4000000 m) ≡ true → t * 0x100000 + 0x800000 ≤ m
    mib_small m t (inl e) low room = omega (arith, e, low)
    mib_small m t (inr (inl e)) low room = omega (arith, e, low)
    mib_small m t (inr (inr (inl e))) low room = omega (arith, e, low)
    mib_small m t (inr (inr (inr e))) low room = let more = low_room m (subst (λ x. (not (x == 48) || nat_le 0x4000000 m) ≡ true) e room) in omega (arith, e, more)

    whole_of : (m t : ℕ) → m % 0x100000 ≡ 0 → t * 0x100000 + 0x800000 ≤ m → m - t * 0x100000 ≡ 0x10000 * (m / 0x10000 - 16 * t)
    whole_of m t e f = omega (arith, e, f)

    above_of : (m t : ℕ) → t * 0x100000 + 0x800000 ≤ m → 0x800000 ≤ m - t * 0x100000
    above_of m t f = omega (arith, f)

    top_of : (m t : ℕ) → t * 0x100000 + 0x800000 ≤ m → m ≡ m - t * 0x100000 + 0x100000 * t
    top_of m t f = omega (arith, f)

    few_tiles : (n most m : ℕ) → 0x10000 * most + 0x20000 ≤ 0x100000 * m → nat_le n most ≡ true → 0x10000 * n + 0x20000 ≤ 0x100000 * m
    few_tiles n most m room few = grind (arith, nat_tests)

    room_of : (n m : ℕ) → (m ≡ 1) ⊎ ((m ≡ 2) ⊎ ((m ≡ 8) ⊎ (m ≡ 48))) → nat_le n (most_tiles m) ≡ true → 0x10000 * n + 0x20000 ≤ 0x100000 * m
    room_of n m (inl e) f = few_tiles n 14 m (omega (arith, e)) (subst (λ x. nat_le n (most_tiles x) ≡ true) e f)
    room_of n m (inr (inl e)) f = few_tiles n 30 m (omega (arith, e)) (subst (λ x. nat_le n (most_tiles x) ≡ true) e f)
    room_of n m (inr (inr (inl e))) f = few_tiles n 126 m (omega (arith, e)) (subst (λ x. nat_le n (most_tiles x) ≡ true) e f)
    room_of n m (inr (inr (inr e))) f = few_tiles n 512 m (omega (arith, e)) (subst (λ x. nat_le n (most_tiles x) ≡ true) e f)

    some_of : (n : ℕ) → (nat_lt 0 n && nat_le n 512) ≡ true → 1 ≤ n
    some_of n e = grind (arith, nat_tests)

    few_of : (n : ℕ) → (nat_lt 0 n && nat_le n 512) ≡ true → n ≤ 512
    few_of n e = grind (arith, nat_tests)

-- one change of one place keeps what holds of each processor and of an absent one
set_here : (P : Cpu → Type 0) (cs : List Cpu) (i : ℕ) (d : Cpu) → P absent → P d → P (cpu_at (slice_set cs i d) i)
set_here P [] i d gone here = gone
set_here P (c ∷ cs) zero d gone here = here
set_here P (c ∷ cs) (suc i) d gone here = set_here P cs i d gone here

pub set_all : (P : ℕ → Cpu → Type 0) (cs : List Cpu) (i : ℕ) (d : Cpu) → P i absent → P i d → ((k : ℕ) → k ≢ i → P k (cpu_at cs k)) → (k : ℕ) → P k (cpu_at (slice_set cs i d) k)
set_all P cs i d gone here same k = elim (cases_eq k i) [
  | inl e ↦ subst (λ j. P j (cpu_at (slice_set cs i d) j)) (sym e) (set_here (P i) cs i d gone here)
  | inr n ↦ subst (P k) (sym (get_or-set_other cs i k d absent n)) (same k n)
]

pub first_set : (cs : List Cpu) (i : ℕ) (d : Cpu) → (cpu_at cs 0).present ≡ true → (i ≡ 0 → d.present ≡ true) → (cpu_at (slice_set cs i d) 0).present ≡ true
first_set [] i d e h = absurd cc
first_set (c ∷ cs) zero d e h = h refl
first_set (c ∷ cs) (suc i) d e h = e

-- boot processors are outside SMM, at the tiles of their slots
record Booted (p : Platform) (k : ℕ) (c : Cpu) : Type 0 where
  outside : smm_address c ≡ None
  based : c.present ≡ true → is_based p k c.smbase ≡ true
  possible : c.present ≡ true → k < count_of p
  slotted : c.present ≡ true → IsAtSlot p (boot_ids p) (apic_of p k) c.smbase

booted_absent : (p : Platform) (k : ℕ) → Booted p k absent
booted_absent p k = record { outside = refl; based = λ e. absurd cc; possible = λ e. absurd cc; slotted = λ e. absurd cc }

at_tile : (p : Platform) (k slot : ℕ) → 1 ≤ k → 1 ≤ slot → slot < count_of p → is_based p k (tile p slot) ≡ true
at_tile p k slot some more less =
    let z : (k == 0) ≡ false = not_zero k some in
    let s : slot_at (layout_of p) (tile p slot) ≡ slot = slot_plain (tseg p) slot in
    rw (z, s) (last_plain slot (count_of p) (tile p slot) (tile p slot == 0x30000) more less)
  where
    not_zero : (k : ℕ) → 1 ≤ k → (k == 0) ≡ false
    not_zero k e = grind (arith, nat_tests)

    slot_plain : (base slot : ℕ) → (base + 0x20000 + slot * 0x10000 - (base + 0x20000 + 0)) / 0x10000 ≡ slot
    slot_plain base slot = omega arith

    last_plain : (slot n b : ℕ) (d : Bool) → 1 ≤ slot → slot < n → (d || (not (slot == 0) && (nat_lt slot n && (b == b)))) ≡ true
    last_plain slot n b d more less = grind (arith, nat_tests)

booted_rest : (p : Platform) (slot k : ℕ) (bs : List ℕ) (cs : List Cpu) → 1 ≤ slot → slot ≤ k + 1 → ascends_from k bs ≡ true → list_all (λ b. nat_lt b (count_of p)) bs ≡ true → AtPlaces (apic_of p) (boot_ids p) slot bs → ((j : ℕ) → Booted p j (cpu_at cs j)) → (j : ℕ) → Booted p j (cpu_at (boot_cpus p slot bs cs) j)
unfolding boot_cpus
booted_rest p slot k [] cs some close up low there h j = h j
booted_rest p slot k (b ∷ bs) cs some close up low there h j =
    let lows = and_parts (nat_lt b (count_of p)) (list_all (λ b. nat_lt b (count_of p)) bs) low in
    let ups = and_parts (nat_lt k b) (ascends_from b bs) up in
    let b_low = ltb-true b (count_of p) lows.0 in
    let b_up = ltb-true k b ups.0 in
    booted_rest p (slot + 1) b bs (slice_set cs b (booted (tile p slot))) (omega arith) (omega (arith, b_up, close)) ups.1 lows.1 there.1
    (set_all (Booted p) cs b (booted (tile p slot)) (booted_absent p b)
    (record {
      outside = refl;
      based = λ e. at_tile p b slot (omega (arith, b_up)) some (omega (arith, b_low, b_up, close));
      possible = λ e. b_low;
      slotted = λ e. inr (there.0.0, ap (tile p) (sym there.0.1));
    }) (λ i other. h i)) j

none_replicate : (n j : ℕ) → cpu_at (replicate n absent) j ≡ absent
none_replicate zero j = refl
none_replicate (suc n) zero = refl
none_replicate (suc n) (suc j) = none_replicate n j

based_first : (p : Platform) → 1 ≤ count_of p → (is_in (apic_of p 0) (boot_ids p) ≡ true) × (slot_among (boot_ids p) (apic_of p 0) ≡ 0) → Booted p 0 (booted (tile p 0))
based_first p some there = record { outside = refl; based = λ e. same (tile p 0); possible = λ e. omega (arith, some); slotted = λ e. inr (there.0, ap (tile p) (sym there.1)) }
  where
    same : (n : ℕ) → (n == n) ≡ true
    same n = grind (arith, nat_tests)

all_booted : (p : Platform) (list : BootList p) → 1 ≤ count_of p → AtPlaces (apic_of p) (boot_ids p) 0 (0 ∷ list.rest) → (j : ℕ) → Booted p j (cpu_at (boot_cpus p 0 (0 ∷ list.rest) (replicate (count_of p) absent)) j)
unfolding boot_cpus
all_booted p list some there j =
    booted_rest p 1 0 list.rest (slice_set (replicate (count_of p) absent) 0 (booted (tile p 0))) (omega arith) (omega arith) list.ascends list.low there.1
    (set_all (Booted p) (replicate (count_of p) absent) 0 (booted (tile p 0)) (booted_absent p 0) (based_first p some there.0)
    (λ i other. subst (Booted p i) (sym (none_replicate (count_of p) i)) (booted_absent p i))) j

boot_first : (p : Platform) (slot : ℕ) (bs : List ℕ) (cs : List Cpu) → (cpu_at cs 0).present ≡ true → (cpu_at (boot_cpus p slot bs cs) 0).present ≡ true
unfolding boot_cpus
boot_first p slot [] cs e = e
boot_first p slot (b ∷ bs) cs e = boot_first p (slot + 1) bs (slice_set cs b (booted (tile p slot))) (first_set cs b (booted (tile p slot)) e (λ i. refl))

set_zero : (n : ℕ) (d : Cpu) → 1 ≤ n → d.present ≡ true → (cpu_at (slice_set (replicate n absent) 0 d) 0).present ≡ true
set_zero zero d some e = absurd (omega (arith, some))
set_zero (suc n) d some e = e

first_booted : (p : Platform) (list : BootList p) → Sound p → (cpu_at (boot_cpus p 0 (0 ∷ list.rest) (replicate (count_of p) absent)) 0).present ≡ true
unfolding boot_cpus
first_booted p list sound = boot_first p 1 list.rest (slice_set (replicate (count_of p) absent) 0 (booted (tile p 0))) (set_zero (count_of p) (booted (tile p 0)) sound.some refl)

-- registers 9d and 9e before TSEG is locked, where so many accesses more ask for 48 MiB
pub before_s : (more n : ℕ) → n < 17 + more → smram_after more n ≡ 0
before_s more n less = let e : nat_lt n (17 + more) ≡ true = below n (17 + more) less in rw e refl
  where
    below : (a b : ℕ) → a < b → nat_lt a b ≡ true
    below a b less = grind (arith, nat_tests)

pub before_e : (mib more n : ℕ) → n < 16 + more → esmramc_after mib more n ≡ 0
before_e mib more n less = let e : nat_lt n (16 + more) ≡ true = below n (16 + more) less in rw e refl
  where
    below : (a b : ℕ) → a < b → nat_lt a b ≡ true
    below a b less = grind (arith, nat_tests)

placed : (p : Platform) (list : BootList p) → Sound p → Placed p (slots_start p)
placed p list fit = placed_start p fit.distinct list.rest list.is list.ascends list.low fit.some

pub starts : (p : Platform) → IsFit p → IsBooting p (start p)
unfolding cpus_start
starts p e =
    let fit = sound p e in
    let list = boot_list p (rules_of p e).boot in
    let all : (j : ℕ) → Booted p j (cpu_at (boot_cpus p 0 p.boot (replicate (count_of p) absent)) j) = subst (λ bs. (j : ℕ) → Booted p j (cpu_at (boot_cpus p 0 bs (replicate (count_of p) absent)) j)) (sym list.is) (all_booted p list fit.some (subst (AtPlaces (apic_of p) (boot_ids p) 0) list.is (places (apic_of p) p.boot (placed p list fit).distinct))) in
    let first : (cpu_at (boot_cpus p 0 p.boot (replicate (count_of p) absent)) 0).present ≡ true = subst (λ bs. (cpu_at (boot_cpus p 0 bs (replicate (count_of p) absent)) 0).present ≡ true) (sym list.is) (first_booted p list fit) in
    record {
      done = 0;
      supported = 0;
      stage = refl;
      going = omega arith;
      holds = record {
        cpus = record {
          outside = λ k. (all k).outside;
          based = λ k. (all k).based;
          first = first;
          possible = λ k. (all k).possible;
          slotted = λ k. (all k).slotted;
          recorded = (omega arith, placed p list fit);
          begun = refl;
        };
        low_memory = refl;
        f_smbase = λ e. refl;
        smram = sym (before_s (ext_count p.tseg_mib) 0 (omega arith));
        esmramc = sym (before_e p.tseg_mib (ext_count p.tseg_mib) 0 (omega arith));
        ext_tseg = λ e f. absurd (omega (arith, f));
        memory = λ e. refl;
        kept = λ e. absurd (omega (arith, e));
      };
      agreeing = record { before = λ low. refl; after = λ i is. absurd (omega (arith, is)) };
    }
