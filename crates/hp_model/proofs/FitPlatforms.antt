-- What a platform that fits has.
use Rattle.std.proofs.Common.{◌≡◌, ◌≤◌, ℕ, Bool, true, false, cond, not, nat_le, List, [], ◌∷◌, length, Option, Some, None, if◌then◌else◌, refl, subst, arith}
use Rattle.std.specs.List.{list_all}
use Rattle.std.proofs.lemmas.Bool.{and_parts}
use Rattle.std.proofs.lemmas.Bool.Decides.{nat_tests}
use Rattle.hp_model.specs.declared.platforms.Platform.{Platform}
use Rattle.hp_model.specs.Block.{is_in}
use Rattle.hp_model.specs.Platform.{IsFit, all_distinct, boot_fits, count_of, counts_fit, features_fit, greatest_id, ids_fit, memory_fits, polls_fit, tiles_fit, tseg, tseg_fits}
use Rattle.hp_model.proofs.Counts.{few_ascend}

-- rules 2 to 9
pub record Rules (p : Platform) : Type 0 where
  pub counts : counts_fit p ≡ true
  pub ids : ids_fit p ≡ true
  pub boot : boot_fits p ≡ true
  pub memory : memory_fits p ≡ true
  pub tseg : tseg_fits p ≡ true
  pub tiles : tiles_fit p ≡ true
  pub features : features_fit p ≡ true
  pub polls : polls_fit p ≡ true

-- a rule that no platform that fits breaks, and the rules after it
passed : (b : Bool) (n : ℕ) (rest : Option ℕ) → cond (not b) (Some n) rest ≡ None → (b ≡ true) × (rest ≡ None)
passed true n rest e = (refl, e)
passed false n rest e = absurd cc

pub rules_of : (p : Platform) → IsFit p → Rules p
rules_of p fit =
    let two = passed (counts_fit p) 2 _ fit in
    let three = passed (ids_fit p) 3 _ two.1 in
    let four = passed (boot_fits p) 4 _ three.1 in
    let five = passed (memory_fits p) 5 _ four.1 in
    let six = passed (tseg_fits p) 6 _ five.1 in
    let seven = passed (tiles_fit p) 7 _ six.1 in
    let eight = passed (features_fit p) 8 _ seven.1 in
    let nine = passed (polls_fit p) 9 _ eight.1 in
    record { counts = two.0; ids = three.0; boot = four.0; memory = five.0; tseg = six.0; tiles = seven.0; features = eight.0; polls = nine.0 }

-- there are at most 512 processors, and no more of them boot
pub apic_few : (p : Platform) → IsFit p → length p.apic ≤ 512
apic_few p fit = grind (arith, nat_tests)

pub boot_few : (p : Platform) → IsFit p → length p.boot ≤ length p.apic
boot_few p fit = few_ascend (count_of p) p.boot (grind (arith, nat_tests)) (grind (arith, nat_tests))

pub tseg_below : (p : Platform) → IsFit p → tseg p ≤ 0x80000000
tseg_below p fit = grind (arith, nat_tests)

-- possible APIC IDs are at most the greatest, so without x2APIC they have 8 bits
pub ids_small : (p : Platform) → IsFit p → list_all (λ a. nat_le a (greatest_id p.x2apic)) p.apic ≡ true
ids_small p fit = (and_parts (list_all (λ a. nat_le a (greatest_id p.x2apic)) p.apic) (all_distinct p.apic) (rules_of p fit).ids).0

each_of : (most : ℕ) (ids : List ℕ) (k : ℕ) → list_all (λ a. nat_le a most) ids ≡ true → is_in k ids ≡ true → k ≤ most
each_of most [] k all among = cc
each_of most (x ∷ xs) k all among = grind (arith, nat_tests, each_of most xs k)

pub possible_small : (p : Platform) (a : ℕ) → IsFit p → is_in a p.apic ≡ true → a ≤ greatest_id p.x2apic
possible_small p a fit among = each_of (greatest_id p.x2apic) p.apic a (ids_small p fit) among

pub fits_a_byte : (p : Platform) (apic : ℕ) → IsFit p → p.x2apic ≡ false → is_in apic p.apic ≡ true → apic ≤ 254
fits_a_byte p apic fit narrow among =
    each_of 254 p.apic apic (subst (λ (most : Bool). list_all (λ a. nat_le a (if most then 0xfffffffe else 254)) p.apic ≡ true) narrow (ids_small p fit)) among
