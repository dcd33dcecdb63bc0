-- No more distinct APIC IDs are bound than are possible; those of the boot processors are such.
use Rattle.std.proofs.Common.{ℕ, zero, suc, ◌≡◌, ◌≤◌, ◌<◌, ◌==◌, Bool, true, false, List, [], ◌∷◌, length, get_or, map, nat_lt, replicate, refl, sym, ap, ◌∙◌, arith}
use Rattle.std.specs.List.{list_all, list_any}
use Rattle.std.proofs.lemmas.Bool.Decides.{nat_tests}
use Rattle.std.proofs.lemmas.Grind.{common_steps}
use Rattle.hp_model.specs.declared.platforms.Platform.{Platform}
use Rattle.hp_model.specs.Block.{is_in}
use Rattle.hp_model.specs.Platform.{IsFit, all_distinct, ascends_from, ascends_from_zero, no_id}
use Rattle.hp_model.specs.Slots.{boot_ids}
use Rattle.hp_model.proofs.Counts.{in_at}
use Rattle.hp_model.proofs.FitPlatforms.{apic_few, boot_few}
use Rattle.hp_reloc.specs.Roster.{IsSound}
use Rattle.std.proofs.lemmas.List.{length-map, length-replicate}

any_false : (x : ℕ) (xs : List ℕ) (k : ℕ) → list_any (λ y. y == x) xs ≡ false → k < length xs → (get_or xs k no_id == x) ≡ false
any_false x [] k e h = absurd (omega (arith, h))
any_false x (y ∷ ys) zero e h = grind (arith, nat_tests, common_steps)
any_false x (y ∷ ys) (suc k) e h = any_false x ys k (grind (arith, nat_tests, common_steps)) (omega (arith, h))

-- two places of distinct APIC IDs
apart : (xs : List ℕ) (i j : ℕ) → all_distinct xs ≡ true → i < j → j < length xs → (get_or xs j no_id == get_or xs i no_id) ≡ false
apart [] i j d h k = absurd (omega (arith, k))
apart (x ∷ xs) i zero d h k = absurd (omega (arith, h))
apart (x ∷ xs) zero (suc j) d h k = any_false x xs j (grind (arith, nat_tests, common_steps)) (omega (arith, k))
apart (x ∷ xs) (suc i) (suc j) d h k = apart xs i j (grind (arith, nat_tests, common_steps)) (omega (arith, h)) (omega (arith, k))

-- none of the places that ascend from above `low` has the APIC ID of a place up to it
none_ahead : (xs : List ℕ) (i low : ℕ) (ks : List ℕ) → all_distinct xs ≡ true → i ≤ low → ascends_from low ks ≡ true →
    list_all (λ k. nat_lt k (length xs)) ks ≡ true → list_any (λ y. y == get_or xs i no_id) (map (λ k. get_or xs k no_id) ks) ≡ false
none_ahead xs i low [] d h up below = refl
none_ahead xs i low (k ∷ ks) d h up below =
    let here : i < k = grind (arith, nat_tests, common_steps) in
    let inside : k < length xs = grind (arith, nat_tests, common_steps) in
    let onward : ascends_from k ks ≡ true = grind (arith, nat_tests, common_steps) in
    let after : list_all (λ k. nat_lt k (length xs)) ks ≡ true = grind (arith, nat_tests, common_steps) in
    rw (apart xs i k d here inside) (none_ahead xs i k ks d (omega (arith, here)) onward after)

-- so their APIC IDs are distinct
distinct_ahead : (xs : List ℕ) (low : ℕ) (ks : List ℕ) → all_distinct xs ≡ true → ascends_from low ks ≡ true →
    list_all (λ k. nat_lt k (length xs)) ks ≡ true → all_distinct (map (λ k. get_or xs k no_id) ks) ≡ true
distinct_ahead xs low [] d up below = refl
distinct_ahead xs low (k ∷ ks) d up below =
    let onward : ascends_from k ks ≡ true = grind (arith, nat_tests, common_steps) in
    let after : list_all (λ k. nat_lt k (length xs)) ks ≡ true = grind (arith, nat_tests, common_steps) in
    rw (none_ahead xs k k ks d (omega arith) onward after) (distinct_ahead xs k ks d onward after)

distinct_all : (xs : List ℕ) (ks : List ℕ) → all_distinct xs ≡ true → ascends_from_zero ks ≡ true →
    list_all (λ k. nat_lt k (length xs)) ks ≡ true → all_distinct (map (λ k. get_or xs k no_id) ks) ≡ true
distinct_all xs [] d up below = refl
distinct_all xs (k ∷ ks) d up below =
    let zero_is : k ≡ 0 = grind (arith, nat_tests, common_steps) in
    let first : ascends_from 0 ks ≡ true = grind (arith, nat_tests, common_steps) in
    let onward : ascends_from k ks ≡ true = rw zero_is first in
    let after : list_all (λ k. nat_lt k (length xs)) ks ≡ true = grind (arith, nat_tests, common_steps) in
    rw (none_ahead xs k k ks d (omega arith) onward after) (distinct_ahead xs k ks d onward after)

in_all : (xs : List ℕ) (ks : List ℕ) → list_all (λ k. nat_lt k (length xs)) ks ≡ true → list_all (λ a. is_in a xs) (map (λ k. get_or xs k no_id) ks) ≡ true
in_all xs [] below = refl
in_all xs (k ∷ ks) below =
    let inside : k < length xs = grind (arith, nat_tests, common_steps) in
    let after : list_all (λ k. nat_lt k (length xs)) ks ≡ true = grind (arith, nat_tests, common_steps) in
    rw (in_at xs k no_id inside) (in_all xs ks after)

pub boot_distinct : (p : Platform) → IsFit p → all_distinct (boot_ids p) ≡ true
boot_distinct p fit = distinct_all p.apic p.boot (grind (arith, nat_tests)) (grind (arith, nat_tests)) (grind (arith, nat_tests))

pub boot_among : (p : Platform) → IsFit p → list_all (λ a. is_in a p.apic) (boot_ids p) ≡ true
boot_among p fit = in_all p.apic p.boot (grind (arith, nat_tests))

pub boot_below : (p : Platform) → IsFit p → list_all (λ k. nat_lt k (length p.apic)) p.boot ≡ true
boot_below p fit = grind (arith, nat_tests)

pub sound : (p : Platform) (bound : List ℕ) (known : List Bool) (possible : List ℕ) (room room_known : ℕ) → IsFit p →
    bound ≡ boot_ids p → known ≡ replicate (length p.boot) true → possible ≡ p.apic → length p.apic ≤ room → length p.apic ≤ room_known →
    IsSound bound known possible room room_known
sound p bound known possible room room_known fit b k e r s =
    let count : length bound ≡ length p.boot = rw b (simp length-map refl) in
    let count_known : length known ≡ length p.boot = rw k (simp length-replicate refl) in
    let all : length possible ≡ length p.apic = ap length e in
    record {
      same = count_known ∙ sym count;
      distinct = rw b (boot_distinct p fit);
      among = rw (b, e) (boot_among p fit);
      few = omega (arith, count, all, boot_few p fit);
      at_most = omega (arith, all, apic_few p fit);
      fits = omega (arith, all, r);
      fits_known = omega (arith, all, s);
    }
