-- One more APIC ID is bound.
use Rattle.std.proofs.Common.{◌≡◌, ℕ, Bool, true, false, ◌||◌, ◌==◌, ◌<◌, ◌≤◌, cond, List, [], ◌∷◌, ◌++◌, length, Some, None, refl, ap, ◌∙◌, arith}
use Rattle.std.specs.Prelude.{if◌then◌else◌}
use Rattle.std.specs.List.{list_all, list_any}
use Rattle.std.proofs.lemmas.Bool.Decides.{nat_tests}
use Rattle.std.proofs.lemmas.Grind.{common_steps}
use Rattle.std.proofs.lemmas.List.{length-append}
use Rattle.std.proofs.lemmas.List.Folds.{list_all-append, list_any-append}
use Rattle.hp_model.specs.Block.{is_in}
use Rattle.hp_model.specs.Platform.{all_distinct}
use Rattle.hp_model.specs.Slots.{slot_among}
use Rattle.hp_reloc.specs.Roster.{IsSound}
use Rattle.hp_model.proofs.Counts.{pigeons}

-- the two ways to say that it is among them
any_in : (x : ℕ) (xs : List ℕ) → list_any (λ y. y == x) xs ≡ is_in x xs
any_in x [] = refl
any_in x (y ∷ ys) = ap (λ (b : Bool). (y == x) || b) (any_in x ys)

pub in_added : (xs : List ℕ) (apic : ℕ) → is_in apic (xs ++ apic ∷ []) ≡ true
in_added [] apic = grind (arith, nat_tests)
in_added (x ∷ xs) apic = grind (arith, nat_tests, in_added xs apic)

pub place_added : (xs : List ℕ) (apic : ℕ) → is_in apic xs ≡ false → slot_among (xs ++ apic ∷ []) apic ≡ length xs
place_added [] apic h = grind (arith, nat_tests)
place_added (x ∷ xs) apic h = grind (arith, nat_tests, place_added xs apic)

distinct_added : (xs : List ℕ) (apic : ℕ) → all_distinct xs ≡ true → is_in apic xs ≡ false → all_distinct (xs ++ apic ∷ []) ≡ true
distinct_added [] apic d h = refl
distinct_added (x ∷ xs) apic d h =
    let other : (x == apic) ≡ false = grind (arith, nat_tests) in
    let swapped : (apic == x) ≡ false = grind (arith, nat_tests) in
    let out : is_in apic xs ≡ false = grind (arith, nat_tests) in
    let none : list_any (λ y. y == x) xs ≡ false = grind (arith, nat_tests, common_steps) in
    let rest : all_distinct xs ≡ true = grind (arith, nat_tests, common_steps) in
    let whole : list_any (λ y. y == x) (xs ++ apic ∷ []) ≡ false = simp (list_any-append, none, swapped) refl in
    rw whole (distinct_added xs apic rest out)

-- there is room for one that isn't bound
pub room_for : (bound : List ℕ) (known : List Bool) (possible : List ℕ) (room room_known apic : ℕ) → IsSound bound known possible room room_known →
    is_in apic bound ≡ false → is_in apic possible ≡ true → length bound < length possible
room_for bound known possible room room_known apic s out is =
    let none : list_any (λ y. y == apic) bound ≡ false = any_in apic bound ∙ out in
    let distinct : all_distinct (apic ∷ bound) ≡ true = rw none s.distinct in
    let among : list_all (λ a. is_in a possible) (apic ∷ bound) ≡ true = rw is s.among in
    omega (arith, pigeons (apic ∷ bound) possible distinct among)

pub sound_more : (bound : List ℕ) (known : List Bool) (possible : List ℕ) (room room_known more more_known apic : ℕ) → IsSound bound known possible room room_known →
    is_in apic bound ≡ false → is_in apic possible ≡ true → room ≤ more → room_known ≤ more_known →
    IsSound (bound ++ apic ∷ []) (known ++ false ∷ []) possible more more_known
sound_more bound known possible room room_known more more_known apic s out is r k = record {
  same = simp length-append (omega (arith, s.same));
  distinct = distinct_added bound apic s.distinct out;
  among = simp (list_all-append, s.among, is) refl;
  few = simp length-append (omega (arith, room_for bound known possible room room_known apic s out is));
  at_most = s.at_most;
  fits = omega (arith, s.fits, r);
  fits_known = omega (arith, s.fits_known, k);
}

pub ruleset adding_facts = (in_added, place_added)

-- no slot was found, so it isn't bound
pub not_bound : (apic : ℕ) (seen bound : List ℕ) → None ≡ (if is_in apic seen then Some (slot_among seen apic) else None) → seen ≡ bound → is_in apic bound ≡ false
not_bound apic seen bound h e = rw (← e) (by_test (is_in apic seen) h)
  where
    by_test : (b : Bool) → None ≡ cond b (Some (slot_among seen apic)) None → b ≡ false
    by_test true g = absurd cc
    by_test false g = refl
