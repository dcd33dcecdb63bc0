-- The slots at the start, one after another.
use Rattle.std.proofs.Common.{◌≡◌, ℕ, suc, Bool, ◌+◌, ◌<◌, ◌==◌, ◌||◌, List, [], ◌∷◌, ◌++◌, length, drop, refl, ap, append_assoc, drop-cons, add-one}
use Rattle.std.specs.List.{list_any}
use Rattle.hp_model.specs.Block.{Slot, no_slot, is_in, slots_from}
use Rattle.hp_model.proofs.FitPlatforms.{apic_few}

is_in_any : (k : ℕ) (xs : List ℕ) → is_in k xs ≡ list_any (λ x. x == k) xs
is_in_any k [] = refl
is_in_any k (x ∷ xs) = ap (λ (b : Bool). (x == k) || b) (is_in_any k xs)

-- one more slot is made
pub slots_more : (made : List Slot) (place : ℕ) (apic boot : List ℕ) → place < length apic →
    made ++ slots_from place (drop place apic) boot ≡
    (made ++ record no_slot { enabled = list_any (λ x. x == place) boot } ∷ []) ++ slots_from (place + 1) (drop (place + 1) apic) boot
slots_more made place apic boot h = rw (← is_in_any place boot, drop-cons apic place 0, append_assoc, add-one) refl

pub length-slots_from : (k : ℕ) (apic boot : List ℕ) → length (slots_from k apic boot) ≡ length apic
length-slots_from k [] boot = refl
length-slots_from k (a ∷ as') boot = ap suc (length-slots_from (k + 1) as' boot)

pub ruleset new_facts = (length-slots_from, apic_few)
