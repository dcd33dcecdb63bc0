-- Places of APIC IDs and of known slots, one step at a time.
use Rattle.std.proofs.Common.{◌≡◌, ◌≢◌, ℕ, Bool, true, false, ◌||◌, ◌==◌, ◌+◌, ◌<◌, ◌≤◌, List, [], ◌∷◌, length, drop, get_or, slice_set, Some, None, refl, sym, ap, ◌∙◌, drop-cons, add-one, arith}
use Rattle.std.specs.Prelude.{if◌then◌else◌}
use Rattle.std.proofs.lemmas.Bool.Decides.{nat_tests}
use Rattle.std.proofs.lemmas.List.{drop_all, get_or_past, set_past}
use Rattle.hp_model.specs.Block.{is_in}
use Rattle.hp_model.specs.Slots.{first_true, slot_among}

in_drop : (xs : List ℕ) (k apic : ℕ) → k < length xs → is_in apic (drop k xs) ≡ ((get_or xs k 0 == apic) || is_in apic (drop (k + 1) xs))
in_drop xs k apic h = ap (λ (ys : List ℕ). is_in apic ys) (drop-cons xs k 0 h) ∙ ap (λ (n : ℕ). (get_or xs k 0 == apic) || is_in apic (drop n xs)) (sym (add-one k))

place_drop : (xs : List ℕ) (k apic : ℕ) → k < length xs → slot_among (drop k xs) apic ≡ (if get_or xs k 0 == apic then 0 else slot_among (drop (k + 1) xs) apic + 1)
place_drop xs k apic h =
    ap (λ (ys : List ℕ). slot_among ys apic) (drop-cons xs k 0 h)
    ∙ ap (λ (n : ℕ). if get_or xs k 0 == apic then 0 else slot_among (drop n xs) apic + 1) (sym (add-one k))

-- an APIC ID that stands here
pub in_here : (xs : List ℕ) (k apic : ℕ) → k < length xs → get_or xs k 0 ≡ apic → is_in apic (drop k xs) ≡ true
in_here xs k apic h e = in_drop xs k apic h ∙ grind (arith, nat_tests, e)

pub place_here : (xs : List ℕ) (k apic : ℕ) → k < length xs → get_or xs k 0 ≡ apic → slot_among (drop k xs) apic ≡ 0
place_here xs k apic h e = place_drop xs k apic h ∙ grind (arith, nat_tests, e)

-- another one
pub in_next : (xs : List ℕ) (k apic : ℕ) → k < length xs → get_or xs k 0 ≢ apic → is_in apic (drop k xs) ≡ is_in apic (drop (k + 1) xs)
in_next xs k apic h e = in_drop xs k apic h ∙ grind (arith, nat_tests, e)

pub place_next : (xs : List ℕ) (k apic : ℕ) → k < length xs → get_or xs k 0 ≢ apic → slot_among (drop k xs) apic ≡ slot_among (drop (k + 1) xs) apic + 1
place_next xs k apic h e = place_drop xs k apic h ∙ grind (arith, nat_tests, e)

pub in_none : (xs : List ℕ) (k apic : ℕ) → length xs ≤ k → is_in apic (drop k xs) ≡ false
in_none xs k apic h = ap (λ (ys : List ℕ). is_in apic ys) (drop_all k xs h)

pub ruleset place_facts = (in_here, place_here, in_next, place_next, in_none)

true_drop : (bs : List Bool) (k n : ℕ) → k < length bs → first_true n (drop k bs) ≡ first_true n (get_or bs k false ∷ drop (k + 1) bs)
true_drop bs k n h = ap (λ (ys : List Bool). first_true n ys) (drop-cons bs k false h) ∙ ap (λ (m : ℕ). first_true n (get_or bs k false ∷ drop m bs)) (sym (add-one k))

pub true_here : (bs : List Bool) (k n : ℕ) → k < length bs → get_or bs k false ≡ true → first_true n (drop k bs) ≡ Some n
true_here bs k n h e = true_drop bs k n h ∙ rw e refl

pub true_next : (bs : List Bool) (k n : ℕ) → k < length bs → get_or bs k false ≡ false → first_true n (drop k bs) ≡ first_true (n + 1) (drop (k + 1) bs)
true_next bs k n h e = true_drop bs k n h ∙ rw e refl

pub true_none : (bs : List Bool) (k n : ℕ) → length bs ≤ k → first_true n (drop k bs) ≡ None
true_none bs k n h = ap (λ (ys : List Bool). first_true n ys) (drop_all k bs h)

pub ruleset true_facts = (true_here, true_next, true_none)

-- an APIC ID is bound exactly where it has a place
pub place_in : (xs : List ℕ) (apic : ℕ) → is_in apic xs ≡ true → slot_among xs apic < length xs
place_in [] apic e = absurd cc
place_in (x ∷ xs) apic e = grind (arith, nat_tests, place_in xs apic)

pub place_out : (xs : List ℕ) (apic : ℕ) → is_in apic xs ≡ false → slot_among xs apic ≡ length xs
place_out [] apic e = refl
place_out (x ∷ xs) apic e = grind (arith, nat_tests, place_out xs apic)

pub unknown : (xs : List ℕ) (bs : List Bool) (apic : ℕ) → length bs ≡ length xs → is_in apic xs ≡ false → get_or bs (slot_among xs apic) false ≡ false
unknown xs bs apic same e = get_or_past bs (slot_among xs apic) false (omega (arith, same, place_out xs apic e))

pub ruleset known_facts = (place_in, unknown)

pub unset : (xs : List ℕ) (bs : List Bool) (apic : ℕ) (b : Bool) → length bs ≡ length xs → is_in apic xs ≡ false → slice_set bs (slot_among xs apic) b ≡ bs
unset xs bs apic b same e = set_past bs (slot_among xs apic) b (omega (arith, same, place_out xs apic e))

pub ruleset set_facts = (place_in, unset)
