-- What the register block answers the monarch.
use Rattle.std.proofs.Common.{ℕ, zero, suc, ◌≡◌, ◌+◌, ◌*◌, ◌<◌, ◌≤◌, Bool, true, false, cond, nat_lt, List, [], ◌∷◌, length, take, drop, Option, Some, None, option_map, bit_and, refl, arith, length-drop, length-take}
use Rattle.std.specs.Prelude.{slice_index_or}
use Rattle.std.proofs.lemmas.Bool.Decides.{nat_tests}
use Rattle.std.proofs.lemmas.Option.{same_Some}
use Rattle.hp_model.specs.declared.platforms.Platform.{Platform}
use Rattle.hp_model.specs.Platform.{count_of, apic_of}
use Rattle.hp_model.specs.Block.{Block, Slot, slot_at, is_selected, bit, status, has_event, first_event, found_below, found_from, found, block_read, block_write}

-- the search ends at a possible processor
first_event_small : (ss : List Slot) (j : ℕ) → first_event ss ≡ Some j → j < length ss
first_event_small [] j e = absurd cc
first_event_small (s ∷ ss) j e = by_event (has_event s) e (λ i f. first_event_small ss i f)
  where
    by_rest : (o : Option ℕ) → first_event ss ≡ o → option_map (λ k. k + 1) o ≡ Some j → ((i : ℕ) → first_event ss ≡ Some i → i < length ss) → j < suc (length ss)
    by_rest None is f rest = absurd cc
    by_rest (Some i) is f rest = let g = same_Some (i + 1) j f in let h = rest i is in omega (arith, g, h)

    by_event : (b : Bool) → cond b (Some 0) (option_map (λ k. k + 1) (first_event ss)) ≡ Some j → ((i : ℕ) → first_event ss ≡ Some i → i < length ss) → j < suc (length ss)
    by_event true f rest = let g = same_Some 0 j f in omega (arith, g)
    by_event false f rest = by_rest (first_event ss) refl f rest

found_small : (k : ℕ) (ss : List Slot) → k < length ss → found k ss < length ss
found_small k ss less = by_drop (first_event (drop k ss)) refl
  where
    by_take : (o : Option ℕ) → first_event (take k ss) ≡ o → found_below k o < length ss
    by_take None is = less
    by_take (Some j) is = let small = first_event_small (take k ss) j is in let n = length-take k ss in omega (arith, small, n, less)

    by_drop : (o : Option ℕ) → first_event (drop k ss) ≡ o → found_from k ss o < length ss
    by_drop None is = by_take (first_event (take k ss)) refl
    by_drop (Some j) is = let small = first_event_small (drop k ss) j is in let n = length-drop k ss in omega (arith, small, n, less)

pub selected_is : (b : Block) → b.selector < length b.slots → is_selected b ≡ true
selected_is b less = plain b.selector (length b.slots) less
  where
    plain : (a n : ℕ) → a < n → nat_lt a n ≡ true
    plain a n less = grind (arith, nat_tests)

-- the selector, in 4 bytes
pub select_is : (b : Block) (v : ℕ) → b.modern ≡ true → v < 0x100000000 → (block_write b 0 4 v).selector ≡ v
select_is b v modern small = rw modern (omega (arith, small))

-- command 0, and command 3
pub search_is : (b : Block) → b.modern ≡ true → b.selector < length b.slots → ((block_write b 5 1 0).command ≡ 0) × ((block_write b 5 1 0).selector < length b.slots)
search_is b modern less = let chosen = selected_is b less in (rw (modern, chosen) refl, rw (modern, chosen) (found_small b.selector b.slots less))

pub ask_is : (b : Block) → b.modern ≡ true → b.selector < length b.slots → ((block_write b 5 1 3).command ≡ 3) × ((block_write b 5 1 3).selector ≡ b.selector)
ask_is b modern less = let chosen = selected_is b less in (rw (modern, chosen) refl, rw (modern, chosen) refl)

-- command data
pub read_found : (b : Block) → b.modern ≡ true → b.selector < length b.slots → b.selector < 0x100000000 → b.command ≡ 0 → block_read b 8 4 ≡ b.selector
read_found b modern less small command = let chosen = selected_is b less in rw (modern, chosen, command) (omega (arith, small))

pub read_apic : (p : Platform) (b : Block) → b.modern ≡ true → b.selector < length b.slots → b.command ≡ 3 → b.apic ≡ p.apic → b.selector < count_of p → apic_of p b.selector ≤ 0xffffffff → block_read b 8 4 ≡ apic_of p b.selector
read_apic p b modern less command ids few small =
    let chosen = selected_is b less in
    let any = any_default p.apic b.selector 0 0xffffffff few in
    rw (modern, chosen, command, ids, any) (omega (arith, small))
  where
    any_default : (xs : List ℕ) (k d e : ℕ) → k < length xs → slice_index_or xs k d ≡ slice_index_or xs k e
    any_default [] k d e less = absurd (omega (arith, less))
    any_default (x ∷ xs) zero d e less = refl
    any_default (x ∷ xs) (suc k) d e less = any_default xs k d e (omega (arith, less))

-- the status byte
bit_small : (b : Bool) → bit b ≤ 1
bit_small true = omega arith
bit_small false = omega arith

pub read_status : (b : Block) → b.modern ≡ true → b.selector < length b.slots → block_read b 4 1 ≡ status (slot_at b b.selector)
read_status b modern less =
    let chosen = selected_is b less in
    let s = slot_at b b.selector in
    let a = bit_small s.enabled in let i = bit_small s.inserting in let r = bit_small s.removing in let e = bit_small s.ejecting in
    rw (modern, chosen) (omega (arith, a, i, r, e))

-- bit 0 of it is presence, and without bits 1 and 4 there is neither an insert event nor a firmware eject
pub status_enabled : (s : Slot) → bit_and (status s) 1 ≡ 1 → s.enabled ≡ true
status_enabled s e = by_bits s.enabled s.inserting s.removing s.ejecting e
  where
    by_bits : (a b c d : Bool) → bit_and (bit a + 2 * bit b + 4 * bit c + 16 * bit d) 1 ≡ 1 → a ≡ true
    by_bits true b c d f = refl
    by_bits false true true true f = absurd cc
    by_bits false true true false f = absurd cc
    by_bits false true false true f = absurd cc
    by_bits false true false false f = absurd cc
    by_bits false false true true f = absurd cc
    by_bits false false true false f = absurd cc
    by_bits false false false true f = absurd cc
    by_bits false false false false f = absurd cc

pub status_calm : (s : Slot) → s.inserting ≡ false → s.ejecting ≡ false → bit_and (status s) 0x12 ≡ 0
status_calm s i e = by_bits s.enabled s.inserting s.removing s.ejecting i e
  where
    by_bits : (a b c d : Bool) → b ≡ false → d ≡ false → bit_and (bit a + 2 * bit b + 4 * bit c + 16 * bit d) 0x12 ≡ 0
    by_bits true false true false f g = refl
    by_bits true false false false f g = refl
    by_bits false false true false f g = refl
    by_bits false false false false f g = refl
    by_bits a true c d f g = absurd cc
    by_bits a false c true f g = absurd cc
