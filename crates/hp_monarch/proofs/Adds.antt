-- What an add makes of the slots.
use Rattle.std.proofs.Common.{◌≡◌, ℕ, suc, Bool, true, false, cond, ◌||◌, ◌==◌, ◌+◌, ◌<◌, ◌≤◌, List, [], ◌∷◌, ◌++◌, Some, None, length, refl, sym, ap, subst, ◌∙◌, arith}
use Rattle.std.specs.Prelude.{nat_lt}
use Rattle.std.specs.Option.{unwrap_or}
use Rattle.std.proofs.lemmas.Bool.Decides.{nat_tests}
use Rattle.std.proofs.lemmas.List.{length-append}
use Rattle.std.proofs.lemmas.Option.{same_Some}
use Rattle.hp_model.specs.Block.{is_in}
use Rattle.hp_model.specs.Monarch.{with_byte}
use Rattle.hp_model.specs.Slots.{Slots, bind, slot_among, slot_in}
use Rattle.hp_model.proofs.Counts.{place_below}

-- the place of an APIC ID that isn't bound is their number
place_past : (ids : List ℕ) (a : ℕ) → is_in a ids ≡ false → slot_among ids a ≡ length ids
place_past [] a e = refl
place_past (b ∷ ids) a e = by_head (b == a) e (place_past ids a)
  where
    by_head : (x : Bool) → (x || is_in a ids) ≡ false → (is_in a ids ≡ false → slot_among ids a ≡ length ids) → cond x 0 (slot_among ids a + 1) ≡ suc (length ids)
    by_head true e rest = absurd cc
    by_head false e rest = let h = rest e in omega (arith, h)

pub slot_below : (s : Slots) (a k : ℕ) → slot_in s a ≡ Some k → k < length s.bound
slot_below s a k e = by (is_in a s.bound) refl e
  where
    by : (x : Bool) → is_in a s.bound ≡ x → cond x (Some (slot_among s.bound a)) None ≡ Some k → k < length s.bound
    by true is e = subst (λ (n : ℕ). n < length s.bound) (same_Some (slot_among s.bound a) k e) (place_below s.bound a is)
    by false is e = absurd cc

pub slot_is : (s : Slots) (a k : ℕ) → slot_in s a ≡ Some k → k ≡ slot_among s.bound a
slot_is s a k e = by (is_in a s.bound) e
  where
    by : (x : Bool) → cond x (Some (slot_among s.bound a)) None ≡ Some k → k ≡ slot_among s.bound a
    by true e = sym (same_Some (slot_among s.bound a) k e)
    by false e = absurd cc

-- a slot, and their number where there is none, is that place
pub slot_or : (s : Slots) (a : ℕ) → unwrap_or (slot_in s a) (length s.bound) ≡ slot_among s.bound a
slot_or s a = by (is_in a s.bound) refl
  where
    by : (x : Bool) → is_in a s.bound ≡ x → unwrap_or (cond x (Some (slot_among s.bound a)) None) (length s.bound) ≡ slot_among s.bound a
    by true is = refl
    by false is = sym (place_past s.bound a is)

-- a new slot is one more, with one byte more
bound_more : (a : ℕ) (s : Slots) → length (bind a s).bound ≡ cond (is_in a s.bound) (length s.bound) (length s.bound + 1)
bound_more a s = by (is_in a s.bound)
  where
    by : (x : Bool) → length (record (cond x s (record s { bound = s.bound ++ a ∷ []; known = s.known ++ false ∷ [] })) { held = Some a }).bound ≡ cond x (length s.bound) (length s.bound + 1)
    by true = refl
    by false = length-append s.bound (a ∷ [])

pub bound_grows : (a : ℕ) (s : Slots) → length s.bound ≤ length (bind a s).bound
bound_grows a s = by (is_in a s.bound) (bound_more a s)
  where
    by : (x : Bool) → length (bind a s).bound ≡ cond x (length s.bound) (length s.bound + 1) → length s.bound ≤ length (bind a s).bound
    by true e = omega (arith, e)
    by false e = omega (arith, e)

pub bytes_more : (a : ℕ) (s : Slots) (last : List ℕ) → length last ≡ length s.bound → cond (nat_lt (length last) (length (bind a s).bound)) (last ++ 2 ∷ []) last ≡ with_byte a s last
bytes_more a s last same = by (is_in a s.bound) (bound_more a s)
  where
    by : (x : Bool) → length (bind a s).bound ≡ cond x (length s.bound) (length s.bound + 1) → cond (nat_lt (length last) (length (bind a s).bound)) (last ++ 2 ∷ []) last ≡ cond x last (last ++ 2 ∷ [])
    by true e = let no : nat_lt (length last) (length (bind a s).bound) ≡ false = grind (arith, nat_tests) in rw no refl
    by false e = let yes : nat_lt (length last) (length (bind a s).bound) ≡ true = grind (arith, nat_tests) in rw yes refl

pub bytes_same : (a : ℕ) (s : Slots) (last : List ℕ) → length last ≡ length s.bound → length (with_byte a s last) ≡ length (bind a s).bound
bytes_same a s last same = by (is_in a s.bound) (bound_more a s)
  where
    by : (x : Bool) → length (bind a s).bound ≡ cond x (length s.bound) (length s.bound + 1) → length (cond x last (last ++ 2 ∷ [])) ≡ length (bind a s).bound
    by true e = same ∙ sym e
    by false e = length-append last (2 ∷ []) ∙ ap (λ n. n + 1) same ∙ sym e

pub ruleset add_facts = (slot_below, slot_is)

pub ruleset place_facts = (slot_or)
