-- An ejected processor is a possible one.
use Rattle.std.proofs.Common.{◌≡◌, ℕ, ◌<◌, Bool, true, false, ◌&&◌, not, List, [], ◌∷◌, length, Some, None, refl, subst, zero, suc, arith, if◌then◌else◌, ap}
use Rattle.std.proofs.lemmas.Option.{same_Some}
use Rattle.std.specs.Prelude.{slice_index_or, slice_set}
use Rattle.hp_model.specs.Block.{Block, Slot, no_slot, slot_at, ejected_by, with_insert, with_removal}

enabled-within : (ss : List Slot) (k : ℕ) → (slice_index_or ss k no_slot).enabled ≡ true → k < length ss
enabled-within [] k on = cc
enabled-within (s ∷ ss) zero on = omega arith
enabled-within (s ∷ ss) (suc k) on = omega (arith, enabled-within ss k on)

pub ejected-within : (b c : Block) (k : ℕ) → ejected_by b c ≡ Some k → k < length b.slots
ejected-within b c k is = by (slot_at b b.selector).enabled (slot_at c b.selector).enabled refl is
  where
    by : (was is : Bool) → (slot_at b b.selector).enabled ≡ was → (if was && not is then Some b.selector else None) ≡ Some k → k < length b.slots
    by true false on e = subst (λ n. n < length b.slots) (same_Some b.selector k e) (enabled-within b.slots b.selector on)
    by true true on e = cc
    by false is on e = cc

-- a block that stays ejects nobody
pub ejected-none : (b : Block) → ejected_by b b ≡ None
ejected-none b = by (slot_at b b.selector).enabled
  where
    by : (on : Bool) → (if on && not on then Some b.selector else None) ≡ None
    by true = refl
    by false = refl

kept-none : (k : ℕ) (on : Bool) → (if on && not on then Some k else None) ≡ None
kept-none k true = refl
kept-none k false = refl

-- a host event ejects nobody
enabled-kept : (ss : List Slot) (k j : ℕ) (x : Slot) → ((slice_index_or ss j no_slot).enabled ≡ true → j ≡ k → x.enabled ≡ true) →
    (slice_index_or ss j no_slot).enabled ≡ true → (slice_index_or (slice_set ss k x) j no_slot).enabled ≡ true
enabled-kept [] k j x keeps on = on
enabled-kept (s ∷ ss) zero zero x keeps on = keeps on refl
enabled-kept (s ∷ ss) zero (suc j) x keeps on = on
enabled-kept (s ∷ ss) (suc k) zero x keeps on = on
enabled-kept (s ∷ ss) (suc k) (suc j) x keeps on = enabled-kept ss k j x (λ e same. keeps e (ap suc same)) on

not-ejected : (b c : Block) → ((slot_at b b.selector).enabled ≡ true → (slot_at c b.selector).enabled ≡ true) → ejected_by b c ≡ None
not-ejected b c kept = by (slot_at b b.selector).enabled refl
  where
    by : (was : Bool) → (slot_at b b.selector).enabled ≡ was → (if was && not (slot_at c b.selector).enabled then Some b.selector else None) ≡ None
    by false is = refl
    by true is = rw (kept is) refl

pub ejected-insert : (b : Block) (k : ℕ) → ejected_by b (with_insert b k) ≡ None
ejected-insert b k = not-ejected b (with_insert b k) (enabled-kept b.slots k b.selector _ (λ on same. refl))

pub ejected-removal : (b : Block) (k : ℕ) → ejected_by b (with_removal b k) ≡ None
ejected-removal b k = not-ejected b (with_removal b k) (enabled-kept b.slots k b.selector _ (λ on same. subst (λ j. (slot_at b j).enabled ≡ true) same on))

pub ruleset ejects = (ejected-within, ejected-none, ejected-insert, ejected-removal)
