-- The legacy bitmap fits in a double word.
use Rattle.std.proofs.Common.{◌≡◌, ◌≢◌, ℕ, zero, suc, Bool, true, false, ◌+◌, ◌*◌, ◌^◌, ◌<◌, ◌≤◌, List, [], ◌∷◌, length, take, take_all, get_or, inl, inr, refl, sym, subst, arith}
use Rattle.std.proofs.lemmas.Bool.{true≢false}
use Rattle.std.proofs.lemmas.Bool.Decides.{nat_tests}
use Rattle.hp_model.specs.Block.{Slot, Block, no_slot, slot_at, bit, bitmap, first_places, cut, block_read}
use Rattle.hp_model.specs.Access.{IsPortWidth}

bit_small : (b : Bool) → bit b ≤ 1
bit_small true = omega arith
bit_small false = omega arith

pow_more : (n : ℕ) → 2 ^ suc n ≡ 2 * 2 ^ n
pow_more n = omega arith

bitmap_below : (n : ℕ) (ss : List Slot) → length ss ≤ n → bitmap ss < 2 ^ n
bitmap_below zero [] h = omega arith
bitmap_below zero (s ∷ ss) h = omega arith
bitmap_below (suc n) [] h = omega (arith, pow_more n, bitmap_below n [] (omega arith))
bitmap_below (suc n) (s ∷ ss) h = omega (arith, pow_more n, bit_small s.enabled, bitmap_below n ss (omega arith))

pub bitmap_fits : (ss : List Slot) → length ss ≤ 31 → bitmap ss < 2147483648
bitmap_fits ss h = bitmap_below 31 ss h

pub first_places_take : (ss : List Slot) → first_places ss ≡ take 32 ss
unfolding first_places
first_places_take ss = refl

pub first_places_all : (ss : List Slot) → length ss ≤ 32 → first_places ss ≡ ss
unfolding first_places
first_places_all ss h = take_all 32 ss h

pub ruleset bitmap_facts = (first_places_take, first_places_all)

-- an odd number is odd after a cut to a width
odd : (n width : ℕ) → IsPortWidth width → cut width (1 + 2 * n) ≢ 0
odd n width (inl e) = subst (λ (w : ℕ). cut w (1 + 2 * n) ≢ 0) (sym e) (λ z. omega arith)
odd n width (inr (inl e)) = subst (λ (w : ℕ). cut w (1 + 2 * n) ≢ 0) (sym e) (λ z. omega arith)
odd n width (inr (inr e)) = subst (λ (w : ℕ). cut w (1 + 2 * n) ≢ 0) (sym e) (λ z. omega arith)

first_bit : (ss : List Slot) (width : ℕ) → IsPortWidth width → (get_or ss 0 no_slot).enabled ≡ true → cut width (bitmap (first_places ss)) ≢ 0
unfolding first_places
first_bit [] width w e = absurd (true≢false (sym e))
first_bit (s ∷ ss) width w e = rw e (odd (bitmap (take 31 ss)) width w)

pub legacy_reads_more : (b : Block) (width : ℕ) → IsPortWidth width → b.modern ≡ false → (slot_at b 0).enabled ≡ true → block_read b 0 width ≢ 0
legacy_reads_more b width w m e = rw m (first_bit b.slots width w e)

pub modern_reads_zero : (b : Block) (width : ℕ) → b.modern ≡ true → block_read b 0 width ≡ 0
modern_reads_zero b width m = grind (arith, nat_tests)
