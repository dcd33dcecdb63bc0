-- A slot that control 8 ejects, and its firmware eject bit.
use Rattle.std.proofs.Common.{ℕ, zero, suc, ◌≡◌, ◌≢◌, ◌+◌, ◌*◌, ◌<◌, ◌==◌, Bool, true, false, List, [], ◌∷◌, length, slice_set, refl, ap, ◌∙◌, arith, Some}
use Rattle.hp_model.specs.Block.{Block, slot_at, Slot, no_slot, controlled, bit, status, write_control, block_write, ejected_by}
use Rattle.hp_exact.proofs.Stepping.{is_other}
use Rattle.hp_exact.proofs.Reading.{selected_is}
use Rattle.std.specs.Prelude.{slice_index_or, bit_and}

-- slots that keep their firmware eject
pub slot_same : (f : Slot → Bool) (ss : List Slot) (k j : ℕ) (t : Slot) → f t ≡ f (slice_index_or ss k no_slot) → f (slice_index_or (slice_set ss k t) j no_slot) ≡ f (slice_index_or ss j no_slot)
slot_same f [] k j t e = refl
slot_same f (s ∷ ss) zero zero t e = e
slot_same f (s ∷ ss) zero (suc j) t e = refl
slot_same f (s ∷ ss) (suc k) zero t e = refl
slot_same f (s ∷ ss) (suc k) (suc j) t e = slot_same f ss k j t e

pub slot_there : (ss : List Slot) (k : ℕ) (t : Slot) → k < length ss → slice_index_or (slice_set ss k t) k no_slot ≡ t
slot_there [] k t less = absurd (omega (arith, less))
slot_there (s ∷ ss) zero t less = refl
slot_there (s ∷ ss) (suc k) t less = slot_there ss k t (omega (arith, less))

-- the selected slot, as control 8 leaves it
written_slot : (b : Block) → b.modern ≡ true → b.selector < length b.slots → slot_at (block_write b 4 1 8) b.selector ≡ controlled (slot_at b b.selector) (b.selector == 0) 8
written_slot b modern less =
    let chosen = selected_is b less in
    let written : block_write b 4 1 8 ≡ write_control b 8 = rw (modern, chosen) refl in
    ap (λ (c : Block). slot_at c b.selector) written ∙ slot_there b.slots b.selector (controlled (slot_at b b.selector) (b.selector == 0) 8) less

-- of another processor than 0 that is there: it clears the firmware eject bit
pub eject_is : (b : Block) → b.modern ≡ true → b.selector < length b.slots → b.selector ≢ 0 → (slot_at b b.selector).enabled ≡ true → (slot_at (block_write b 4 1 8) b.selector).ejecting ≡ false
eject_is b modern less other enabled =
    let first = is_other b.selector other in
    let gone : (controlled (slot_at b b.selector) (b.selector == 0) 8).ejecting ≡ false = rw (first, enabled) refl in
    ap (λ (t : Slot). t.ejecting) (written_slot b modern less) ∙ gone

-- and without it bit 4 of the status byte is clear
pub status_calm : (s : Slot) → s.ejecting ≡ false → (bit_and (status s) 0x10 == 0x10) ≡ false
status_calm s e = by_bits s.enabled s.inserting s.removing s.ejecting e
  where
    by_bits : (a b c d : Bool) → d ≡ false → (bit_and (bit a + 2 * bit b + 4 * bit c + 16 * bit d) 0x10 == 0x10) ≡ false
    by_bits true true true false f = refl
    by_bits true true false false f = refl
    by_bits true false true false f = refl
    by_bits true false false false f = refl
    by_bits false true true false f = refl
    by_bits false true false false f = refl
    by_bits false false true false f = refl
    by_bits false false false false f = refl
    by_bits a b c true f = absurd cc

-- and it ejects this processor
ejected_from : (b d : Block) → (slot_at b b.selector).enabled ≡ true → (slot_at d b.selector).enabled ≡ false → ejected_by b d ≡ Some b.selector
ejected_from b d on off = rw (on, off) refl

pub eject_gone : (b : Block) → b.modern ≡ true → b.selector < length b.slots → b.selector ≢ 0 → (slot_at b b.selector).enabled ≡ true → ejected_by b (block_write b 4 1 8) ≡ Some b.selector
eject_gone b modern less other enabled =
    let first = is_other b.selector other in
    let gone : (controlled (slot_at b b.selector) (b.selector == 0) 8).enabled ≡ false = rw (first, enabled) refl in
    ejected_from b (block_write b 4 1 8) enabled (ap (λ (t : Slot). t.enabled) (written_slot b modern less) ∙ gone)
