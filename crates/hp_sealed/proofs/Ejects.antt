-- A write of the register block ejects no other than the selected processor, and never processor 0.
use Rattle.std.proofs.Common.{ℕ, zero, suc, ◌≡◌, ◌≢◌, ◌%◌, ◌==◌, Bool, true, false, cond, not, ◌&&◌, List, [], ◌∷◌, slice_set, Some, None, bit_and, refl, sym, subst, ◌∙◌}
use Rattle.std.specs.Prelude.{slice_index_or}
use Rattle.std.proofs.lemmas.Option.{same_Some}
use Rattle.hp_model.specs.Block.{Block, Slot, no_slot, slot_at, is_selected, cut, controlled, write_control, write_command, with_data, write_data, modern_write, block_write, ejected_by}
use Rattle.hp_sealed.proofs.Left.{pick, pick_by}

abbrev Same : Slot → Slot → Type 0
Same s t = t.enabled ≡ s.enabled

same_set : (l : List Slot) (k : ℕ) (t : Slot) → Same (slice_index_or l k no_slot) t → Same (slice_index_or l k no_slot) (slice_index_or (slice_set l k t) k no_slot)
same_set [] k t e = refl
same_set (x ∷ xs) zero t e = e
same_set (x ∷ xs) (suc k) t e = same_set xs k t e

same_controlled : (s : Slot) (v : ℕ) → Same s (controlled s true v)
same_controlled s v =
    pick (Same s) (bit_and v 2 == 2) (record s { inserting = false }) _ refl
    (pick (Same s) (bit_and v 4 == 4) (record s { removing = false }) _ refl refl)

same_data : (s : Slot) (c v : ℕ) → Same s (with_data s c v)
same_data s c v =
    pick (Same s) (c == 1) (record s { ost_event = v }) _ refl
    (pick (Same s) (c == 2) (record s { ost_status = v }) s refl refl)

abbrev Enables : Block → Block → Type 0
Enables b d = Same (slot_at b b.selector) (slot_at d b.selector)

same_control : (b : Block) (v : ℕ) → b.selector ≡ 0 → Enables b (write_control b v)
same_control b v e =
    same_set b.slots b.selector (controlled (slot_at b b.selector) (b.selector == 0) v)
    (subst (λ f. Same (slot_at b b.selector) (controlled (slot_at b b.selector) f v)) (sym (is_zero b.selector e)) (same_controlled (slot_at b b.selector) v))
  where
    is_zero : (k : ℕ) → k ≡ 0 → (k == 0) ≡ true
    is_zero k e = rw e refl

-- what was enabled at the old selector stays so where that is 0
same_write : (b : Block) (offset width value : ℕ) → b.selector ≡ 0 → Enables b (block_write b offset width value)
same_write b offset width value e =
    let v = cut width value in
    pick (Enables b) b.modern (modern_write b offset v) _
    (pick (Enables b) (offset == 0) (record b { selector = v }) _ refl
    (pick (Enables b) (not (is_selected b)) b _ refl
    (pick (Enables b) (offset == 4) (write_control b (v % 256)) _ (same_control b (v % 256) e)
    (pick (Enables b) (offset == 5) (write_command b (v % 256)) _ refl
    (pick (Enables b) (offset == 8) (write_data b v) b (same_set b.slots b.selector (with_data (slot_at b b.selector) b.command v) (same_data (slot_at b b.selector) b.command v)) refl)))))
    (pick (Enables b) (b.can_switch && ((offset == 0) && (v == 0))) (record b { modern = true }) b refl refl)

-- and, whatever is selected, where the control register isn't written
same_other : (b : Block) (offset width value : ℕ) → (offset == 4) ≡ false → Enables b (block_write b offset width value)
same_other b offset width value e =
    let v = cut width value in
    pick (Enables b) b.modern (modern_write b offset v) _
    (pick (Enables b) (offset == 0) (record b { selector = v }) _ refl
    (pick (Enables b) (not (is_selected b)) b _ refl
    (pick_by (Enables b) (offset == 4) (write_control b (v % 256)) _ (λ f. absurd cc)
    (λ f. pick (Enables b) (offset == 5) (write_command b (v % 256)) _ refl
    (pick (Enables b) (offset == 8) (write_data b v) b (same_set b.slots b.selector (with_data (slot_at b b.selector) b.command v) (same_data (slot_at b b.selector) b.command v)) refl)))))
    (pick (Enables b) (b.can_switch && ((offset == 0) && (v == 0))) (record b { modern = true }) b refl refl)

not_both : (e f : Bool) (k i : ℕ) → f ≡ e → cond (e && not f) (Some k) None ≡ Some i → ⊥
not_both true true k i h g = cc
not_both true false k i h g = cc
not_both false f k i h g = cc

place_if : (b : Bool) (k i : ℕ) → cond b (Some k) None ≡ Some i → i ≡ k
place_if true k i g = sym (same_Some k i g)
place_if false k i g = absurd cc

pub ejects_others : (b : Block) (offset width value i : ℕ) → ejected_by b (block_write b offset width value) ≡ Some i → i ≢ 0
ejects_others b offset width value i g e =
    let here = place_if ((slot_at b b.selector).enabled && not (slot_at (block_write b offset width value) b.selector).enabled) b.selector i g in
    not_both (slot_at b b.selector).enabled (slot_at (block_write b offset width value) b.selector).enabled b.selector i
    (same_write b offset width value (sym here ∙ e)) g

-- only a write of the control register ejects
pub ejects_none : (b : Block) (offset width value : ℕ) → (offset == 4) ≡ false → ejected_by b (block_write b offset width value) ≡ None
ejects_none b offset width value e =
    none_of (slot_at b b.selector).enabled (slot_at (block_write b offset width value) b.selector).enabled b.selector (same_other b offset width value e)
  where
    none_of : (e f : Bool) (k : ℕ) → f ≡ e → cond (e && not f) (Some k) None ≡ None
    none_of true true k h = refl
    none_of true false k h = absurd cc
    none_of false f k h = refl
