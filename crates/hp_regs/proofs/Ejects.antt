-- What a write does to processors.
use Rattle.std.proofs.Common.{◌≡◌, ◌≢◌, ℕ, Bool, true, false, cond, ◌%◌, ◌<◌, ◌==◌, ◌&&◌, not, List, length, Some, None, inl, inr, refl, sym, ap, ◌∙◌, slice_index_or, arith, get_or-set_other, get_or-set_same, length-set}
use Rattle.std.proofs.lemmas.Bool.Decides.{nat_tests}
use Rattle.std.proofs.lemmas.Option.{same_Some}
use Rattle.std.proofs.lemmas.Bool.{cases_eq, true≢false}
use Rattle.hp_model.specs.Block.{Block, Slot, no_slot, slot_at, set_slot, is_selected, cut, controlled, with_data, write_control, write_data, modern_write, block_write, ejected_by, with_insert, with_removal}
use Rattle.hp_regs.specs.Words.{lowest_bit}

-- what a write makes of a block: the slots stay, or the selected one takes a control byte, or command data
data Write (b n : Block) : Type 0 where
  keeps : n.slots ≡ b.slots → Write b n
  controls : (value : ℕ) → b.selector < length b.slots → n ≡ write_control b value → Write b n
  fills : (value : ℕ) → b.selector < length b.slots → n ≡ write_data b value → Write b n

by_test : (b x y : Block) (test : Bool) → (test ≡ true → Write b x) → (test ≡ false → Write b y) → Write b (cond test x y)
by_test b x y true on_true on_false = on_true refl
by_test b x y false on_true on_false = on_false refl

selected : (b : Block) → not (is_selected b) ≡ false → b.selector < length b.slots
selected b h = grind (arith, nat_tests)

Write-modern : (b : Block) (offset value : ℕ) → Write b (modern_write b offset value)
Write-modern b offset value =
    by_test b _ _ (offset == 0) (λ _. keeps refl)
    (λ _. by_test b _ _ (not (is_selected b)) (λ _. keeps refl)
    (λ h. by_test b _ _ (offset == 4) (λ _. controls (value % 256) (selected b h) refl)
    (λ _. by_test b _ _ (offset == 5) (λ _. keeps refl)
    (λ _. by_test b _ _ (offset == 8) (λ _. fills value (selected b h) refl)
    (λ _. keeps refl)))))

Write-any : (b : Block) (offset width value : ℕ) → Write b (block_write b offset width value)
Write-any b offset width value =
    by_test b _ _ b.modern (λ _. Write-modern b offset (cut width value))
    (λ _. by_test b (record b { modern = true }) b (b.can_switch && ((offset == 0) && (cut width value == 0)))
    (λ _. keeps refl) (λ _. keeps refl))

-- the changed slot, and the others
at_place : (b : Block) (k : ℕ) (s : Slot) → k < length b.slots → slot_at (set_slot b k s) k ≡ s
at_place b k s h = get_or-set_same b.slots k s no_slot h

elsewhere : (b : Block) (k : ℕ) (s : Slot) (j : ℕ) → j ≢ k → slot_at (set_slot b k s) j ≡ slot_at b j
elsewhere b k s j h = get_or-set_other b.slots k j s no_slot h

same_slots : (b n : Block) (k : ℕ) → n.slots ≡ b.slots → slot_at n k ≡ slot_at b k
same_slots b n k e = ap (λ (ss : List Slot). slice_index_or ss k no_slot) e

control_there : (b n : Block) (value : ℕ) → b.selector < length b.slots → n ≡ write_control b value →
    slot_at n b.selector ≡ controlled (slot_at b b.selector) (b.selector == 0) value
control_there b n value h e = ap (λ (m : Block). slot_at m b.selector) e ∙ at_place b b.selector _ h

data_there : (b n : Block) (value : ℕ) → b.selector < length b.slots → n ≡ write_data b value →
    slot_at n b.selector ≡ with_data (slot_at b b.selector) b.command value
data_there b n value h e = ap (λ (m : Block). slot_at m b.selector) e ∙ at_place b b.selector _ h

-- one slot
controlled-first : (s : Slot) (value : ℕ) → (controlled s true value).enabled ≡ s.enabled
controlled-first s value = grind (arith, nat_tests)

controlled-ejected : (s : Slot) (is_first : Bool) (value : ℕ) → s.enabled ≡ true → (controlled s is_first value).enabled ≡ false →
    controlled s is_first value ≡ record s { enabled = false; ejecting = false }
controlled-ejected s is_first value e n = grind (arith, nat_tests)

controlled-absent : (s : Slot) (is_first : Bool) (value : ℕ) → s.enabled ≡ false → (controlled s is_first value).enabled ≡ false
controlled-absent s is_first value e = grind (arith, nat_tests)

with_data-enabled : (s : Slot) (command value : ℕ) → (with_data s command value).enabled ≡ s.enabled
with_data-enabled s command value = grind (arith, nat_tests)

-- what an eject is
record IsEject (b n : Block) (s : ℕ) : Type 0 where
  place : s ≡ b.selector
  before : (slot_at b b.selector).enabled ≡ true
  after : (slot_at n b.selector).enabled ≡ false

ejects-bits : (x y : Bool) (k s : ℕ) → cond (x && not y) (Some k) None ≡ Some s → (s ≡ k) × ((x ≡ true) × (y ≡ false))
ejects-bits true true k s e = grind arith
ejects-bits true false k s e = (sym (same_Some k s e), (refl, refl))
ejects-bits false y k s e = grind arith

ejects : (b n : Block) (s : ℕ) → ejected_by b n ≡ Some s → IsEject b n s
ejects b n s e = by_parts (ejects-bits (slot_at b b.selector).enabled (slot_at n b.selector).enabled b.selector s e)
  where
    by_parts : (s ≡ b.selector) × (((slot_at b b.selector).enabled ≡ true) × ((slot_at n b.selector).enabled ≡ false)) → IsEject b n s
    by_parts p = record { place = p.0; before = p.1.0; after = p.1.1 }

no_eject : (b n : Block) (s : ℕ) → IsEject b n s → (slot_at n b.selector).enabled ≡ (slot_at b b.selector).enabled → ⊥
no_eject b n s is same = true≢false (sym is.before ∙ sym same ∙ is.after)

first_of : (b n : Block) → Write b n → IsEject b n 0 → ⊥
first_of b n (keeps e) is = no_eject b n 0 is (ap (λ (s : Slot). s.enabled) (same_slots b n b.selector e))
first_of b n (controls v h e) is =
    let zeroth : (b.selector == 0) ≡ true = grind (arith, nat_tests, is.place) in
    let there : slot_at n b.selector ≡ controlled (slot_at b b.selector) true v =
    control_there b n v h e ∙ ap (λ (t : Bool). controlled (slot_at b b.selector) t v) zeroth in
    no_eject b n 0 is (ap (λ (s : Slot). s.enabled) there ∙ controlled-first (slot_at b b.selector) v)
first_of b n (fills v h e) is =
    no_eject b n 0 is (ap (λ (s : Slot). s.enabled) (data_there b n v h e) ∙ with_data-enabled (slot_at b b.selector) b.command v)

pub first_stays : (b : Block) (offset width value : ℕ) → ejected_by b (block_write b offset width value) ≢ Some 0
first_stays b offset width value e =
    first_of b (block_write b offset width value) (Write-any b offset width value) (ejects b (block_write b offset width value) 0 e)

other_of : (b n : Block) (k : ℕ) → k ≢ b.selector → Write b n → slot_at n k ≡ slot_at b k
other_of b n k other (keeps e) = same_slots b n k e
other_of b n k other (controls v h e) = ap (λ (m : Block). slot_at m k) e ∙ elsewhere b b.selector _ k other
other_of b n k other (fills v h e) = ap (λ (m : Block). slot_at m k) e ∙ elsewhere b b.selector _ k other

pub other_stays : (b : Block) (offset width value k : ℕ) → k ≢ b.selector → slot_at (block_write b offset width value) k ≡ slot_at b k
other_stays b offset width value k other = other_of b (block_write b offset width value) k other (Write-any b offset width value)

eject_of : (b n : Block) (s : ℕ) → Write b n → IsEject b n s → n ≡ set_slot b s (record (slot_at b s) { enabled = false; ejecting = false })
eject_of b n s (keeps e) is = absurd (no_eject b n s is (ap (λ (s : Slot). s.enabled) (same_slots b n b.selector e)))
eject_of b n s (controls v h e) is =
    let gone : (controlled (slot_at b b.selector) (b.selector == 0) v).enabled ≡ false =
    sym (ap (λ (s : Slot). s.enabled) (control_there b n v h e)) ∙ is.after in
    let ejected : controlled (slot_at b b.selector) (b.selector == 0) v ≡ record (slot_at b b.selector) { enabled = false; ejecting = false } =
    controlled-ejected (slot_at b b.selector) (b.selector == 0) v is.before gone in
    rw is.place (e ∙ ap (λ (s : Slot). set_slot b b.selector s) ejected)
eject_of b n s (fills v h e) is =
    absurd (no_eject b n s is (ap (λ (s : Slot). s.enabled) (data_there b n v h e) ∙ with_data-enabled (slot_at b b.selector) b.command v))

pub eject_stays : (b : Block) (offset width value s : ℕ) → ejected_by b (block_write b offset width value) ≡ Some s →
    block_write b offset width value ≡ set_slot b s (record (slot_at b s) { enabled = false; ejecting = false })
eject_stays b offset width value s e =
    eject_of b (block_write b offset width value) s (Write-any b offset width value) (ejects b (block_write b offset width value) s e)

told_bits : (x y : Bool) (k : ℕ) → (x ≡ false → y ≡ false) → y ≢ x → cond (x && not y) (Some k) None ≡ Some k
told_bits true true k absent d = absurd (d refl)
told_bits true false k absent d = refl
told_bits false true k absent d = absurd (true≢false (absent refl))
told_bits false false k absent d = absurd (d refl)

told_there : (b n : Block) → Write b n → (slot_at n b.selector).enabled ≢ (slot_at b b.selector).enabled → ejected_by b n ≡ Some b.selector
told_there b n (keeps e) d = absurd (d (ap (λ (s : Slot). s.enabled) (same_slots b n b.selector e)))
told_there b n (controls v h e) d =
    told_bits _ _ _ (λ absent. ap (λ (s : Slot). s.enabled) (control_there b n v h e) ∙
    controlled-absent (slot_at b b.selector) (b.selector == 0) v absent) d
told_there b n (fills v h e) d =
    absurd (d (ap (λ (s : Slot). s.enabled) (data_there b n v h e) ∙ with_data-enabled (slot_at b b.selector) b.command v))

pub eject_told : (b : Block) (offset width value k : ℕ) → (slot_at (block_write b offset width value) k).enabled ≢ (slot_at b k).enabled →
    ejected_by b (block_write b offset width value) ≡ Some k
eject_told b offset width value k d = elim (cases_eq k b.selector) [
  | inl e ↦ told_at k e d
  | inr other ↦ absurd (d (ap (λ (s : Slot). s.enabled) (other_stays b offset width value k other)))
]
  where
    told_at : (k : ℕ) → k ≡ b.selector → (slot_at (block_write b offset width value) k).enabled ≢ (slot_at b k).enabled →
        ejected_by b (block_write b offset width value) ≡ Some k
    told_at k e = rw e (told_there b (block_write b offset width value) (Write-any b offset width value))

pub lowest_acts : (s : Slot) (is_first : Bool) (value : ℕ) → controlled s is_first value ≡ controlled s is_first (lowest_bit value)
lowest_acts s is_first value = grind (arith, nat_tests)

-- no call changes how many slots there are
count_of : (b n : Block) → Write b n → length n.slots ≡ length b.slots
count_of b n (keeps e) = ap length e
count_of b n (controls v h e) = ap (λ (m : Block). length m.slots) e ∙ length-set b.slots b.selector _
count_of b n (fills v h e) = ap (λ (m : Block). length m.slots) e ∙ length-set b.slots b.selector _

pub stays_count : (b : Block) (offset width value : ℕ) → length (block_write b offset width value).slots ≡ length b.slots
stays_count b offset width value = count_of b (block_write b offset width value) (Write-any b offset width value)

pub inserted_count : (b : Block) (k : ℕ) → length (with_insert b k).slots ≡ length b.slots
inserted_count b k = length-set b.slots k _

pub requested_count : (b : Block) (k : ℕ) → length (with_removal b k).slots ≡ length b.slots
requested_count b k = length-set b.slots k _
