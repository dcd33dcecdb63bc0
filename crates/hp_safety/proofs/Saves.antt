-- What SMI entry stores and leaves.
use Rattle.std.proofs.Common.{ℕ, zero, suc, ◌≡◌, ◌+◌, ◌*◌, ◌%◌, ◌<◌, ◌≤◌, ◌⊎◌, inl, inr, true, false, ◌&&◌, nat_lt, nat_le, List, ◌∷◌, refl, ap, ◌∙◌, arith}
use Rattle.std.proofs.lemmas.Bool.Decides.{nat_tests}
use Rattle.hp_model.specs.declared.processors.Cpu.{Cpu}
use Rattle.hp_model.specs.Memory.{Write, byte_at, value_from, write_of}
use Rattle.hp_model.specs.View.{Locks, is_hole, stored}
use Rattle.hp_model.specs.SaveArea.{smbase_field, saved, rip_of}
use Rattle.hp_sealed.specs.Left.{IsLeft}
use Rattle.hp_sealed.proofs.Left.{left_then, left_store}
use Rattle.hp_sealed.proofs.Values.{value_left, value_written}

-- the bytes below RAM's end are in reach of whoever is in SMM
pub in_reach : (n a : ℕ) (l : Locks) → a + n ≤ l.low_memory → is_hole l true a n ≡ false
unfolding is_hole
in_reach zero a l h = refl
in_reach (suc n) a l h =
    let here : nat_le l.low_memory a ≡ false = grind (arith, nat_tests) in
    rw here (in_reach n (a + 1) l (omega (arith, h)))

-- the three stores of SMI entry, at an SMBASE that is a multiple of 64 KiB
off_area : (m off n x : ℕ) → 0xfefc ≤ off → off + n ≤ 0x10000 → x % 0x10000 < 0xfefc → (nat_le (0x10000 * m + off) x && nat_lt x (0x10000 * m + off + n)) ≡ false
off_area m off n x low high h = grind (arith, nat_tests)

off_other : (m k off n x : ℕ) → off + n ≤ 0x10000 → (m ≡ k → ⊥) → 0x10000 * k ≤ x → x < 0x10000 * k + 0x10000 → (nat_le (0x10000 * m + off) x && nat_lt x (0x10000 * m + off + n)) ≡ false
off_other m k off n x high other low up = grind (arith, nat_tests)

off_field : (a off n i : ℕ) → (0xff04 ≤ off) ⊎ (off + n ≤ 0xff00) → i < 4 → (nat_le (a + off) (a + 0xff00 + i) && nat_lt (a + 0xff00 + i) (a + off + n)) ≡ false
off_field a off n i apart b = grind (arith, nat_tests)

-- they leave what lies below the fields in each tile
pub left_saved : (l : Locks) (c : Cpu) (ws : List Write) (x m : ℕ) → c.smbase ≡ 0x10000 * m → x % 0x10000 < 0xfefc → IsLeft x ws (saved l c ws)
unfolding saved
left_saved l c ws x m e h = rw e
    (left_then x ws _ _ (left_store l true (0x10000 * m + 0xff00) 4 (0x10000 * m) ws x (λ _. off_area m 0xff00 4 x (omega arith) (omega arith) h))
    (left_then x _ _ _ (left_store l true (0x10000 * m + 0xfefc) 4 0x20064 _ x (λ _. off_area m 0xfefc 4 x (omega arith) (omega arith) h))
    (left_store l true (0x10000 * m + 0xff78) 8 (rip_of c) _ x (λ _. off_area m 0xff78 8 x (omega arith) (omega arith) h))))

-- and all of another tile
pub left_other : (l : Locks) (c : Cpu) (ws : List Write) (x m k : ℕ) → c.smbase ≡ 0x10000 * m → (m ≡ k → ⊥) → 0x10000 * k ≤ x → x < 0x10000 * k + 0x10000 → IsLeft x ws (saved l c ws)
unfolding saved
left_other l c ws x m k e other low up = rw e
    (left_then x ws _ _ (left_store l true (0x10000 * m + 0xff00) 4 (0x10000 * m) ws x (λ _. off_other m k 0xff00 4 x (omega arith) other low up))
    (left_then x _ _ _ (left_store l true (0x10000 * m + 0xfefc) 4 0x20064 _ x (λ _. off_other m k 0xfefc 4 x (omega arith) other low up))
    (left_store l true (0x10000 * m + 0xff78) 8 (rip_of c) _ x (λ _. off_other m k 0xff78 8 x (omega arith) other low up))))

-- the field of SMBASE after an entry holds it
pub saved_field : (l : Locks) (c : Cpu) (ws : List Write) → c.smbase + 0x10000 ≤ l.low_memory → c.smbase < 0x100000000 → value_from (byte_at (saved l c ws)) (c.smbase + smbase_field) 4 ≡ c.smbase
unfolding saved
saved_field l c ws room small =
    let reach : is_hole l true (c.smbase + 0xff00) 4 ≡ false = in_reach 4 (c.smbase + 0xff00) l (omega (arith, room)) in
    let first : List Write = stored l true (c.smbase + 0xff00) 4 c.smbase ws in
    let second : List Write = stored l true (c.smbase + 0xfefc) 4 0x20064 first in
    let first_is : first ≡ write_of (c.smbase + 0xff00) 4 c.smbase ∷ ws = rw reach refl in
    value_left 4 (c.smbase + 0xff00) first (saved l c ws)
    (λ i b. left_then (c.smbase + 0xff00 + i) first second _
    (left_store l true (c.smbase + 0xfefc) 4 0x20064 first (c.smbase + 0xff00 + i) (λ _. off_field c.smbase 0xfefc 4 i (inr (omega arith)) b))
    (left_store l true (c.smbase + 0xff78) 8 (rip_of c) second (c.smbase + 0xff00 + i) (λ _. off_field c.smbase 0xff78 8 i (inl (omega arith)) b)))
    ∙ (ap (λ vs. value_from (byte_at vs) (c.smbase + 0xff00) 4) first_is ∙ value_written (c.smbase + 0xff00) c.smbase ws small)
