-- Bytes past RAM, and the two halves of a descriptor.
use Rattle.std.proofs.Common.{◌≡◌, ℕ, zero, suc, ◌+◌, ◌≤◌, Bool, true, false, ◌||◌, ◌<◌, nat_le, List, [], ◌∷◌, ◌++◌, take, length, refl, sym, ◌∙◌, ap, arith}
use Rattle.std.proofs.lemmas.Bool.Decides.{nat_tests}
use Rattle.std.proofs.lemmas.List.{take_more_set}
use Rattle.std.specs.Prelude.{slice_set}
use Rattle.hp_model.specs.Memory.{Write, byte_at}
use Rattle.hp_model.specs.View.{Locks, is_hidden, is_hole, loaded, stored}
use Rattle.hp_model.specs.Transfers.{bytes_loaded}

-- a byte past RAM is a hole
past_hole : (l : Locks) (addr : ℕ) → l.low_memory ≤ addr → is_hole l false addr 1 ≡ true
unfolding is_hole
past_hole l addr past = let e : nat_le l.low_memory addr ≡ true = grind (arith, nat_tests) in rw e refl

pub past_loaded : (l : Locks) (ws : List Write) (addr : ℕ) → l.low_memory ≤ addr → loaded l false (byte_at ws) addr 1 ≡ 255
past_loaded l ws addr past = rw (past_hole l addr past) refl

pub past_stored : (l : Locks) (ws : List Write) (addr byte : ℕ) → l.low_memory ≤ addr → stored l false addr 1 byte ws ≡ ws
past_stored l ws addr byte past = rw (past_hole l addr past) refl

pub ruleset past_memory = (past_loaded, past_stored)

-- an access of two parts
or_assoc : (a b c : Bool) → (a || (b || c)) ≡ ((a || b) || c)
or_assoc true b c = refl
or_assoc false b c = refl

hole_parts : (l : Locks) (n m addr : ℕ) → is_hole l false addr (n + m) ≡ (is_hole l false addr n || is_hole l false (addr + n) m)
unfolding is_hole
hole_parts l zero m addr = let e : 0 + m ≡ m = omega arith in let f : addr + 0 ≡ addr = omega arith in rw (e, f) refl
hole_parts l (suc n) m addr =
    let e : suc n + m ≡ suc (n + m) = omega arith in
    let f : addr + suc n ≡ addr + 1 + n = omega arith in
    rw (e, f) (ap (λ (b : Bool). is_hidden l false addr || b) (hole_parts l n m (addr + 1)) ∙ or_assoc (is_hidden l false addr) (is_hole l false (addr + 1) n) (is_hole l false (addr + 1 + n) m))

halves : (l : Locks) (at : ℕ) → is_hole l false at 16 ≡ (is_hole l false at 8 || is_hole l false (at + 8) 8)
halves l at = hole_parts l 8 8 at

pub descriptor_open : (l : Locks) (at : ℕ) → is_hole l false at 8 ≡ false → is_hole l false (at + 8) 8 ≡ false → is_hole l false at 16 ≡ false
descriptor_open l at first second = rw (halves l at, first, second) refl

pub descriptor_first : (l : Locks) (at : ℕ) → is_hole l false at 8 ≡ true → is_hole l false at 16 ≡ true
descriptor_first l at first = rw (halves l at, first) refl

pub descriptor_second : (l : Locks) (at : ℕ) → is_hole l false (at + 8) 8 ≡ true → is_hole l false at 16 ≡ true
descriptor_second l at second = rw (halves l at, second) (or_true (is_hole l false at 8))
  where
    or_true : (b : Bool) → (b || true) ≡ true
    or_true true = refl
    or_true false = refl

pub descriptor_past : (l : Locks) (at : ℕ) → l.low_memory ≤ at → is_hole l false at 16 ≡ true
descriptor_past l at past = rw (hole_parts l 1 15 at, past_hole l at past) refl

pub ruleset descriptor_holes = (descriptor_open, descriptor_first, descriptor_second, descriptor_past)

-- one byte more
bytes_more : (l : Locks) (bytes : ℕ → ℕ) (addr n : ℕ) → bytes_loaded l bytes addr (n + 1) ≡ bytes_loaded l bytes addr n ++ loaded l false bytes (addr + n) 1 ∷ []
unfolding bytes_loaded
bytes_more l bytes addr zero = let e : 0 + 1 ≡ 1 = refl in let f : addr + 0 ≡ addr = omega arith in rw (e, f) refl
bytes_more l bytes addr (suc n) =
    let e : suc n + 1 ≡ suc (n + 1) = omega arith in
    let f : addr + suc n ≡ addr + 1 + n = omega arith in
    rw (e, f) (ap (λ (bs : List ℕ). loaded l false bytes addr 1 ∷ bs) (bytes_more l bytes (addr + 1) n))

pub bytes_none : (l : Locks) (bytes : ℕ → ℕ) (addr : ℕ) → bytes_loaded l bytes addr 0 ≡ []
unfolding bytes_loaded
bytes_none l bytes addr = refl

-- the next byte is loaded into its place
pub bytes_next : (l : Locks) (bytes : ℕ → ℕ) (addr n byte : ℕ) (xs : List ℕ) → n < length xs → take n xs ≡ bytes_loaded l bytes addr n →
    byte ≡ loaded l false bytes (addr + n) 1 → take (n + 1) (slice_set xs n byte) ≡ bytes_loaded l bytes addr (n + 1)
bytes_next l bytes addr n byte xs within done next =
    take_more_set xs n byte within ∙ ap (λ (bs : List ℕ). bs ++ byte ∷ []) done ∙ ap (λ (b : ℕ). bytes_loaded l bytes addr n ++ b ∷ []) next ∙ sym (bytes_more l bytes addr n)
