-- Which writes leave a byte alone: none from outside SMM covers one that is locked.
use Rattle.std.proofs.Common.{ℕ, zero, suc, ◌≡◌, ◌+◌, ◌==◌, Bool, true, false, cond, ◌&&◌, ◌||◌, nat_lt, nat_le, List, [], ◌∷◌, refl, sym, subst, ◌∙◌, arith}
use Rattle.std.proofs.lemmas.Bool.Decides.{nat_tests}
use Rattle.std.proofs.lemmas.Bool.{or_parts}
use Rattle.hp_model.specs.Memory.{Write, covers, byte_at, write_of}
use Rattle.hp_model.specs.View.{Locks, is_locked, is_hidden, is_hole, loaded, stored, swapped}
use Rattle.hp_model.specs.FwCfg.{FwCfg}
use Rattle.hp_model.specs.Transfers.{Asked, Move, nothing, to_memory, from_memory, failed, Transferred, descriptor_at, ask, bytes_stored, moved, control_after, carried_out, transfer}
use Rattle.hp_model.proofs.Bytes.{length-bytes_of}
use Rattle.hp_sealed.specs.Left.{IsLeft}

pub left_same : (x : ℕ) (ws : List Write) → IsLeft x ws ws
left_same x ws = record { byte = refl; touched = refl }

pub left_then : (x : ℕ) (a b c : List Write) → IsLeft x a b → IsLeft x b c → IsLeft x a c
left_then x a b c h g = record { byte = g.byte ∙ h.byte; touched = g.touched ∙ h.touched }

pub left_more : (x : ℕ) (w : Write) (ws : List Write) → covers w x ≡ false → IsLeft x ws (w ∷ ws)
left_more x w ws e = record { byte = rw e refl; touched = rw e refl }

-- a property of both sides of a choice
pub pick : {X : Type 0} (P : X → Type 0) (b : Bool) (y n : X) → P y → P n → P (cond b y n)
pick P true y n h g = h
pick P false y n h g = g

pub pick_by : {X : Type 0} (P : X → Type 0) (b : Bool) (y n : X) → (b ≡ true → P y) → (b ≡ false → P n) → P (cond b y n)
pick_by P true y n h g = h refl
pick_by P false y n h g = g refl

-- a store that misses the byte wherever it is let through
left_if : (x : ℕ) (b : Bool) (w : Write) (ws : List Write) → (b ≡ false → covers w x ≡ false) → IsLeft x ws (cond b ws (w ∷ ws))
left_if x true w ws h = left_same x ws
left_if x false w ws h = left_more x w ws (h refl)

pub left_store : (l : Locks) (b : Bool) (a n v : ℕ) (ws : List Write) (x : ℕ) → (is_hole l b a n ≡ false → (nat_le a x && nat_lt x (a + n)) ≡ false) → IsLeft x ws (stored l b a n v ws)
left_store l b a n v ws x h = left_if x (is_hole l b a n) (write_of a n v) ws (λ e. rw (length-bytes_of n v) (h e))

-- no access from outside SMM that isn't a hole has a locked byte
hidden_outside : (l : Locks) (x : ℕ) → is_locked l x ≡ true → is_hidden l false x ≡ true
hidden_outside l x k = rw k (either (nat_le l.low_memory x))
  where
    either : (b : Bool) → (b || true) ≡ true
    either true = refl
    either false = refl

not_first : (a x n : ℕ) → (x ≡ a → ⊥) → (nat_le (a + 1) x && nat_lt x (a + 1 + n)) ≡ false → (nat_le a x && nat_lt x (a + suc n)) ≡ false
not_first a x n other rest = grind (arith, nat_tests)

pub outside_misses : (l : Locks) (a n x : ℕ) → is_locked l x ≡ true → is_hole l false a n ≡ false → (nat_le a x && nat_lt x (a + n)) ≡ false
unfolding is_hole
outside_misses l a zero x k e = grind (arith, nat_tests)
outside_misses l a (suc n) x k e =
    let parts = or_parts (is_hidden l false a) (is_hole l false (a + 1) n) e in
    not_first a x n (λ same. let hidden = hidden_outside l x k in let shown : is_hidden l false x ≡ false = subst (λ y. is_hidden l false y ≡ false) (sym same) parts.0 in absurd (let both : true ≡ false = sym hidden ∙ shown in cc))
    (outside_misses l (a + 1) n x k parts.1)

-- a store from outside SMM leaves what is locked
pub left_outside : (l : Locks) (a n v : ℕ) (ws : List Write) (x : ℕ) → is_locked l x ≡ true → IsLeft x ws (stored l false a n v ws)
left_outside l a n v ws x k = left_store l false a n v ws x (outside_misses l a n x k)

pub left_swap : (l : Locks) (a old new : ℕ) (ws : List Write) (x : ℕ) → is_locked l x ≡ true → IsLeft x ws (swapped l false a old new ws)
left_swap l a old new ws x k = pick (IsLeft x ws) (loaded l false (byte_at ws) a 8 == old) _ _ (left_outside l a 8 new ws x k) (left_same x ws)

-- fw_cfg's transfers are accesses from outside SMM
left_bytes : (l : Locks) (a : ℕ) (bs : List ℕ) (ws : List Write) (x : ℕ) → is_locked l x ≡ true → IsLeft x ws (bytes_stored l a bs ws)
unfolding bytes_stored
left_bytes l a [] ws x k = left_same x ws
left_bytes l a (b ∷ bs) ws x k = left_then x ws (stored l false a 1 b ws) (bytes_stored l (a + 1) bs (stored l false a 1 b ws)) (left_outside l a 1 b ws x k) (left_bytes l (a + 1) bs (stored l false a 1 b ws) x k)

left_moved : (l : Locks) (m : Move) (f : FwCfg) (ws : List Write) (x : ℕ) → is_locked l x ≡ true → IsLeft x ws (moved l m f ws).writes
left_moved l nothing f ws x k = left_same x ws
left_moved l (to_memory a bs) f ws x k = left_bytes l a bs ws x k
left_moved l (from_memory a n) f ws x k = left_same x ws
left_moved l failed f ws x k = left_same x ws

left_carried : (l : Locks) (at : ℕ) (a : Asked) (ws : List Write) (x : ℕ) → is_locked l x ≡ true → IsLeft x ws (carried_out l at a ws).writes
left_carried l at a ws x k =
    let t = moved l a.move a.fw_cfg ws in
    left_then x ws t.writes (stored l false at 4 (control_after a.move) t.writes) (left_moved l a.move a.fw_cfg ws x k) (left_outside l at 4 (control_after a.move) t.writes x k)

pub left_transfer : (l : Locks) (at : ℕ) (f : FwCfg) (ws : List Write) (x : ℕ) → is_locked l x ≡ true → IsLeft x ws (transfer l at f ws).writes
unfolding transfer
left_transfer l at f ws x k =
    pick (λ (t : Transferred). IsLeft x ws t.writes) (is_hole l false at 16) _ (carried_out l at (ask (descriptor_at l ws at) f) ws)
    (left_same x ws) (left_carried l at (ask (descriptor_at l ws at) f) ws x k)
