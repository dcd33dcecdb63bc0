-- Memory that is alike outside locked ranges: what is loaded and stored from outside SMM, and stores that nobody there sees.
use Rattle.std.proofs.Common.{ℕ, zero, suc, ◌≡◌, ◌+◌, ◌*◌, ◌-◌, ◌==◌, Bool, true, false, cond, ◌&&◌, ◌||◌, nat_lt, nat_le, List, ◌∷◌, refl, sym, ap, subst, ◌∙◌}
use Rattle.std.specs.Prelude.{slice_index_or}
use Rattle.std.proofs.lemmas.Bool.{or_parts}
use Rattle.hp_model.specs.Memory.{Write, covers, byte_at, value_from, write_of}
use Rattle.hp_model.specs.View.{Locks, is_locked, is_hidden, is_hole, ones, loaded, stored, swapped}
use Rattle.hp_model.proofs.Bytes.{length-bytes_of}
use Rattle.hp_secrecy.specs.Shielded.{AreLocked}

-- each byte that isn't locked is the same in both
abbrev pub AlikeBytes : Locks → List Write → List Write → Type 0
AlikeBytes l ws vs = (x : ℕ) → is_locked l x ≡ false → byte_at ws x ≡ byte_at vs x

pub bytes_same : (l : Locks) (ws : List Write) → AlikeBytes l ws ws
bytes_same l ws x free = refl

pub bytes_then : (l : Locks) (ws vs us : List Write) → AlikeBytes l ws vs → AlikeBytes l vs us → AlikeBytes l ws us
bytes_then l ws vs us h g x free = h x free ∙ g x free

pub bytes_back : (l : Locks) (ws vs : List Write) → AlikeBytes l ws vs → AlikeBytes l vs ws
bytes_back l ws vs h x free = sym (h x free)

-- the same write over both
write_both : (l : Locks) (w : Write) (ws vs : List Write) → AlikeBytes l ws vs → AlikeBytes l (w ∷ ws) (w ∷ vs)
write_both l w ws vs h x free = ap (λ (under : ℕ). cond (covers w x) (slice_index_or w.bytes (x - w.first) 0) under) (h x free)

pub store_both : (l : Locks) (in_smm : Bool) (a n v : ℕ) (ws vs : List Write) → AlikeBytes l ws vs → AlikeBytes l (stored l in_smm a n v ws) (stored l in_smm a n v vs)
store_both l in_smm a n v ws vs h = by_hole (is_hole l in_smm a n)
  where
    by_hole : (hole : Bool) → AlikeBytes l (cond hole ws (write_of a n v ∷ ws)) (cond hole vs (write_of a n v ∷ vs))
    by_hole true = h
    by_hole false = write_both l (write_of a n v) ws vs h

-- a store of locked bytes alone
pub store_unseen : (l : Locks) (in_smm : Bool) (a n v : ℕ) (ws : List Write) → AreLocked l a n → AlikeBytes l (stored l in_smm a n v ws) ws
store_unseen l in_smm a n v ws locked = by_hole (is_hole l in_smm a n)
  where
    missed : (x : ℕ) (inside : Bool) → (nat_le a x && nat_lt x (a + n)) ≡ inside → is_locked l x ≡ false → inside ≡ false
    missed x true is free = let both : true ≡ false = sym (locked x is) ∙ free in absurd cc
    missed x false is free = refl

    by_hole : (hole : Bool) → AlikeBytes l (cond hole ws (write_of a n v ∷ ws)) ws
    by_hole true x free = refl
    by_hole false x free =
        let same : covers (write_of a n v) x ≡ false = rw (length-bytes_of n v) (missed x (nat_le a x && nat_lt x (a + n)) refl free) in
        rw same refl

-- what is loaded from outside SMM
free_here : (l : Locks) (x : ℕ) → is_hidden l false x ≡ false → is_locked l x ≡ false
free_here l x e = (or_parts (nat_le l.low_memory x) (is_locked l x) e).1

pub value_both : (l : Locks) (n a : ℕ) (ws vs : List Write) → AlikeBytes l ws vs → is_hole l false a n ≡ false → value_from (byte_at ws) a n ≡ value_from (byte_at vs) a n
unfolding value_from is_hole
value_both l zero a ws vs h e = refl
value_both l (suc n) a ws vs h e =
    let parts = or_parts (is_hidden l false a) (is_hole l false (a + 1) n) e in
    ap (λ (b : ℕ). b + 256 * value_from (byte_at ws) (a + 1) n) (h a (free_here l a parts.0))
    ∙ ap (λ (v : ℕ). byte_at vs a + 256 * v) (value_both l n (a + 1) ws vs h parts.1)

pub load_both : (l : Locks) (a n : ℕ) (ws vs : List Write) → AlikeBytes l ws vs → loaded l false (byte_at ws) a n ≡ loaded l false (byte_at vs) a n
load_both l a n ws vs h = by_hole (is_hole l false a n) refl
  where
    by_hole : (hole : Bool) → is_hole l false a n ≡ hole → cond hole (ones n) (value_from (byte_at ws) a n) ≡ cond hole (ones n) (value_from (byte_at vs) a n)
    by_hole true is = refl
    by_hole false is = value_both l n a ws vs h is

-- compare and exchange from outside SMM
pub swap_both : (l : Locks) (a old new : ℕ) (ws vs : List Write) → AlikeBytes l ws vs → AlikeBytes l (swapped l false a old new ws) (swapped l false a old new vs)
swap_both l a old new ws vs h =
    subst (λ v. AlikeBytes l (swapped l false a old new ws) (cond (v == old) (stored l false a 8 new vs) vs)) (load_both l a 8 ws vs h)
    (by_test (loaded l false (byte_at ws) a 8 == old))
  where
    by_test : (t : Bool) → AlikeBytes l (cond t (stored l false a 8 new ws) ws) (cond t (stored l false a 8 new vs) vs)
    by_test true = store_both l false a 8 new ws vs h
    by_test false = h

-- and one of locked bytes alone, whoever makes it
pub swap_unseen : (l : Locks) (in_smm : Bool) (a old new : ℕ) (ws : List Write) → AreLocked l a 8 → AlikeBytes l (swapped l in_smm a old new ws) ws
swap_unseen l in_smm a old new ws locked = by_test (loaded l in_smm (byte_at ws) a 8 == old)
  where
    by_test : (t : Bool) → AlikeBytes l (cond t (stored l in_smm a 8 new ws) ws) ws
    by_test true = store_unseen l in_smm a 8 new ws locked
    by_test false = bytes_same l ws
