-- Values in memory after writes.
use Rattle.std.proofs.Common.{ℕ, zero, suc, ◌≡◌, ◌+◌, ◌-◌, ◌<◌, ◌≤◌, ◌⊎◌, inl, inr, true, false, ◌&&◌, nat_lt, nat_le, List, [], ◌∷◌, length, get_or, refl, subst, ◌∙◌, arith}
use Rattle.std.proofs.lemmas.Bool.Decides.{nat_tests}
use Rattle.hp_model.specs.Memory.{Write, covers, byte_at, bytes_of, value_from, write_of}
use Rattle.hp_model.specs.FwCfg.{little_value}
use Rattle.hp_model.proofs.Bytes.{length-bytes_of}
use Rattle.hp_sealed.specs.Left.{IsLeft}
use Rattle.hp_sealed.proofs.Left.{left_more}

-- equal bytes, equal values
pub value_same : (n x : ℕ) (ws vs : List Write) → ((i : ℕ) → i < n → byte_at vs (x + i) ≡ byte_at ws (x + i)) → value_from (byte_at vs) x n ≡ value_from (byte_at ws) x n
unfolding value_from
value_same zero x ws vs h = refl
value_same (suc n) x ws vs h =
    let z : x + 0 ≡ x = omega arith in
    let here : byte_at vs x ≡ byte_at ws x = subst (λ y. byte_at vs y ≡ byte_at ws y) z (h 0 (omega arith)) in
    let rest : value_from (byte_at vs) (x + 1) n ≡ value_from (byte_at ws) (x + 1) n = value_same n (x + 1) ws vs (λ i b. let e : x + suc i ≡ x + 1 + i = omega arith in subst (λ y. byte_at vs y ≡ byte_at ws y) e (h (suc i) (omega (arith, b)))) in
    rw (here, rest) refl

-- a value is left where its bytes are
pub value_left : (n x : ℕ) (ws vs : List Write) → ((i : ℕ) → i < n → IsLeft (x + i) ws vs) → value_from (byte_at vs) x n ≡ value_from (byte_at ws) x n
value_left n x ws vs h = value_same n x ws vs (λ i b. (h i b).byte)

byte_written : (a n v : ℕ) (ws : List Write) (i : ℕ) → i < n → byte_at (write_of a n v ∷ ws) (a + i) ≡ get_or (bytes_of n v) i 0
byte_written a n v ws i b =
    let here : covers (write_of a n v) (a + i) ≡ true = let e = length-bytes_of n v in rw e (grind (arith, nat_tests)) in
    let place : a + i - a ≡ i = omega arith in
    rw (here, place) refl

value_is : (n x : ℕ) (ws : List Write) (bs : List ℕ) → length bs ≡ n → ((j : ℕ) → j < n → byte_at ws (x + j) ≡ get_or bs j 0) → value_from (byte_at ws) x n ≡ little_value bs
unfolding value_from little_value
value_is zero x ws [] e h = refl
value_is zero x ws (b ∷ bs) e h = absurd (omega (arith, e))
value_is (suc n) x ws [] e h = absurd (omega (arith, e))
value_is (suc n) x ws (b ∷ bs) e h =
    let z : x + 0 ≡ x = omega arith in
    let here : byte_at ws x ≡ b = subst (λ y. byte_at ws y ≡ b) z (h 0 (omega arith)) in
    let rest : value_from (byte_at ws) (x + 1) n ≡ little_value bs = value_is n (x + 1) ws bs (omega (arith, e)) (λ j less. let p : x + suc j ≡ x + 1 + j = omega arith in subst (λ y. byte_at ws y ≡ get_or bs j 0) p (h (suc j) (omega (arith, less)))) in
    rw (here, rest) refl

little_four : (v : ℕ) → v < 0x100000000 → little_value (bytes_of 4 v) ≡ v
unfolding little_value bytes_of
little_four v h = omega arith

-- the value just written
pub value_written : (a v : ℕ) (ws : List Write) → v < 0x100000000 → value_from (byte_at (write_of a 4 v ∷ ws)) a 4 ≡ v
value_written a v ws h = value_is 4 a (write_of a 4 v ∷ ws) (bytes_of 4 v) (length-bytes_of 4 v) (byte_written a 4 v ws) ∙ little_four v h

little_eight : (v : ℕ) → v < 0x10000000000000000 → little_value (bytes_of 8 v) ≡ v
unfolding little_value bytes_of
little_eight v h = omega arith

little_one : (v : ℕ) → v < 0x100 → little_value (bytes_of 1 v) ≡ v
unfolding little_value bytes_of
little_one v h = omega arith

-- likewise of 8 bytes, and of one
pub value_eight : (a v : ℕ) (ws : List Write) → v < 0x10000000000000000 → value_from (byte_at (write_of a 8 v ∷ ws)) a 8 ≡ v
value_eight a v ws h = value_is 8 a (write_of a 8 v ∷ ws) (bytes_of 8 v) (length-bytes_of 8 v) (byte_written a 8 v ws) ∙ little_eight v h

pub value_one : (a v : ℕ) (ws : List Write) → v < 0x100 → value_from (byte_at (write_of a 1 v ∷ ws)) a 1 ≡ v
value_one a v ws h = value_is 1 a (write_of a 1 v ∷ ws) (bytes_of 1 v) (length-bytes_of 1 v) (byte_written a 1 v ws) ∙ little_one v h

-- and another value
pub value_apart : (a b w v : ℕ) (ws : List Write) → (a + w ≤ b) ⊎ (b + 4 ≤ a) → value_from (byte_at (write_of a w v ∷ ws)) b 4 ≡ value_from (byte_at ws) b 4
value_apart a b w v ws h = value_left 4 b ws (write_of a w v ∷ ws) (λ i small. left_more (b + i) (write_of a w v) ws (let e = length-bytes_of w v in rw e (misses a b w i h small)))
  where
    misses : (a b w i : ℕ) → (a + w ≤ b) ⊎ (b + 4 ≤ a) → i < 4 → (nat_le a (b + i) && nat_lt (b + i) (a + w)) ≡ false
    misses a b w i (inl h) small = grind (arith, nat_tests)
    misses a b w i (inr h) small = grind (arith, nat_tests)
