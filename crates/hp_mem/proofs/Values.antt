-- A value and its bytes, one byte at a time.
use Rattle.std.proofs.Common.{◌≡◌, ℕ, zero, suc, ◌+◌, ◌-◌, ◌*◌, ◌/◌, ◌%◌, ◌^◌, ◌<◌, ◌≤◌, ◌⊎◌, slice_index_or, refl, arith}
use Rattle.std.proofs.lemmas.Bool.Decides.{nat_tests}
use Rattle.std.proofs.Math.Nat.{pow-le-pow_right}
use Rattle.hp_model.specs.Memory.{byte_over, value_from, bytes_of, write_of}
use Rattle.hp_model.proofs.Bytes.{length-bytes_of}

pub value_none : (f : ℕ → ℕ) (x : ℕ) → value_from f x 0 ≡ 0
unfolding value_from
value_none f x = refl

pub value_more : (f : ℕ → ℕ) (x n : ℕ) → 0 < n → value_from f x n ≡ f x + 256 * value_from f (x + 1) (n - 1)
unfolding value_from
value_more f x zero h = omega arith
value_more f x (suc n) h = let e : suc n - 1 ≡ n = omega arith in rw e refl

pub ruleset value_facts = (value_none, value_more)

-- a byte more: the value is below the next power of 256, and within 64 bits
pub below_more : (b v n : ℕ) → b < 256 → v < 256 ^ (n - 1) → 0 < n → b + 256 * v < 256 ^ n
below_more b v zero hb hv h = omega arith
below_more b v (suc n) hb hv h =
    let e : suc n - 1 ≡ n = omega arith in
    let more : 256 ^ suc n ≡ 256 * 256 ^ n = omega arith in
    let low : v < 256 ^ n = rw (← e) hv in
    rw more (omega arith)

pub fits_more : (b v n : ℕ) → b < 256 → v < 256 ^ (n - 1) → 0 < n → n ≤ 8 → b + 256 * v < 2 ^ 64
fits_more b v n hb hv h le =
    let most : 256 ^ n ≤ 256 ^ 8 = pow-le-pow_right (omega arith) {i = n} {j = 8} le in
    omega (arith, below_more b v n hb hv h)

-- the same bytes are the same value
pub value_same_on : (f g : ℕ → ℕ) (x n : ℕ) → ((y : ℕ) → x ≤ y → y < x + n → f y ≡ g y) → value_from f x n ≡ value_from g x n
unfolding value_from
value_same_on f g x zero same = refl
value_same_on f g x (suc n) same =
    let low : f x ≡ g x = same x (omega arith) (omega arith) in
    let high = value_same_on f g (x + 1) n (λ y from to. same y (omega arith) (omega arith)) in
    rw (low, high) refl

pub value_same : (f g : ℕ → ℕ) (x n : ℕ) → ((y : ℕ) → f y ≡ g y) → value_from f x n ≡ value_from g x n
value_same f g x n same = value_same_on f g x n (λ y from to. same y)

-- zeros, and the same bytes elsewhere
pub value_zeros : (f : ℕ → ℕ) (x n : ℕ) → ((y : ℕ) → x ≤ y → y < x + n → f y ≡ 0) → value_from f x n ≡ 0
unfolding value_from
value_zeros f x zero zeros = refl
value_zeros f x (suc n) zeros =
    let low : f x ≡ 0 = zeros x (omega arith) (omega arith) in
    let high = value_zeros f (x + 1) n (λ y from to. zeros y (omega arith) (omega arith)) in
    rw (low, high) refl

pub value_moved : (f g : ℕ → ℕ) (x y n : ℕ) → ((k : ℕ) → k < n → f (x + k) ≡ g (y + k)) → value_from f x n ≡ value_from g y n
unfolding value_from
value_moved f g x y zero same = refl
value_moved f g x y (suc n) same =
    let first : x + 0 ≡ x = omega arith in
    let other : y + 0 ≡ y = omega arith in
    let low : f x ≡ g y = rw (first, other) at (same 0 (omega arith)) in
    let high = value_moved f g (x + 1) (y + 1) n (λ k below.
    let one : x + 1 + k ≡ x + suc k = omega arith in
    let two : y + 1 + k ≡ y + suc k = omega arith in
    rw (one, two) (same (suc k) (omega arith))) in
    rw (low, high) refl

-- bytes that are a value's are that value
value_of_bytes : (f : ℕ → ℕ) (x n value : ℕ) → value < 256 ^ n → ((k y : ℕ) → k < n → y ≡ x + k → f y ≡ slice_index_or (bytes_of n value) k 0) → value_from f x n ≡ value
unfolding value_from bytes_of
value_of_bytes f x zero value below is = omega arith
value_of_bytes f x (suc n) value below is =
    let low : f x ≡ value % 256 = is 0 x (omega arith) (omega arith) in
    let more : 256 ^ suc n ≡ 256 * 256 ^ n = omega arith in
    let rest : value / 256 < 256 ^ n = omega arith in
    let high = value_of_bytes f (x + 1) n (value / 256) rest (λ k y h e. is (suc k) y (omega arith) (omega arith)) in
    rw (low, high) (omega arith)

-- a store reads back
pub reads_back : (under : ℕ → ℕ) (addr width value : ℕ) → value < 256 ^ width → value_from (byte_over (write_of addr width value) under) addr width ≡ value
reads_back under addr width value below = value_of_bytes (byte_over (write_of addr width value) under) addr width value below
    (λ k y h e. grind (arith, nat_tests, length-bytes_of width value))

-- and leaves what lies beside it
pub stays_beside : (under : ℕ → ℕ) (addr width value at size : ℕ) → (at + size ≤ addr) ⊎ (addr + width ≤ at) → value_from (byte_over (write_of addr width value) under) at size ≡ value_from under at size
stays_beside under addr width value at size beside = value_same_on (byte_over (write_of addr width value) under) under at size
    (λ y from to. grind (arith, nat_tests, length-bytes_of width value))
