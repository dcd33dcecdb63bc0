-- Values in a slice of bytes, as byteorder reads and writes them.
use Rattle.std.proofs.Common.{◌≡◌, ℕ, zero, suc, ◌+◌, ◌-◌, ◌/◌, ◌%◌, ◌^◌, ◌<◌, ◌≤◌, List, [], ◌++◌, length, take, drop, slice_index, slice_set, length-drop, refl, sym, ap, ◌∙◌, add-one, arith}
use Rattle.std.proofs.lemmas.Bool.Decides.{nat_tests}
use Rattle.std.proofs.lemmas.List.{get_or-append_right, get_or-drop, get_or-set_other, get_or-set_same, get_or-take, get_or_append_left, length-take-le, drop-drop, drop_all, take_rest, append-nil}
use borrow.Rule.Slice.PartMut.{put_mid}
use Rattle.byteorder.specs.Endian.{little_from, little_number, little_bytes}
use Rattle.byteorder.specs.Numbers.{little_from-take}
use Rattle.hp_model.proofs.Bytes.{length-bytes_of, low_first}
use Rattle.hp_model.specs.Memory.{byte_over, bytes_of, value_from, write_of}

-- the numbers that are read
little_from_is : (i n : ℕ) (xs : List ℕ) → little_from i n xs ≡ value_from (slice_index xs) i n
unfolding value_from
little_from_is i zero xs = refl
little_from_is i (suc n) xs = rw (add-one i, little_from_is (suc i) n xs) refl

-- past the first k bytes all places are moved on
little_from-drop : (k i n : ℕ) (xs : List ℕ) → little_from i n (drop k xs) ≡ little_from (k + i) n xs
little_from-drop k i zero xs = refl
little_from-drop k i (suc n) xs =
    let e : k + suc i ≡ suc (k + i) = omega arith in
    rw (get_or-drop k xs i 0, little_from-drop k (suc i) n xs, e) refl

number_read : (at n m : ℕ) (xs : List ℕ) → n ≤ m → value_from (slice_index xs) at n ≡ little_number n (take m (drop at xs))
number_read at n m xs h =
    let e : at + 0 ≡ at = omega arith in
    sym (little_from-take 0 n m (drop at xs) (omega arith) ∙ little_from-drop at 0 n xs ∙ ap (λ (i : ℕ). little_from i n xs) e ∙ little_from_is at n xs)

pub read_1 : (at : ℕ) (xs : List ℕ) → value_from (slice_index xs) at 1 ≡ slice_index xs at
unfolding value_from
read_1 at xs = omega arith

pub read_2 : (at : ℕ) (xs : List ℕ) → at + 2 ≤ length xs → value_from (slice_index xs) at 2 ≡ little_number 2 (take (length xs - at) (drop at xs))
read_2 at xs h = number_read at 2 (length xs - at) xs (omega arith)

pub read_4 : (at : ℕ) (xs : List ℕ) → at + 4 ≤ length xs → value_from (slice_index xs) at 4 ≡ little_number 4 (take (length xs - at) (drop at xs))
read_4 at xs h = number_read at 4 (length xs - at) xs (omega arith)

pub read_8 : (at : ℕ) (xs : List ℕ) → at + 8 ≤ length xs → value_from (slice_index xs) at 8 ≡ little_number 8 (take (length xs - at) (drop at xs))
read_8 at xs h = number_read at 8 (length xs - at) xs (omega arith)

pub ruleset word_facts = (read_1, read_2, read_4, read_8)

-- the bytes that are written
pub little_bytes_are : (n x : ℕ) → little_bytes n x ≡ bytes_of n x
little_bytes_are n x = low_first n x

-- bytes in place of others
before : (xs bs ys : List ℕ) (at k : ℕ) → at ≤ length xs → k < at → slice_index (take at xs ++ (bs ++ ys)) k ≡ slice_index xs k
before xs bs ys at k fits h =
    let len = length-take-le at xs fits in
    get_or_append_left (take at xs) (bs ++ ys) 0 k (omega (arith, len)) ∙ get_or-take at xs k 0 h

inside : (xs bs ys : List ℕ) (at k : ℕ) → at ≤ length xs → at ≤ k → k < at + length bs → slice_index (take at xs ++ (bs ++ ys)) k ≡ slice_index bs (k - at)
inside xs bs ys at k fits low high =
    get_or-append_right (take at xs) (bs ++ ys) at k 0 (length-take-le at xs fits) low ∙ get_or_append_left bs ys 0 (k - at) (omega arith)

after : (xs bs : List ℕ) (at n k : ℕ) → at ≤ length xs → n ≡ at + length bs → n ≤ k → slice_index (take at xs ++ (bs ++ drop n xs)) k ≡ slice_index xs k
after xs bs at n k fits len low =
    let e : n + (k - at - length bs) ≡ k = omega (arith, len, low) in
    get_or-append_right (take at xs) (bs ++ drop n xs) at k 0 (length-take-le at xs fits) (omega arith)
    ∙ get_or-append_right bs (drop n xs) (length bs) (k - at) 0 refl (omega arith)
    ∙ get_or-drop n xs (k - at - length bs) 0
    ∙ ap (slice_index xs) e

over_slice : (xs bs : List ℕ) (at n k : ℕ) → n ≤ length xs → n ≡ at + length bs → slice_index (take at xs ++ (bs ++ drop n xs)) k ≡ byte_over (record { first = at; bytes = bs }) (slice_index xs) k
over_slice xs bs at n k fits len = grind (arith, nat_tests, before xs bs (drop n xs) at k, inside xs bs (drop n xs) at k, after xs bs at n k)

mid_is : (xs bs : List ℕ) (at n : ℕ) → at + n ≤ length xs → put_mid at (length xs - at) xs (bs ++ drop n (take (length xs - at) (drop at xs))) ≡ take at xs ++ (bs ++ drop (at + n) xs)
mid_is xs bs at n fits =
    let none : drop (length xs - at) (drop at xs) ≡ [] = drop_all (length xs - at) (drop at xs) (omega (arith, length-drop at xs)) in
    rw (take_rest xs at, none, drop-drop n at xs, append-nil) refl

put_number : (xs ys : List ℕ) (at n value : ℕ) → at + n ≤ length xs → ys ≡ little_bytes n value ++ drop n (take (length xs - at) (drop at xs)) →
    (k : ℕ) → slice_index (put_mid at (length xs - at) xs ys) k ≡ byte_over (write_of at n value) (slice_index xs) k
put_number xs ys at n value fits is k =
    let len : at + n ≡ at + length (bytes_of n value) = omega (arith, length-bytes_of n value) in
    rw (is, little_bytes_are n value, mid_is xs (bytes_of n value) at n fits) (over_slice xs (bytes_of n value) at (at + n) k fits len)

pub put_8 : (xs ys : List ℕ) (at value : ℕ) → at + 8 ≤ length xs → ys ≡ little_bytes 8 value ++ drop 8 (take (length xs - at) (drop at xs)) →
    (k : ℕ) → slice_index (put_mid at (length xs - at) xs ys) k ≡ byte_over (write_of at 8 value) (slice_index xs) k
put_8 xs ys at value fits is k = put_number xs ys at 8 value fits is k

-- a value cut to its width has the same bytes
cut_bytes_2 : (value : ℕ) → bytes_of 2 (value % 2 ^ 16) ≡ bytes_of 2 value
unfolding bytes_of
cut_bytes_2 value =
    let a : value % 2 ^ 16 % 256 ≡ value % 256 = omega arith in
    let b : value % 2 ^ 16 / 256 % 256 ≡ value / 256 % 256 = omega arith in
    rw (a, b) refl

cut_bytes_4 : (value : ℕ) → bytes_of 4 (value % 2 ^ 32) ≡ bytes_of 4 value
unfolding bytes_of
cut_bytes_4 value =
    let a : value % 2 ^ 32 % 256 ≡ value % 256 = omega arith in
    let b : value % 2 ^ 32 / 256 % 256 ≡ value / 256 % 256 = omega arith in
    let c : value % 2 ^ 32 / 256 / 256 % 256 ≡ value / 256 / 256 % 256 = omega arith in
    let d : value % 2 ^ 32 / 256 / 256 / 256 % 256 ≡ value / 256 / 256 / 256 % 256 = omega arith in
    rw (a, b, c, d) refl

pub put_2 : (xs ys : List ℕ) (at value : ℕ) → at + 2 ≤ length xs → ys ≡ little_bytes 2 (value % 2 ^ 16) ++ drop 2 (take (length xs - at) (drop at xs)) →
    (k : ℕ) → slice_index (put_mid at (length xs - at) xs ys) k ≡ byte_over (write_of at 2 value) (slice_index xs) k
put_2 xs ys at value fits is k = rw (cut_bytes_2 value) at (put_number xs ys at 2 (value % 2 ^ 16) fits is k)

pub put_4 : (xs ys : List ℕ) (at value : ℕ) → at + 4 ≤ length xs → ys ≡ little_bytes 4 (value % 2 ^ 32) ++ drop 4 (take (length xs - at) (drop at xs)) →
    (k : ℕ) → slice_index (put_mid at (length xs - at) xs ys) k ≡ byte_over (write_of at 4 value) (slice_index xs) k
put_4 xs ys at value fits is k = rw (cut_bytes_4 value) at (put_number xs ys at 4 (value % 2 ^ 32) fits is k)

pub put_1 : (xs : List ℕ) (at value : ℕ) → at + 1 ≤ length xs →
    (k : ℕ) → slice_index (slice_set xs at (value % 256)) k ≡ byte_over (write_of at 1 value) (slice_index xs) k
unfolding bytes_of
put_1 xs at value fits k = grind (arith, nat_tests, get_or-set_same xs at (value % 256) 0, get_or-set_other xs at k (value % 256) 0)
