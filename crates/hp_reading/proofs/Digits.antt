-- Numbers, digit by digit: of so many hexadecimal digits, and decimal ones.
use Rattle.std.proofs.Common.{◌≡◌, ℕ, ◌+◌, ◌-◌, ◌*◌, ◌^◌, ◌<◌, ◌≤◌, nat_le, Bool, true, false, List, length, drop, get_or, Some, None, if◌then◌else◌, refl, arith}
use Rattle.std.proofs.lemmas.Grind.{pow_more}
use Rattle.std.proofs.lemmas.List.{drop_more, drop_all}
use Rattle.std.proofs.Math.Nat.{pow-le-pow_right}
use Rattle.std.proofs.lemmas.Bool.{leb-true, le-leb}
use Rattle.hp_reading.specs.Forms.{hex_digit, hex_onto, is_decimal, decimal_onto}

-- the value has at most so many digits
pub record IsBelow (value digits : ℕ) : Type 0 where
  pub below : value < 16 ^ digits

pub below_none : IsBelow 0 0
below_none = record { below = omega arith }

pub below_digit : (value digits digit : ℕ) → IsBelow value digits → digit < 16 → IsBelow (value * 16 + digit) (digits + 1)
below_digit value digits digit h d = record { below = rw (pow_more 16 digits) (omega (arith, h.below)) }

pub below_fits : (value digits : ℕ) → IsBelow value digits → digits < 16 → value < 2 ^ 60
below_fits value digits h d =
    let more : 16 ^ digits ≤ 16 ^ 15 = pow-le-pow_right (omega arith) {i = digits} {j = 15} (omega arith) in
    omega (arith, h.below)

-- one more digit was read
pub hex_more : (value : ℕ) (text : List ℕ) (i digit d : ℕ) → i < length text → Some digit ≡ hex_digit (get_or text i d)
    → hex_onto value (drop i text) ≡ hex_onto (value * 16 + digit) (drop (i + 1) text)
hex_more value text i digit d h is = rw (drop_more text i d h, ← is)

-- what stands there is no digit
pub hex_stop : (value : ℕ) (text : List ℕ) (i d : ℕ) → i < length text → None ≡ hex_digit (get_or text i d)
    → hex_onto value (drop i text) ≡ None
hex_stop value text i d h is = rw (drop_more text i d h, ← is)

pub hex_done : (value : ℕ) (text : List ℕ) (i : ℕ) → length text ≤ i → hex_onto value (drop i text) ≡ Some value
hex_done value text i h = rw (drop_all i text h)

pub ruleset hex_steps = (below_none, below_digit, below_fits, hex_more, hex_stop, hex_done)

-- one more decimal digit was read
pub onto_more : (most value : ℕ) (text : List ℕ) (i d : ℕ) → i < length text → is_decimal (get_or text i d) ≡ true → value * 10 + (get_or text i d - 48) ≤ most
    → decimal_onto most value (drop i text) ≡ decimal_onto most (value * 10 + (get_or text i d - 48)) (drop (i + 1) text)
onto_more most value text i d h is few = rw (drop_more text i d h, is, le-leb (value * 10 + (get_or text i d - 48)) most few) refl

-- the number becomes too great
pub onto_over : (most value : ℕ) (text : List ℕ) (i d : ℕ) → i < length text → is_decimal (get_or text i d) ≡ true → most < value * 10 + (get_or text i d - 48)
    → decimal_onto most value (drop i text) ≡ None
onto_over most value text i d h is many = rw (drop_more text i d h, is) (by (nat_le (value * 10 + (get_or text i d - 48)) most) refl)
  where
    by : (t : Bool) → nat_le (value * 10 + (get_or text i d - 48)) most ≡ t → (if t then decimal_onto most (value * 10 + (get_or text i d - 48)) (drop (i + 1) text) else None) ≡ None
    by true few = absurd (omega (arith, many, leb-true (value * 10 + (get_or text i d - 48)) most few))
    by false few = refl

-- no digit stands there, or nothing
pub onto_stop : (most value : ℕ) (text : List ℕ) (i d : ℕ) → i < length text → is_decimal (get_or text i d) ≡ false → decimal_onto most value (drop i text) ≡ Some (value, drop i text)
onto_stop most value text i d h is = rw (drop_more text i d h, is) refl

pub onto_done : (most value : ℕ) (text : List ℕ) (i : ℕ) → length text ≤ i → decimal_onto most value (drop i text) ≡ Some (value, drop i text)
onto_done most value text i h = rw (drop_all i text h) refl

pub ruleset decimal_steps = (onto_more, onto_over, onto_stop, onto_done)
