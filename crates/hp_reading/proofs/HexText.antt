-- Hexadecimal text, written and read.
use Rattle.std.proofs.Common.{◌≡◌, ℕ, zero, suc, ◌+◌, ◌*◌, ◌/◌, ◌%◌, ◌^◌, ◌<◌, ◌≤◌, false, List, [], ◌∷◌, ◌++◌, length, Option, Some, None, option_and_then, refl, ap, ◌∙◌, arith}
use Rattle.std.proofs.lemmas.Bool.Decides.{nat_tests}
use Rattle.std.proofs.lemmas.List.{length_push}
use Rattle.std.proofs.lemmas.Option.{none-some}
use Rattle.std.proofs.Math.Nat.{mul-le-mul_right}
use Rattle.std.specs.Fmt.{digit_glyph}
use Rattle.hp_model.specs.Text.{hex}
use Rattle.hp_reading.specs.Forms.{hex_digit, hex_onto}

-- a glyph is the digit that it was made of
hex_digit-glyph : (d : ℕ) → d < 16 → hex_digit (digit_glyph false d) ≡ Some d
hex_digit-glyph d h = grind (arith, nat_tests)

record IsDigit (c d : ℕ) : Type 0 where
  small : d < 16
  glyph : c ≡ digit_glyph false d

digit_is : (c d : ℕ) → hex_digit c ≡ Some d → IsDigit c d
digit_is c d e = record { small = grind (arith, nat_tests); glyph = grind (arith, nat_tests) }

pow_suc : (n : ℕ) → 16 ^ suc n ≡ 16 * 16 ^ n
pow_suc n = omega arith

times_pow : (a n : ℕ) → a * 16 ^ suc n ≡ 16 * (a * 16 ^ n)
times_pow a n = rw (pow_suc n) (omega arith)

pub length-hex : (n v : ℕ) → length (hex n v) ≡ n
unfolding hex
length-hex zero v = refl
length-hex (suc n) v = length_push (hex n (v / 16)) (digit_glyph false (v % 16)) ∙ omega (arith, length-hex n (v / 16))

-- one more digit at the end
hex_onto-last : (text : List ℕ) (value c digit v : ℕ) → hex_onto value text ≡ Some v → hex_digit c ≡ Some digit → hex_onto value (text ++ c ∷ []) ≡ Some (v * 16 + digit)
hex_onto-last [] value c digit v e is = rw is (let same : value ≡ v = cc in rw same refl)
hex_onto-last (x ∷ text) value c digit v e is = onward (hex_digit x) (λ g. hex_onto-last text (value * 16 + g) c digit v) e
  where
    onward : (o : Option ℕ) → ((g : ℕ) → hex_onto (value * 16 + g) text ≡ Some v → hex_digit c ≡ Some digit → hex_onto (value * 16 + g) (text ++ c ∷ []) ≡ Some (v * 16 + digit))
        → option_and_then (λ g. hex_onto (value * 16 + g) text) o ≡ Some v → option_and_then (λ g. hex_onto (value * 16 + g) (text ++ c ∷ [])) o ≡ Some (v * 16 + digit)
    onward None more e = cc
    onward (Some g) more e = more g e is

-- what was written is read
pub hex_onto-hex : (n v value : ℕ) → v < 16 ^ n → hex_onto value (hex n v) ≡ Some (value * 16 ^ n + v)
unfolding hex
hex_onto-hex zero v value h = ap Some (omega arith)
hex_onto-hex (suc n) v value h =
    let small : v / 16 < 16 ^ n = omega (arith, pow_suc n) in
    let before : hex_onto value (hex n (v / 16)) ≡ Some (value * 16 ^ n + v / 16) = hex_onto-hex n (v / 16) value small in
    let sum : (value * 16 ^ n + v / 16) * 16 + v % 16 ≡ value * 16 ^ suc n + v = omega (arith, times_pow value n) in
    hex_onto-last (hex n (v / 16)) value (digit_glyph false (v % 16)) (v % 16) (value * 16 ^ n + v / 16) before (hex_digit-glyph (v % 16) (omega arith)) ∙ ap Some sum

-- the first digit of a number
hex_front : (n d low : ℕ) → d < 16 → low < 16 ^ n → hex (suc n) (d * 16 ^ n + low) ≡ digit_glyph false d ∷ hex n low
unfolding hex
hex_front zero d low small below =
    let same : (d * 16 ^ zero + low) % 16 ≡ d = omega arith in
    rw same refl
hex_front (suc n) d low small below =
    let times : d * 16 ^ suc n ≡ 16 * (d * 16 ^ n) = times_pow d n in
    let front : (d * 16 ^ suc n + low) / 16 ≡ d * 16 ^ n + low / 16 = omega arith in
    let last : (d * 16 ^ suc n + low) % 16 ≡ low % 16 = omega arith in
    let under : low / 16 < 16 ^ n = omega (arith, pow_suc n) in
    rw (front, last) (ap (λ ds. ds ++ digit_glyph false (low % 16) ∷ []) (hex_front n d (low / 16) small under))

-- what was read is what would be written
pub record IsOnto (value : ℕ) (text : List ℕ) (v : ℕ) : Type 0 where
  pub low : ℕ
  pub below : low < 16 ^ length text
  pub sum : v ≡ value * 16 ^ length text + low
  pub spelled : text ≡ hex (length text) low

add_digit : (value c d : ℕ) (text : List ℕ) (v : ℕ) → IsDigit c d → IsOnto (value * 16 + d) text v → IsOnto value (c ∷ text) v
add_digit value c d text v digit more =
    let p = 16 ^ length text in
    let first : d * p ≤ 15 * p = mul-le-mul_right p (omega (arith, digit.small)) in
    let times : value * 16 ^ suc (length text) ≡ 16 * (value * p) = times_pow value (length text) in
    record {
      low = d * p + more.low;
      below = omega (arith, more.below, pow_suc (length text));
      sum = omega (arith, more.sum);
      spelled = rw (hex_front (length text) d more.low digit.small more.below, ← more.spelled, digit.glyph) refl;
    }

pub hex_onto_is : (text : List ℕ) (value v : ℕ) → hex_onto value text ≡ Some v → IsOnto value text v
unfolding hex
hex_onto_is [] value v e = let same : value ≡ v = cc in record { low = 0; below = omega arith; sum = omega arith; spelled = refl }
hex_onto_is (c ∷ text) value v e = onward (hex_digit c) refl (λ d. hex_onto_is text (value * 16 + d) v) e
  where
    onward : (o : Option ℕ) → hex_digit c ≡ o → ((d : ℕ) → hex_onto (value * 16 + d) text ≡ Some v → IsOnto (value * 16 + d) text v)
        → option_and_then (λ g. hex_onto (value * 16 + g) text) o ≡ Some v → IsOnto value (c ∷ text) v
    onward None is more e = absurd (none-some v e)
    onward (Some d) is more e = add_digit value c d text v (digit_is c d is) (more d e)
