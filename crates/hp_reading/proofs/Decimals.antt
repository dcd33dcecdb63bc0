-- Decimal text, written and read.
use Rattle.std.proofs.Common.{◌≡◌, ℕ, ◌+◌, ◌-◌, ◌*◌, ◌/◌, ◌%◌, ◌^◌, ◌==◌, ◌<◌, ◌≤◌, nat_le, ◌&&◌, not, Bool, true, false, List, [], ◌∷◌, ◌++◌, Option, Some, None, if◌then◌else◌, refl, sym, ap, ◌∙◌, arith, append_assoc, append-nil}
use Rattle.std.proofs.lemmas.Bool.{eqb-true, and_parts, leb-true, le-leb}
use Rattle.std.proofs.lemmas.Bool.Decides.{nat_tests}
use Rattle.std.proofs.lemmas.Fmt.{decimal_digit, decimal_step, decimal_by_steps}
use Rattle.std.proofs.lemmas.Option.{none-some, same_Some}
use Rattle.std.specs.Fmt.{decimal}
use Rattle.hp_reading.specs.Forms.{is_decimal, decimal_onto, decimal_front, is_clear}

digit_test : (d : ℕ) → d < 10 → is_decimal (48 + d) ≡ true
digit_test d h = grind (arith, nat_tests)

-- one more digit is read
onto-digit : (most value d : ℕ) (text : List ℕ) → d < 10 → value * 10 + d ≤ most → decimal_onto most value ((48 + d) ∷ text) ≡ decimal_onto most (value * 10 + d) text
onto-digit most value d text h k =
    let same : 48 + d - 48 ≡ d = omega arith in
    rw (digit_test d h, same, le-leb (value * 10 + d) most k) refl

not_is : (b : Bool) → not b ≡ true → b ≡ false
not_is true e = sym e
not_is false e = refl

-- and none where no digit follows
onto-clear : (most value : ℕ) (text : List ℕ) → is_clear text ≡ true → decimal_onto most value text ≡ Some (value, text)
onto-clear most value [] h = refl
onto-clear most value (c ∷ text) h = rw (not_is (is_decimal c) h) refl

-- the digits of a number are read onto nothing as the number
onto-decimal : (most n : ℕ) (text : List ℕ) → n < 2 ^ 64 → n ≤ most → decimal_onto most 0 (decimal n ++ text) ≡ decimal_onto most n text
onto-decimal most n text small h = decimal_by_steps (λ n ds. n ≤ most → (text : List ℕ) → decimal_onto most 0 (ds ++ text) ≡ decimal_onto most n text) one more n small h text
  where
    one : (n : ℕ) → n < 10 → n ≤ most → (text : List ℕ) → decimal_onto most 0 (((48 + n) ∷ []) ++ text) ≡ decimal_onto most n text
    one n small h text =
        let same : 0 * 10 + n ≡ n = omega arith in
        onto-digit most 0 n text small (omega arith) ∙ rw same refl

    more : (n : ℕ) (ds : List ℕ) → 10 ≤ n → (n / 10 ≤ most → (text : List ℕ) → decimal_onto most 0 (ds ++ text) ≡ decimal_onto most (n / 10) text)
        → n ≤ most → (text : List ℕ) → decimal_onto most 0 ((ds ++ ((48 + n % 10) ∷ [])) ++ text) ≡ decimal_onto most n text
    more n ds big before h text =
        let same : n / 10 * 10 + n % 10 ≡ n = omega arith in
        ap (decimal_onto most 0) (append_assoc ds ((48 + n % 10) ∷ []) text)
        ∙ (before (omega arith) ((48 + n % 10) ∷ text) ∙ (onto-digit most (n / 10) (n % 10) text (omega arith) (omega arith) ∙ rw same refl))

-- a digit from 1 to 9 stands at the front
abbrev begins : List ℕ → Bool
begins [] = false
begins (c ∷ text) = nat_le 49 c && nat_le c 57

begins-append : (ds text : List ℕ) → begins ds ≡ true → begins (ds ++ text) ≡ true
begins-append [] text h = cc
begins-append (c ∷ ds) text h = h

begins-decimal : (n : ℕ) → 0 < n → n < 2 ^ 64 → begins (decimal n) ≡ true
begins-decimal n above small = decimal_by_steps (λ n ds. 0 < n → begins ds ≡ true) one more n small above
  where
    one : (n : ℕ) → n < 10 → 0 < n → begins ((48 + n) ∷ []) ≡ true
    one n small above = grind (arith, nat_tests)

    more : (n : ℕ) (ds : List ℕ) → 10 ≤ n → (0 < n / 10 → begins ds ≡ true) → 0 < n → begins (ds ++ ((48 + n % 10) ∷ [])) ≡ true
    more n ds big before above = begins-append ds _ (before (omega arith))

front_begun : (most : ℕ) (text : List ℕ) → begins text ≡ true → decimal_front most text ≡ decimal_onto most 0 text
unfolding decimal_front
front_begun most [] h = cc
front_begun most (c ∷ text) h =
    let other : (c == 48) ≡ false = grind (arith, nat_tests) in
    let digit : is_decimal c ≡ true = grind (arith, nat_tests) in
    rw (other, digit) refl

front-zero : (most : ℕ) (text : List ℕ) → decimal_front most (decimal 0 ++ text) ≡ Some (0, text)
unfolding decimal_front
front-zero most text = rw (decimal_digit 0 (omega arith)) refl

-- what was written is read, where no digit follows
pub front-decimal : (most n : ℕ) (text : List ℕ) → most < 2 ^ 64 → n ≤ most → is_clear text ≡ true → decimal_front most (decimal n ++ text) ≡ Some (n, text)
front-decimal most n text small h clear = by (n == 0) refl
  where
    by : (t : Bool) → (n == 0) ≡ t → decimal_front most (decimal n ++ text) ≡ Some (n, text)
    by true is = rw (eqb-true n 0 is) (front-zero most text)
    by false is =
        let above : 0 < n = grind (arith, nat_tests) in
        front_begun most (decimal n ++ text) (begins-append (decimal n) text (begins-decimal n above (omega arith)))
        ∙ (onto-decimal most n text (omega arith) h ∙ onto-clear most n text clear)

-- digits were read onto a number
record IsOnto (most value n : ℕ) (rest text : List ℕ) : Type 0 where
  below : n ≤ most
  more : List ℕ
  number : decimal n ≡ decimal value ++ more
  spelled : text ≡ more ++ rest

abbrev made : ℕ × List ℕ → Option (ℕ × List ℕ)
made p = Some p

onto_none : (most value n : ℕ) (rest text : List ℕ) → value ≤ most → made (value, text) ≡ Some (n, rest) → IsOnto most value n rest text
onto_none most value n rest text h e =
    let same : value ≡ n = ap (λ p. p.0) (same_Some (value, text) (n, rest) e) in
    let last : text ≡ rest = ap (λ p. p.1) (same_Some (value, text) (n, rest) e) in
    record { below = omega (arith, same); more = []; number = rw same (sym (append-nil (decimal n))); spelled = last }

decimal-more : (value c : ℕ) → 0 < value → is_decimal c ≡ true → value * 10 + (c - 48) < 2 ^ 64 → decimal (value * 10 + (c - 48)) ≡ decimal value ++ c ∷ []
decimal-more value c above digit small =
    let (low, high) = and_parts (nat_le 48 c) (nat_le c 57) digit in
    let from : 48 ≤ c = leb-true 48 c low in
    let to : c ≤ 57 = leb-true c 57 high in
    let front : (value * 10 + (c - 48)) / 10 ≡ value = omega arith in
    let last : 48 + (value * 10 + (c - 48)) % 10 ≡ c = omega arith in
    decimal_step (value * 10 + (c - 48)) (omega arith) small ∙ rw (front, last) refl

onto_more : (most value c n : ℕ) (rest text : List ℕ) → 0 < value → is_decimal c ≡ true → value * 10 + (c - 48) < 2 ^ 64
    → IsOnto most (value * 10 + (c - 48)) n rest text → IsOnto most value n rest (c ∷ text)
onto_more most value c n rest text above digit small is = record {
  below = is.below;
  more = c ∷ is.more;
  number = is.number ∙ (ap (λ ds. ds ++ is.more) (decimal-more value c above digit small) ∙ append_assoc (decimal value) (c ∷ []) is.more);
  spelled = ap (λ ds. c ∷ ds) is.spelled;
}

onto_is : (most : ℕ) (text : List ℕ) (value n : ℕ) (rest : List ℕ) → most < 2 ^ 64 → 0 < value → value ≤ most → decimal_onto most value text ≡ Some (n, rest) → IsOnto most value n rest text
onto_is most [] value n rest small above h e = onto_none most value n rest [] h e
onto_is most (c ∷ text) value n rest small above h e =
    by (is_decimal c) refl (nat_le (value * 10 + (c - 48)) most) refl (λ fits. onto_is most text (value * 10 + (c - 48)) n rest small (omega arith) fits) e
  where
    by : (t : Bool) → is_decimal c ≡ t → (u : Bool) → nat_le (value * 10 + (c - 48)) most ≡ u
        → (value * 10 + (c - 48) ≤ most → decimal_onto most (value * 10 + (c - 48)) text ≡ Some (n, rest) → IsOnto most (value * 10 + (c - 48)) n rest text)
        → (if t then (if u then decimal_onto most (value * 10 + (c - 48)) text else None) else Some (value, c ∷ text)) ≡ Some (n, rest) → IsOnto most value n rest (c ∷ text)
    by false is u fits later e = onto_none most value n rest (c ∷ text) h e
    by true is false fits later e = absurd (none-some (n, rest) e)
    by true is true fits later e =
        let below : value * 10 + (c - 48) ≤ most = leb-true (value * 10 + (c - 48)) most fits in
        onto_more most value c n rest text above is (omega arith) (later below e)

-- and was written where it is read
pub record IsDecimal (most n : ℕ) (rest text : List ℕ) : Type 0 where
  pub below : n ≤ most
  pub spelled : text ≡ decimal n ++ rest

front_first : (most c n : ℕ) (rest text : List ℕ) → most < 2 ^ 64 → (c == 48) ≡ false → is_decimal c ≡ true → decimal_onto most 0 (c ∷ text) ≡ Some (n, rest) → IsDecimal most n rest (c ∷ text)
front_first most c n rest text small other digit e = by (nat_le (0 * 10 + (c - 48)) most) refl (rw digit at e)
  where
    by : (u : Bool) → nat_le (0 * 10 + (c - 48)) most ≡ u → (if u then decimal_onto most (0 * 10 + (c - 48)) text else None) ≡ Some (n, rest) → IsDecimal most n rest (c ∷ text)
    by false fits e = absurd (none-some (n, rest) e)
    by true fits e =
        let (low, high) = and_parts (nat_le 48 c) (nat_le c 57) digit in
        let from : 48 ≤ c = leb-true 48 c low in
        let to : c ≤ 57 = leb-true c 57 high in
        let unlike : 48 < c = grind (arith, nat_tests) in
        let below : 0 * 10 + (c - 48) ≤ most = leb-true (0 * 10 + (c - 48)) most fits in
        let is = onto_is most text (0 * 10 + (c - 48)) n rest small (omega arith) below e in
        let first : decimal (0 * 10 + (c - 48)) ≡ (48 + (0 * 10 + (c - 48))) ∷ [] = decimal_digit (0 * 10 + (c - 48)) (omega arith) in
        let same : 48 + (0 * 10 + (c - 48)) ≡ c = omega arith in
        record {
          below = is.below;
          spelled =
              ap (λ t. c ∷ t) is.spelled
              ∙ sym (ap (λ ds. ds ++ rest) (is.number ∙ ap (λ ds. ds ++ is.more) (first ∙ ap (λ d. d ∷ []) same)));
        }

pub front_is : (most n : ℕ) (rest text : List ℕ) → most < 2 ^ 64 → decimal_front most text ≡ Some (n, rest) → IsDecimal most n rest text
unfolding decimal_front
front_is most n rest [] small e = absurd (none-some (n, rest) e)
front_is most n rest (c ∷ text) small e = by (c == 48) refl (is_decimal c) refl e
  where
    by : (t : Bool) → (c == 48) ≡ t → (u : Bool) → is_decimal c ≡ u → (if t then Some (0, text) else if u then decimal_onto most 0 (c ∷ text) else None) ≡ Some (n, rest) → IsDecimal most n rest (c ∷ text)
    by true is u digit e =
        let zero : 0 ≡ n = ap (λ p. p.0) (same_Some (0, text) (n, rest) e) in
        let last : text ≡ rest = ap (λ p. p.1) (same_Some (0, text) (n, rest) e) in
        record { below = omega (arith, zero); spelled = rw (← zero, decimal_digit 0 (omega arith), eqb-true c 48 is, last) refl }
    by false is false digit e = absurd (none-some (n, rest) e)
    by false is true digit e = front_first most c n rest text small is digit e
