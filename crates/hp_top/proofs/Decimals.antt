-- Numbers from 1 to 1000 in decimal, written and read.
use Rattle.std.proofs.Common.{IfSome, ◌≡◌, ◌≢◌, ◌≤◌, ◌<◌, ◌+◌, ◌-◌, ◌*◌, ◌/◌, ◌%◌, ◌==◌, ◌&&◌, nat_le, ℕ, zero, suc, Bool, true, false, List, [], ◌∷◌, ◌++◌, Option, Some, None, option_and_then, if◌then◌else◌, refl, sym, ap, ◌∙◌, arith, append_assoc, append-nil}
use Rattle.std.proofs.lemmas.Bool.{eqb-false, ne_eqb}
use Rattle.std.proofs.lemmas.Bool.Decides.{nat_tests}
use Rattle.std.proofs.lemmas.Fmt.{decimal_digit, decimal_step, decimal_by_steps}
use Rattle.std.proofs.lemmas.Option.{same_Some}
use Rattle.std.specs.Fmt.{decimal}
use Rattle.hp_top.specs.Commands.{IsNumber, number_onto, with_digit}

-- a digit more
with-digit : (value d : ℕ) → d < 10 → 1 ≤ value * 10 + d → value * 10 + d ≤ 1000 → with_digit value (48 + d) ≡ Some (value * 10 + d)
with-digit value d small least most =
    let same : 48 + d - 48 ≡ d = omega arith in
    let above : nat_le 48 (48 + d) ≡ true = grind (arith, nat_tests) in
    let below : nat_le (48 + d) 57 ≡ true = grind (arith, nat_tests) in
    let one : nat_le 1 (value * 10 + d) ≡ true = grind (arith, nat_tests) in
    let all : nat_le (value * 10 + d) 1000 ≡ true = grind (arith, nat_tests) in
    rw (same, above, below, one, all) refl

onto-digit : (value d : ℕ) (text : List ℕ) → d < 10 → 1 ≤ value * 10 + d → value * 10 + d ≤ 1000 → number_onto value ((48 + d) ∷ text) ≡ number_onto (value * 10 + d) text
onto-digit value d text small least most = ap (option_and_then (λ (more : ℕ). number_onto more text)) (with-digit value d small least most)

-- what was written is read
onto-decimal : (n : ℕ) (text : List ℕ) → 1 ≤ n → n ≤ 1000 → number_onto 0 (decimal n ++ text) ≡ number_onto n text
onto-decimal n text least most =
    decimal_by_steps (λ n ds. 1 ≤ n → n ≤ 1000 → (text : List ℕ) → number_onto 0 (ds ++ text) ≡ number_onto n text) one more n (omega (arith, most)) least most text
  where
    one : (n : ℕ) → n < 10 → 1 ≤ n → n ≤ 1000 → (text : List ℕ) → number_onto 0 (((48 + n) ∷ []) ++ text) ≡ number_onto n text
    one n small least most text =
        let same : 0 * 10 + n ≡ n = omega arith in
        onto-digit 0 n text small (omega (arith, least)) (omega (arith, most)) ∙ rw same refl

    more : (n : ℕ) (ds : List ℕ) → 10 ≤ n → (1 ≤ n / 10 → n / 10 ≤ 1000 → (text : List ℕ) → number_onto 0 (ds ++ text) ≡ number_onto (n / 10) text)
        → 1 ≤ n → n ≤ 1000 → (text : List ℕ) → number_onto 0 ((ds ++ ((48 + n % 10) ∷ [])) ++ text) ≡ number_onto n text
    more n ds big before least most text =
        let same : n / 10 * 10 + n % 10 ≡ n = omega arith in
        ap (number_onto 0) (append_assoc ds ((48 + n % 10) ∷ []) text)
        ∙ (before (omega arith) (omega arith) ((48 + n % 10) ∷ text) ∙ (onto-digit (n / 10) (n % 10) text (omega arith) (omega arith) (omega arith) ∙ rw same refl))

number_one : (n : ℕ) → 1 ≤ n → number_onto n [] ≡ Some n
number_one n least = rw (ne_eqb n 0 (λ none. omega (arith, none, least))) refl

pub written_read : (n : ℕ) → 1 ≤ n → n ≤ 1000 → number_onto 0 (decimal n) ≡ Some n
written_read n least most = ap (number_onto 0) (sym (append-nil (decimal n))) ∙ onto-decimal n [] least most ∙ number_one n least

-- what is read was written: behind the digits of a value, or behind none
pub record IsDigit (value c n : ℕ) : Type 0 where
  digit : ℕ
  is : c ≡ 48 + digit
  small : digit < 10
  sum : n ≡ value * 10 + digit
  least : 1 ≤ n
  most : n ≤ 1000

digit_in : (value c n : ℕ) → with_digit value c ≡ Some n → IsDigit value c n
digit_in value c n e = by (nat_le 48 c) (nat_le c 57) (nat_le 1 (value * 10 + (c - 48))) (nat_le (value * 10 + (c - 48)) 1000) refl refl refl refl e
  where
    by : (t u v w : Bool) → nat_le 48 c ≡ t → nat_le c 57 ≡ u → nat_le 1 (value * 10 + (c - 48)) ≡ v → nat_le (value * 10 + (c - 48)) 1000 ≡ w →
        (if t && (u && (v && w)) then Some (value * 10 + (c - 48)) else None) ≡ Some n → IsDigit value c n
    by true true true true a b least most e =
        let sum : value * 10 + (c - 48) ≡ n = same_Some (value * 10 + (c - 48)) n e in
        let above : 48 ≤ c = grind (arith, nat_tests) in
        let below : c ≤ 57 = grind (arith, nat_tests) in
        let one : 1 ≤ value * 10 + (c - 48) = grind (arith, nat_tests) in
        let all : value * 10 + (c - 48) ≤ 1000 = grind (arith, nat_tests) in
        record {
          digit = c - 48;
          is = omega (arith, above);
          small = omega (arith, below);
          sum = sym sum;
          least = omega (arith, one, sum);
          most = omega (arith, all, sum);
        }
    by true true true false a b least most e = cc
    by true true false w a b least most e = cc
    by true false v w a b least most e = cc
    by false u v w a b least most e = cc

-- the digits that a value had
abbrev digits_of : ℕ → List ℕ
digits_of zero = []
digits_of (suc value) = decimal (suc value)

digits_some : (n : ℕ) → 1 ≤ n → digits_of n ≡ decimal n
digits_some zero least = absurd (omega (arith, least))
digits_some (suc n) least = refl

digits-more : (value c n : ℕ) → IsDigit value c n → digits_of value ++ c ∷ [] ≡ digits_of n
digits-more zero c n it =
    let same : n ≡ it.digit = omega (arith, it.sum) in
    ap (λ (x : ℕ). x ∷ []) (it.is ∙ ap (λ (d : ℕ). 48 + d) (sym same)) ∙ sym (decimal_digit n (omega (arith, same, it.small))) ∙ sym (digits_some n it.least)
digits-more (suc value) c n it =
    let big : 10 ≤ n = omega (arith, it.sum) in
    let front : n / 10 ≡ suc value = omega (arith, it.sum, it.small) in
    let last : n % 10 ≡ it.digit = omega (arith, it.sum, it.small) in
    ap (λ (x : ℕ). decimal (suc value) ++ x ∷ []) (it.is ∙ ap (λ (d : ℕ). 48 + d) (sym last)) ∙ ap (λ (m : ℕ). decimal m ++ (48 + n % 10) ∷ []) (sym front)
    ∙ sym (decimal_step n big (omega (arith, it.most))) ∙ sym (digits_some n it.least)

record IsRead (front text : List ℕ) (n : ℕ) : Type 0 where
  whole : front ++ text ≡ decimal n
  least : 1 ≤ n
  most : n ≤ 1000

read_onto : (value : ℕ) (text : List ℕ) (n : ℕ) → value ≤ 1000 → number_onto value text ≡ Some n → IsRead (digits_of value) text n
read_onto value [] n most e = by (value == 0) refl e
  where
    by : (b : Bool) → (value == 0) ≡ b → (if b then None else Some value) ≡ Some n → IsRead (digits_of value) [] n
    by true is e = cc
    by false is e =
        let same : value ≡ n = same_Some value n e in
        let other : value ≢ 0 = eqb-false value 0 is in
        let least : 1 ≤ value = omega (arith, other) in
        record { whole = append-nil (digits_of value) ∙ digits_some value least ∙ ap decimal same; least = omega (arith, same, least); most = omega (arith, same, most) }
read_onto value (c ∷ text) n most e = by (λ more small is. read_onto more text n small is) (with_digit value c) refl e
  where
    by : ((more : ℕ) → more ≤ 1000 → number_onto more text ≡ Some n → IsRead (digits_of more) text n) → (o : Option ℕ) → with_digit value c ≡ o →
        option_and_then (λ (more : ℕ). number_onto more text) o ≡ Some n → IsRead (digits_of value) (c ∷ text) n
    by further None is e = cc
    by further (Some more) is e =
        let it = digit_in value c more is in
        let rest = further more it.most e in
        record {
          whole = sym (append_assoc (digits_of value) (c ∷ []) text) ∙ ap (λ (ds : List ℕ). ds ++ text) (digits-more value c more it) ∙ rest.whole;
          least = rest.least;
          most = rest.most;
        }

pub number_read : (word : List ℕ) (n : ℕ) → number_onto 0 word ≡ Some n → IsNumber word n
number_read word n e = let it = read_onto 0 word n (omega arith) e in record { text = it.whole; least = it.least; most = it.most }

pub no_number : (word : List ℕ) → number_onto 0 word ≡ None → (n : ℕ) → IsNumber word n → ⊥
no_number word none n is = let both : None ≡ Some n = sym none ∙ ap (number_onto 0) is.text ∙ written_read n is.least is.most in cc

pub number_if : (word : List ℕ) (o : Option ℕ) → number_onto 0 word ≡ o → IfSome o (λ n. IsNumber word n)
number_if word None e = tt
number_if word (Some n) e = number_read word n e
