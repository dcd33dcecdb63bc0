-- Steps of the writer: what a failed call leaves, one more digit, one more number.
use Rattle.std.proofs.Common.{◌≡◌, ℕ, zero, suc, ◌+◌, ◌-◌, ◌/◌, ◌%◌, ◌<◌, ◌≤◌, List, [], ◌∷◌, ◌++◌, length, get_or, take, drop, refl, ap, sym, ◌∙◌, append_assoc, append-nil, arith, false, codes}
use native.Mathlib.Numerals.{unary_clauses}
use Rattle.std.proofs.lemmas.Fmt.{decimal_digit, decimal_step}
use Rattle.std.proofs.Math.Seq.{take-append_seam, take-length}
use Rattle.std.specs.Fmt.{decimal, digit_glyph}
use Rattle.hp_model.specs.Text.{hex, numbers_text}
use Rattle.hp_trace.specs.Pieces.{Begins, eight_of, four_of, two_of}

pub begins_itself : (a : List ℕ) → Begins a a
begins_itself a = record { rest = []; text = append-nil a }

pub begins_before : (a t b : List ℕ) → Begins (a ++ t) b → Begins a b
begins_before a t b h = record { rest = t ++ h.rest; text = sym (append_assoc a t h.rest) ∙ h.text }

pub begins_through : (a b c : List ℕ) → Begins a b → Begins b c → Begins a c
begins_through a b c h k =
    record {
      rest = h.rest ++ k.rest;
      text = sym (append_assoc a h.rest k.rest) ∙ (ap (λ front. front ++ k.rest) h.text ∙ k.text);
    }

-- a front is what a cut to its length leaves
pub take_begins : (a b : List ℕ) → Begins a b → take (length a) b ≡ a
take_begins a b h = ap (take (length a)) (sym h.text) ∙ take-append_seam a h.rest

pub ruleset front_facts = (begins_itself, begins_before, begins_through)

pub ruleset line_facts = (append_assoc, take_begins, front_facts)

-- a loop has made a front of a text, and the rest is still to come
pub record IsOnTheWay (old made rest whole : List ℕ) : Type 0 where
  pub begins : Begins old made
  pub text : made ++ rest ≡ old ++ whole

pub hex_nothing : (out : List ℕ) (digits value : ℕ) → digits ≤ 0 → out ≡ out ++ hex digits value
unfolding hex
hex_nothing out zero value h = sym (append-nil out)
hex_nothing out (suc n) value h = elim h [ ]

pub hex_more : (out : List ℕ) (digits value : ℕ) → 0 < digits → out ++ hex digits value ≡ (out ++ hex (digits - 1) (value / 16)) ++ digit_glyph false (value % 16) ∷ []
unfolding hex
hex_more out zero value h = elim h [ ]
hex_more out (suc n) value h = simp unary_clauses (sym (append_assoc out (hex n (value / 16)) (digit_glyph false (value % 16) ∷ [])))

pub ruleset hex_facts = (hex_nothing, hex_more, front_facts)

-- a value's digits, 2, 4, 8 or 16 of them
pub hex_two : (value : ℕ) → hex 2 value ≡ two_of value
unfolding hex
hex_two value = refl

pub hex_four : (value : ℕ) → hex 4 value ≡ four_of value
unfolding hex
hex_four value =
    let third : value / 16 / 16 / 16 ≡ value / 0x1000 = omega arith in
    let second : value / 16 / 16 ≡ value / 0x100 = omega arith in
    rw (third, second) refl

pub hex_eight : (value : ℕ) → hex 8 value ≡ eight_of value
unfolding hex
hex_eight value =
    let seventh : value / 16 / 16 / 16 / 16 / 16 / 16 / 16 ≡ value / 0x10000000 = omega arith in
    let sixth : value / 16 / 16 / 16 / 16 / 16 / 16 ≡ value / 0x1000000 = omega arith in
    let fifth : value / 16 / 16 / 16 / 16 / 16 ≡ value / 0x100000 = omega arith in
    let fourth : value / 16 / 16 / 16 / 16 ≡ value / 0x10000 = omega arith in
    let third : value / 16 / 16 / 16 ≡ value / 0x1000 = omega arith in
    let second : value / 16 / 16 ≡ value / 0x100 = omega arith in
    rw (seventh, sixth, fifth, fourth, third, second) refl

-- eight digits more
hex_more_eight : (n value : ℕ) → hex (suc (suc (suc (suc (suc (suc (suc (suc n)))))))) value ≡ hex n (value / 0x100000000) ++ eight_of value
unfolding hex
hex_more_eight n value =
    let eighth : value / 16 / 16 / 16 / 16 / 16 / 16 / 16 / 16 ≡ value / 0x100000000 = omega arith in
    let seventh : value / 16 / 16 / 16 / 16 / 16 / 16 / 16 ≡ value / 0x10000000 = omega arith in
    let sixth : value / 16 / 16 / 16 / 16 / 16 / 16 ≡ value / 0x1000000 = omega arith in
    let fifth : value / 16 / 16 / 16 / 16 / 16 ≡ value / 0x100000 = omega arith in
    let fourth : value / 16 / 16 / 16 / 16 ≡ value / 0x10000 = omega arith in
    let third : value / 16 / 16 / 16 ≡ value / 0x1000 = omega arith in
    let second : value / 16 / 16 ≡ value / 0x100 = omega arith in
    rw (eighth, seventh, sixth, fifth, fourth, third, second) (simp append_assoc refl)

pub hex_sixteen : (value : ℕ) → hex 16 value ≡ eight_of (value / 0x100000000) ++ eight_of value
hex_sixteen value = hex_more_eight 8 value ∙ ap (λ text. text ++ eight_of value) (hex_eight (value / 0x100000000))

-- so many digits are written
pub in_two : (out text : List ℕ) (digits value : ℕ) → digits ≡ 2 → text ≡ out ++ two_of value → text ≡ out ++ hex digits value
in_two out text digits value is h = rw (is, hex_two value) h

pub in_four : (out text : List ℕ) (digits value : ℕ) → digits ≡ 4 → text ≡ out ++ four_of value → text ≡ out ++ hex digits value
in_four out text digits value is h = rw (is, hex_four value) h

pub in_eight : (out text : List ℕ) (digits value : ℕ) → digits ≡ 8 → text ≡ out ++ eight_of value → text ≡ out ++ hex digits value
in_eight out text digits value is h = rw (is, hex_eight value) h

pub in_sixteen : (out text : List ℕ) (digits value : ℕ) → digits ≡ 16 → text ≡ (out ++ eight_of (value / 0x100000000)) ++ eight_of value → text ≡ out ++ hex digits value
in_sixteen out text digits value is h = rw (is, hex_sixteen value) (h ∙ append_assoc out (eight_of (value / 0x100000000)) (eight_of value))

pub ruleset widths = (in_two, in_four, in_eight, in_sixteen, front_facts)

pub two_digits : (n : ℕ) → 10 ≤ n → n < 100 → decimal n ≡ (48 + n / 10) ∷ (48 + n % 10) ∷ []
two_digits n lo hi = rw (decimal_step n lo (omega arith), decimal_digit (n / 10) (omega arith)) refl

pub ruleset decimal_facts = (decimal_digit, two_digits, front_facts)

pub ruleset word_facts = (append_assoc, append-nil, front_facts)

-- the numbers after the first, each behind a comma
abbrev pub after_commas : List ℕ → List ℕ
after_commas [] = []
after_commas (n ∷ ns) = codes "," ++ (decimal n ++ after_commas ns)

numbers_first : (n : ℕ) (ns : List ℕ) → numbers_text (n ∷ ns) ≡ decimal n ++ after_commas ns
unfolding numbers_text
numbers_first n [] = sym (append-nil (decimal n))
numbers_first n (m ∷ ms) = ap (λ text. decimal n ++ (codes "," ++ text)) (numbers_first m ms)

pub numbers_nothing : (out ns : List ℕ) → length ns ≡ 0 → out ≡ out ++ numbers_text ns
unfolding numbers_text
numbers_nothing out [] h = sym (append-nil out)
numbers_nothing out (n ∷ ns) h = cc

-- after the first number
pub numbers_begun : (old ns : List ℕ) → 0 < length ns → IsOnTheWay old (old ++ decimal (get_or ns 0 0)) (after_commas (take (length ns - 1) (drop 1 ns))) (numbers_text ns)
numbers_begun old [] h = elim h [ ]
numbers_begun old (n ∷ ns) h =
    record {
      begins = begins_before old (decimal n) _ (begins_itself (old ++ decimal n));
      text = simp unary_clauses (rw (take-length ns) (append_assoc old (decimal n) (after_commas ns) ∙ ap (λ text. old ++ text) (sym (numbers_first n ns))));
    }

pub ruleset number_facts = (numbers_nothing, numbers_begun, front_facts)
