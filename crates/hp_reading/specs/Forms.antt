-- How a text is read from its front (own rules): words, numbers, and forms that are made of them.
use Rattle.std.specs.Prelude.{ℕ, Bool, true, false, not, ◌&&◌, ◌==◌, nat_le, nat_lt, ◌+◌, ◌-◌, ◌*◌, ◌^◌, List, [], ◌∷◌, length, take, drop, Option, Some, None, if◌then◌else◌, option_map, option_and_then}
use Rattle.hp_model.specs.Text as model

-- what follows a word at the front
unfoldable pub past : List ℕ → List ℕ → Option (List ℕ)
past [] text = Some text
past (c ∷ word) [] = None
past (c ∷ word) (b ∷ text) = if c == b then past word text else None

-- a hexadecimal digit in lower case
abbrev pub hex_digit : ℕ → Option ℕ
hex_digit c =
    if nat_le 48 c && nat_le c 57 then Some (c - 48)
    else if nat_le 97 c && nat_le c 102 then Some (c - 87)
    else None

-- digits, read onto the number that those before them make
abbrev pub hex_onto : ℕ → List ℕ → Option ℕ
hex_onto value [] = Some value
hex_onto value (c ∷ text) = option_and_then (λ digit. hex_onto (value * 16 + digit) text) (hex_digit c)

-- a number of so many digits at the front, and what follows it
unfoldable pub hex_front : ℕ → List ℕ → Option (ℕ × List ℕ)
hex_front digits text =
    if nat_le digits (length text) then option_map (λ value. (value, drop digits text)) (hex_onto 0 (take digits text)) else None

abbrev pub is_decimal : ℕ → Bool
is_decimal c = nat_le 48 c && nat_le c 57

-- further decimal digits, read onto the number that those before them make, which is at most so great; and what follows them
abbrev pub decimal_onto : ℕ → ℕ → List ℕ → Option (ℕ × List ℕ)
decimal_onto most value [] = Some (value, [])
decimal_onto most value (c ∷ text) =
    if is_decimal c then (if nat_le (value * 10 + (c - 48)) most then decimal_onto most (value * 10 + (c - 48)) text else None)
    else Some (value, c ∷ text)

-- a decimal number at the front without leading zeros, and what follows it
unfoldable pub decimal_front : ℕ → List ℕ → Option (ℕ × List ℕ)
decimal_front most [] = None
decimal_front most (c ∷ text) = if c == 48 then Some (0, text) else if is_decimal c then decimal_onto most 0 (c ∷ text) else None

-- a part of a line's form: a literal, a decimal number that is at most so great, or a hexadecimal number of so many digits
pub data Field : Type 0 where
  literal : List ℕ → Field
  decimals : ℕ → Field
  digits : ℕ → Field

-- the numbers of a text in a form, to its end
abbrev pub read : List Field → List ℕ → Option (List ℕ)
read [] [] = Some []
read [] (c ∷ text) = None
read (literal w ∷ fs) text = option_and_then (λ rest. read fs rest) (past w text)
read (decimals most ∷ fs) text = option_and_then (λ p. option_map (λ vs. p.0 ∷ vs) (read fs p.1)) (decimal_front most text)
read (digits n ∷ fs) text = option_and_then (λ p. option_map (λ vs. p.0 ∷ vs) (read fs p.1)) (hex_front n text)

-- one to four numbers, and what is made of them
module _ {X : Type 0} where
  abbrev pub of_one : (ℕ → X) → List ℕ → Option X
  of_one f [] = None
  of_one f (a ∷ []) = Some (f a)
  of_one f (a ∷ (b ∷ vs)) = None

  abbrev pub of_two : (ℕ → ℕ → X) → List ℕ → Option X
  of_two f [] = None
  of_two f (a ∷ vs) = of_one (f a) vs

  abbrev pub of_three : (ℕ → ℕ → ℕ → X) → List ℕ → Option X
  of_three f [] = None
  of_three f (a ∷ vs) = of_two (f a) vs

  abbrev pub of_four : (ℕ → ℕ → ℕ → ℕ → X) → List ℕ → Option X
  of_four f [] = None
  of_four f (a ∷ vs) = of_three (f a) vs

-- the pieces of a form that is filled with numbers
abbrev pub filled : List Field → List ℕ → List model.Piece
filled [] vs = []
filled (literal w ∷ fs) vs = model.word w ∷ filled fs vs
filled (decimals most ∷ fs) [] = []
filled (decimals most ∷ fs) (v ∷ vs) = model.number v ∷ filled fs vs
filled (digits n ∷ fs) [] = []
filled (digits n ∷ fs) (v ∷ vs) = model.hexadecimal n v ∷ filled fs vs

-- as many numbers as the form has, and each fits its field
abbrev pub fits : List Field → List ℕ → Bool
fits [] [] = true
fits [] (v ∷ vs) = false
fits (literal w ∷ fs) vs = fits fs vs
fits (decimals most ∷ fs) [] = false
fits (decimals most ∷ fs) (v ∷ vs) = nat_le v most && fits fs vs
fits (digits n ∷ fs) [] = false
fits (digits n ∷ fs) (v ∷ vs) = nat_lt v (16 ^ n) && fits fs vs

-- no decimal digit stands at the front
abbrev pub is_clear : List ℕ → Bool
is_clear [] = true
is_clear (c ∷ text) = not (is_decimal c)

abbrev pub begins_clear : List Field → Bool
begins_clear [] = true
begins_clear (literal [] ∷ fs) = false
begins_clear (literal (c ∷ w) ∷ fs) = not (is_decimal c)
begins_clear (decimals most ∷ fs) = false
begins_clear (digits n ∷ fs) = false

-- behind each decimal number stands no digit, and it is of 64 bits
abbrev pub is_sound : List Field → Bool
is_sound [] = true
is_sound (literal w ∷ fs) = is_sound fs
is_sound (decimals most ∷ fs) = nat_lt most (2 ^ 64) && (begins_clear fs && is_sound fs)
is_sound (digits n ∷ fs) = is_sound fs
