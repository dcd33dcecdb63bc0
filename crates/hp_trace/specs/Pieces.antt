-- Digits as the writer makes them, and what a failed call leaves.
use Rattle.std.specs.Prelude.{◌≡◌, ℕ, ◌/◌, ◌%◌, false, List, [], ◌∷◌, ◌++◌}
use Rattle.std.specs.Fmt.{digit_glyph}

-- the first list is a front of the second
pub record Begins (front whole : List ℕ) : Type 0 where
  pub rest : List ℕ
  pub text : front ++ rest ≡ whole

-- the lowest two, four and eight digits of a value in hexadecimal
abbrev pub two_of : ℕ → List ℕ
two_of value = digit_glyph false (value / 16 % 16) ∷ digit_glyph false (value % 16) ∷ []

abbrev pub four_of : ℕ → List ℕ
four_of value = digit_glyph false (value / 0x1000 % 16) ∷ digit_glyph false (value / 0x100 % 16) ∷ two_of value

abbrev pub eight_of : ℕ → List ℕ
eight_of value =
    digit_glyph false (value / 0x10000000 % 16)
    ∷ digit_glyph false (value / 0x1000000 % 16)
    ∷ digit_glyph false (value / 0x100000 % 16)
    ∷ digit_glyph false (value / 0x10000 % 16)
    ∷ four_of value
