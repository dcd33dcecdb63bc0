-- One more number of a header.
use Rattle.std.proofs.Common.{◌≡◌, ℕ, zero, suc, ◌-◌, ◌<◌, ◌≤◌, List, [], ◌∷◌, ◌++◌, codes, Some, None, option_and_then, refl}
use native.Mathlib.Numerals.{unary_clauses}
use Rattle.hp_reading.specs.Forms.{past, decimal_front}
use Rattle.hp_reading.specs.Lines.{most32, row}
use Rattle.hp_reading.specs.Header.{numbers_onto}

pub numbers_none : (made text : List ℕ) (n : ℕ) → n ≤ 0 → numbers_onto n made text ≡ None
unfolding numbers_onto
numbers_none made text zero h = refl
numbers_none made text (suc n) h = elim h [ ]

pub numbers_more : (made text : List ℕ) (n : ℕ) → 0 < n
    → numbers_onto n made text ≡ option_and_then (λ p. row (past (codes ",") p.1) (λ rest. numbers_onto (n - 1) (made ++ p.0 ∷ []) rest) (Some (made ++ p.0 ∷ [], p.1))) (decimal_front most32 text)
unfolding numbers_onto
numbers_more made text zero h = elim h [ ]
numbers_more made text (suc n) h = simp unary_clauses refl

pub ruleset number_steps = (numbers_none, numbers_more)
