-- Rows of the grammar: a word at the front and numbers in a form, written and read.
use Rattle.std.proofs.Common.{◌≡◌, ℕ, true, List, [], ◌∷◌, ◌++◌, Option, Some, None, option_and_then, sym, ap, subst, refl}
use Rattle.std.proofs.lemmas.Option.{none-some, same_Some, option_and_then_some}
use Rattle.hp_model.specs.Text.{spell}
use Rattle.hp_reading.specs.Forms.{past, Field, read, filled, fits, is_sound, of_one, of_two, of_three, of_four}
use Rattle.hp_reading.specs.Lines.{row, only, one, two, three, four}
use Rattle.hp_reading.proofs.Front.{past_is}
use Rattle.hp_reading.proofs.Filled.{read-filled, IsFilled, read_is}

-- a row was read, or one after it
pub row_is : {X : Type 0} (P : List ℕ → X → Type 0) (word t : List ℕ) (here : List ℕ → Option X) (other : Option X) (x : X) → row (past word t) here other ≡ Some x
    → ((rest : List ℕ) → here rest ≡ Some x → P (word ++ rest) x) → (other ≡ Some x → P t x) → P t x
row_is {X} P word t here other x e found later = by (past word t) refl e
  where
    by : (p : Option (List ℕ)) → past word t ≡ p → row p here other ≡ Some x → P t x
    by None is e = later e
    by (Some rest) is e = subst (λ u. P u x) (sym (past_is word t rest is)) (found rest e)

pub only_is : {X : Type 0} (P : List ℕ → X → Type 0) (word t : List ℕ) (x y : X) → only x t ≡ Some y → P (word ++ []) x → P (word ++ t) y
only_is P word [] x y e p = subst (P (word ++ [])) (same_Some x y e) p
only_is P word (c ∷ t) x y e p = absurd (none-some y e)

-- numbers in a form
module _ {X : Type 0} where
  pub one-filled : (form : List Field) (f : ℕ → X) (a : ℕ) → is_sound form ≡ true → fits form (a ∷ []) ≡ true → one form f (spell (filled form (a ∷ []))) ≡ Some (f a)
  one-filled form f a sound fit = ap (option_and_then (λ vs. of_one f vs)) (read-filled form (a ∷ []) sound fit)

  pub two-filled : (form : List Field) (f : ℕ → ℕ → X) (a b : ℕ) → is_sound form ≡ true → fits form (a ∷ b ∷ []) ≡ true → two form f (spell (filled form (a ∷ b ∷ []))) ≡ Some (f a b)
  two-filled form f a b sound fit = ap (option_and_then (λ vs. of_two f vs)) (read-filled form (a ∷ b ∷ []) sound fit)

  pub three-filled : (form : List Field) (f : ℕ → ℕ → ℕ → X) (a b c : ℕ) → is_sound form ≡ true → fits form (a ∷ b ∷ c ∷ []) ≡ true
      → three form f (spell (filled form (a ∷ b ∷ c ∷ []))) ≡ Some (f a b c)
  three-filled form f a b c sound fit = ap (option_and_then (λ vs. of_three f vs)) (read-filled form (a ∷ b ∷ c ∷ []) sound fit)

  pub four-filled : (form : List Field) (f : ℕ → ℕ → ℕ → ℕ → X) (a b c d : ℕ) → is_sound form ≡ true → fits form (a ∷ b ∷ c ∷ d ∷ []) ≡ true
      → four form f (spell (filled form (a ∷ b ∷ c ∷ d ∷ []))) ≡ Some (f a b c d)
  four-filled form f a b c d sound fit = ap (option_and_then (λ vs. of_four f vs)) (read-filled form (a ∷ b ∷ c ∷ d ∷ []) sound fit)

-- and whoever needs them gets them with what they fit and spell
module _ {X P : Type 0} (form : List Field) (text : List ℕ) (x : X) (sound : is_sound form ≡ true) where
  pub one_is : (f : ℕ → X) → one form f text ≡ Some x → ((a : ℕ) → fits form (a ∷ []) ≡ true → text ≡ spell (filled form (a ∷ [])) → f a ≡ x → P) → P
  one_is f e more = option_and_then_some (λ vs. of_one f vs) (read form text) x e (λ vs found made. by vs (read_is form text vs sound found) made)
    where
      by : (vs : List ℕ) → IsFilled form vs text → of_one f vs ≡ Some x → P
      by [] is made = absurd (none-some x made)
      by (a ∷ []) is made = more a is.fit is.spelled (same_Some (f a) x made)
      by (a ∷ (b ∷ vs)) is made = absurd (none-some x made)

  pub two_is : (f : ℕ → ℕ → X) → two form f text ≡ Some x → ((a b : ℕ) → fits form (a ∷ b ∷ []) ≡ true → text ≡ spell (filled form (a ∷ b ∷ [])) → f a b ≡ x → P) → P
  two_is f e more = option_and_then_some (λ vs. of_two f vs) (read form text) x e (λ vs found made. by vs (read_is form text vs sound found) made)
    where
      by : (vs : List ℕ) → IsFilled form vs text → of_two f vs ≡ Some x → P
      by [] is made = absurd (none-some x made)
      by (a ∷ []) is made = absurd (none-some x made)
      by (a ∷ (b ∷ [])) is made = more a b is.fit is.spelled (same_Some (f a b) x made)
      by (a ∷ (b ∷ (c ∷ vs))) is made = absurd (none-some x made)

  pub three_is : (f : ℕ → ℕ → ℕ → X) → three form f text ≡ Some x
      → ((a b c : ℕ) → fits form (a ∷ b ∷ c ∷ []) ≡ true → text ≡ spell (filled form (a ∷ b ∷ c ∷ [])) → f a b c ≡ x → P) → P
  three_is f e more = option_and_then_some (λ vs. of_three f vs) (read form text) x e (λ vs found made. by vs (read_is form text vs sound found) made)
    where
      by : (vs : List ℕ) → IsFilled form vs text → of_three f vs ≡ Some x → P
      by [] is made = absurd (none-some x made)
      by (a ∷ []) is made = absurd (none-some x made)
      by (a ∷ (b ∷ [])) is made = absurd (none-some x made)
      by (a ∷ (b ∷ (c ∷ []))) is made = more a b c is.fit is.spelled (same_Some (f a b c) x made)
      by (a ∷ (b ∷ (c ∷ (d ∷ vs)))) is made = absurd (none-some x made)

  pub four_is : (f : ℕ → ℕ → ℕ → ℕ → X) → four form f text ≡ Some x
      → ((a b c d : ℕ) → fits form (a ∷ b ∷ c ∷ d ∷ []) ≡ true → text ≡ spell (filled form (a ∷ b ∷ c ∷ d ∷ [])) → f a b c d ≡ x → P) → P
  four_is f e more = option_and_then_some (λ vs. of_four f vs) (read form text) x e (λ vs found made. by vs (read_is form text vs sound found) made)
    where
      by : (vs : List ℕ) → IsFilled form vs text → of_four f vs ≡ Some x → P
      by [] is made = absurd (none-some x made)
      by (a ∷ []) is made = absurd (none-some x made)
      by (a ∷ (b ∷ [])) is made = absurd (none-some x made)
      by (a ∷ (b ∷ (c ∷ []))) is made = absurd (none-some x made)
      by (a ∷ (b ∷ (c ∷ (d ∷ [])))) is made = more a b c d is.fit is.spelled (same_Some (f a b c d) x made)
      by (a ∷ (b ∷ (c ∷ (d ∷ (z ∷ vs))))) is made = absurd (none-some x made)
