-- Forms, filled and read.
use Rattle.std.proofs.Common.{◌≡◌, ℕ, ◌^◌, nat_lt, nat_le, ◌&&◌, true, List, [], ◌∷◌, ◌++◌, Some, option_map, option_and_then, refl, ap, ◌∙◌}
use Rattle.std.proofs.lemmas.Bool.{ltb-true, lt-ltb, leb-true, le-leb, and_parts, and_from}
use Rattle.std.proofs.lemmas.Option.{none-some, same_Some, option_and_then_some}
use Rattle.std.specs.Fmt.{decimal}
use Rattle.hp_model.specs.Text.{hex, spell}
use Rattle.hp_reading.specs.Forms.{past, hex_front, decimal_front, Field, literal, decimals, digits, read, filled, fits, is_clear, begins_clear, is_sound}
use Rattle.hp_reading.proofs.Decimals.{front-decimal, front_is}
use Rattle.hp_reading.proofs.Front.{past-word, past_is, mapped, front-hex, hex_is}

-- a form that begins with no digit is filled with a text that doesn't
clear-filled : (fs : List Field) (vs : List ℕ) → begins_clear fs ≡ true → is_clear (spell (filled fs vs)) ≡ true
clear-filled [] vs h = refl
clear-filled (literal [] ∷ fs) vs h = cc
clear-filled (literal (c ∷ w) ∷ fs) vs h = h
clear-filled (decimals most ∷ fs) vs h = cc
clear-filled (digits n ∷ fs) vs h = cc

-- numbers that fit are read as they were filled in
pub read-filled : (fs : List Field) (vs : List ℕ) → is_sound fs ≡ true → fits fs vs ≡ true → read fs (spell (filled fs vs)) ≡ Some vs
read-filled [] [] sound fit = refl
read-filled [] (v ∷ vs) sound fit = cc
read-filled (literal w ∷ fs) vs sound fit = ap (option_and_then (λ rest. read fs rest)) (past-word w (spell (filled fs vs))) ∙ read-filled fs vs sound fit
read-filled (decimals most ∷ fs) [] sound fit = cc
read-filled (decimals most ∷ fs) (v ∷ vs) sound fit =
    let (small, more) = and_parts (nat_lt most (2 ^ 64)) (begins_clear fs && is_sound fs) sound in
    let (clear, rest) = and_parts (begins_clear fs) (is_sound fs) more in
    let (here, later) = and_parts (nat_le v most) (fits fs vs) fit in
    ap (option_and_then (λ p. option_map (λ vs. p.0 ∷ vs) (read fs p.1)))
    (front-decimal most v (spell (filled fs vs)) (ltb-true most (2 ^ 64) small) (leb-true v most here) (clear-filled fs vs clear))
    ∙ ap (option_map (λ vs. v ∷ vs)) (read-filled fs vs rest later)
read-filled (digits n ∷ fs) [] sound fit = cc
read-filled (digits n ∷ fs) (v ∷ vs) sound fit =
    let (here, later) = and_parts (nat_lt v (16 ^ n)) (fits fs vs) fit in
    ap (option_and_then (λ p. option_map (λ vs. p.0 ∷ vs) (read fs p.1))) (front-hex n v (spell (filled fs vs)) (ltb-true v (16 ^ n) here))
    ∙ ap (option_map (λ vs. v ∷ vs)) (read-filled fs vs sound later)

-- numbers that are read fit, and the text is the form filled with them
pub record IsFilled (fs : List Field) (vs text : List ℕ) : Type 0 where
  pub fit : fits fs vs ≡ true
  pub spelled : text ≡ spell (filled fs vs)

pub read_is : (fs : List Field) (text vs : List ℕ) → is_sound fs ≡ true → read fs text ≡ Some vs → IsFilled fs vs text
read_is [] [] vs sound e = rw (← same_Some [] vs e) (record { fit = refl; spelled = refl })
read_is [] (c ∷ text) vs sound e = absurd (none-some vs e)
read_is (literal w ∷ fs) text vs sound e =
    option_and_then_some (λ rest. read fs rest) (past w text) vs e
    (λ rest found more.
    let is = read_is fs rest vs sound more in
    record { fit = is.fit; spelled = past_is w text rest found ∙ ap (λ t. w ++ t) is.spelled })
read_is (decimals most ∷ fs) text vs sound e =
    let (small, more) = and_parts (nat_lt most (2 ^ 64)) (begins_clear fs && is_sound fs) sound in
    let (clear, rest) = and_parts (begins_clear fs) (is_sound fs) more in
    option_and_then_some (λ p. option_map (λ vs. p.0 ∷ vs) (read fs p.1)) (decimal_front most text) vs e
    (λ p found others. mapped (λ vs. p.0 ∷ vs) (read fs p.1) vs others
    (λ ws later same.
    let number = front_is most p.0 p.1 text (ltb-true most (2 ^ 64) small) found in
    let is = read_is fs p.1 ws rest later in
    rw (← same) (record {
      fit = and_from (nat_le p.0 most) (fits fs ws) (le-leb p.0 most number.below) is.fit;
      spelled = number.spelled ∙ ap (λ t. decimal p.0 ++ t) is.spelled;
    })))
read_is (digits n ∷ fs) text vs sound e =
    option_and_then_some (λ p. option_map (λ vs. p.0 ∷ vs) (read fs p.1)) (hex_front n text) vs e
    (λ p found others. mapped (λ vs. p.0 ∷ vs) (read fs p.1) vs others
    (λ ws later same.
    let number = hex_is n p.0 p.1 text found in
    let is = read_is fs p.1 ws sound later in
    rw (← same) (record {
      fit = and_from (nat_lt p.0 (16 ^ n)) (fits fs ws) (lt-ltb p.0 (16 ^ n) number.below) is.fit;
      spelled = number.spelled ∙ ap (λ t. hex n p.0 ++ t) is.spelled;
    })))
