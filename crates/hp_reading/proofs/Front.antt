-- Words and numbers at the front of a text, written and read.
use Rattle.std.proofs.Common.{◌≡◌, ℕ, ◌+◌, ◌*◌, ◌==◌, ◌^◌, ◌<◌, ◌≤◌, nat_le, Bool, true, false, List, [], ◌∷◌, ◌++◌, length, take, drop, Option, Some, None, option_map, if◌then◌else◌, refl, sym, ap, ◌∙◌, arith}
use Rattle.std.proofs.lemmas.Bool.{eqb-true, eq-eqb, leb-true, le-leb}
use Rattle.std.proofs.lemmas.List.{take_at, drop_at, take-append-drop, length-append, length-take}
use Rattle.std.proofs.lemmas.Option.{none-some, same_Some}
use Rattle.hp_model.specs.Text.{hex}
use Rattle.hp_reading.specs.Forms.{past, hex_front, hex_onto}
use Rattle.hp_reading.proofs.HexText.{length-hex, hex_onto-hex, IsOnto, hex_onto_is}

-- a word is found where it was written
pub past-word : (word text : List ℕ) → past word (word ++ text) ≡ Some text
unfolding past
past-word [] text = refl
past-word (c ∷ word) text = rw (eq-eqb c c refl) (past-word word text)

-- and was written where it is found
pub past_is : (word text rest : List ℕ) → past word text ≡ Some rest → text ≡ word ++ rest
unfolding past
past_is [] text rest e = same_Some text rest e
past_is (c ∷ word) [] rest e = absurd (none-some rest e)
past_is (c ∷ word) (b ∷ text) rest e =
    let (same, more) = found (c == b) e in
    rw (eqb-true c b same, past_is word text rest more) refl
  where
    found : (t : Bool) → (if t then past word text else None) ≡ Some rest → (t ≡ true) × (past word text ≡ Some rest)
    found true e = (refl, e)
    found false e = absurd (none-some rest e)

-- a test that was passed
pub passed : {X : Type 0} (t : Bool) (o : Option X) (x : X) → (if t then o else None) ≡ Some x → (t ≡ true) × (o ≡ Some x)
passed true o x e = (refl, e)
passed false o x e = absurd (none-some x e)

pub mapped : {X Y P : Type 0} (f : X → Y) (o : Option X) (y : Y) → option_map f o ≡ Some y → ((x : X) → o ≡ Some x → f x ≡ y → P) → P
mapped f None y e more = absurd (none-some y e)
mapped f (Some x) y e more = more x refl (same_Some (f x) y e)

-- a hexadecimal number
pub record IsHex (n x : ℕ) (rest text : List ℕ) : Type 0 where
  pub below : x < 16 ^ n
  pub spelled : text ≡ hex n x ++ rest

pub front-hex : (n x : ℕ) (rest : List ℕ) → x < 16 ^ n → hex_front n (hex n x ++ rest) ≡ Some (x, rest)
unfolding hex_front
front-hex n x rest h =
    let long : n ≤ length (hex n x ++ rest) = omega (arith, length-append (hex n x) rest, length-hex n x) in
    let same : 0 * 16 ^ n + x ≡ x = omega arith in
    rw (le-leb n (length (hex n x ++ rest)) long, take_at (hex n x) rest n (length-hex n x), drop_at (hex n x) rest n (length-hex n x), hex_onto-hex n x 0 h, same) refl

hex_of_onto : (n x : ℕ) (text : List ℕ) → n ≤ length text → IsOnto 0 (take n text) x → IsHex n x (drop n text) text
hex_of_onto n x text h onto =
    let same : x ≡ onto.low = omega (arith, onto.sum) in
    let long : length (take n text) ≡ n = omega (arith, length-take n text) in
    record {
      below = rw same (rw long at onto.below);
      spelled = sym (take-append-drop n text) ∙ ap (λ ds. ds ++ drop n text) (onto.spelled ∙ rw (long, same) refl);
    }

pub hex_is : (n x : ℕ) (rest text : List ℕ) → hex_front n text ≡ Some (x, rest) → IsHex n x rest text
unfolding hex_front
hex_is n x rest text e =
    let (long, read) = passed (nat_le n (length text)) (option_map (λ v. (v, drop n text)) (hex_onto 0 (take n text))) (x, rest) e in
    mapped (λ v. (v, drop n text)) (hex_onto 0 (take n text)) (x, rest) read
    (λ v digits same.
    let first : v ≡ x = ap (λ p. p.0) same in
    let last : drop n text ≡ rest = ap (λ p. p.1) same in
    rw (← first, ← last) (hex_of_onto n v text (leb-true n (length text) long) (hex_onto_is (take n text) 0 v digits)))
