-- Words and groups of digits, written and read.
use Rattle.std.proofs.Common.{◌≡◌, ℕ, ◌==◌, ◌^◌, ◌<◌, Bool, true, false, List, [], ◌∷◌, ◌++◌, length, take, drop, Option, Some, None, option_map, option_and_then, if◌then◌else◌, refl, sym, ap, ◌∙◌, arith, append-nil}
use Rattle.std.proofs.lemmas.Bool.{eqb-true, eq-eqb}
use Rattle.std.proofs.lemmas.List.{take_at, drop_at, take-append-drop}
use Rattle.std.proofs.lemmas.Option.{none-some, same_Some, option_and_then_some}
use Rattle.hp_model.specs.Text.{hex}
use Rattle.hp_config.specs.Script.{past, number, space, one, front, two, three, hex_onto}
use Rattle.hp_config.proofs.HexText.{length-hex, hex_onto-hex, IsOnto, hex_onto_is}

-- a word is found where it was written
pub past-word : (word text : List ℕ) → past word (word ++ text) ≡ Some text
unfolding past
past-word [] text = refl
past-word (c ∷ word) text = rw (eq-eqb c c refl) (past-word word text)

-- and was written where it is found
pub past_is : (word text rest : List ℕ) → past word text ≡ Some rest → text ≡ word ++ rest
unfolding past
past_is [] text rest e = same_Some text rest e
past_is (c ∷ word) [] rest e = absurd (none-some rest e)
past_is (c ∷ word) (b ∷ text) rest e =
    let (same, more) = found (c == b) e in
    rw (eqb-true c b same, past_is word text rest more) refl
  where
    found : (t : Bool) → (if t then past word text else None) ≡ Some rest → (t ≡ true) × (past word text ≡ Some rest)
    found true e = (refl, e)
    found false e = absurd (none-some rest e)

-- a test that was passed
passed : {X : Type 0} (t : Bool) (o : Option X) (x : X) → (if t then o else None) ≡ Some x → (t ≡ true) × (o ≡ Some x)
passed true o x e = (refl, e)
passed false o x e = absurd (none-some x e)

pub mapped : {X Y P : Type 0} (f : X → Y) (o : Option X) (y : Y) → option_map f o ≡ Some y → ((x : X) → o ≡ Some x → f x ≡ y → P) → P
mapped f None y e more = absurd (none-some y e)
mapped f (Some x) y e more = more x refl (same_Some (f x) y e)

-- the text is the number in so many digits
pub record IsNumber (n x : ℕ) (text : List ℕ) : Type 0 where
  pub below : x < 16 ^ n
  pub spelled : text ≡ hex n x

number-hex : (n x : ℕ) → x < 16 ^ n → number n (hex n x) ≡ Some x
unfolding number
number-hex n x h = rw (eq-eqb (length (hex n x)) n (length-hex n x)) (hex_onto-hex n x 0 h ∙ ap Some (omega arith))

number_of_onto : (n x : ℕ) (text : List ℕ) → length text ≡ n → IsOnto 0 text x → IsNumber n x text
number_of_onto n x text e onto =
    let same : x ≡ onto.low = omega (arith, onto.sum) in
    record { below = rw (same, ← e) onto.below; spelled = rw (same, ← e) onto.spelled }

number_is : (n x : ℕ) (text : List ℕ) → number n text ≡ Some x → IsNumber n x text
unfolding number
number_is n x text e =
    let (long, read) = passed (length text == n) (hex_onto 0 text) x e in
    number_of_onto n x text (eqb-true (length text) n long) (hex_onto_is text 0 x read)

-- a space and a number, to the end
abbrev pub one_text : ℕ → ℕ → List ℕ
one_text n x = space ++ (hex n x ++ [])

abbrev pub front_text : ℕ → ℕ → List ℕ → List ℕ
front_text n x rest = space ++ (hex n x ++ rest)

pub record IsOne (n x : ℕ) (text : List ℕ) : Type 0 where
  pub below : x < 16 ^ n
  pub spelled : text ≡ one_text n x

pub record IsFront (n x : ℕ) (rest text : List ℕ) : Type 0 where
  pub below : x < 16 ^ n
  pub spelled : text ≡ front_text n x rest

pub one-text : (n x : ℕ) → x < 16 ^ n → one n (one_text n x) ≡ Some x
unfolding one
one-text n x h = ap (option_and_then (number n)) (past-word space (hex n x ++ [])) ∙ rw append-nil (number-hex n x h)

pub one_is : (n x : ℕ) (text : List ℕ) → one n text ≡ Some x → IsOne n x text
unfolding one
one_is n x text e = option_and_then_some (number n) (past space text) x e
    (λ rest found read. let number = number_is n x rest read in
    record { below = number.below; spelled = past_is space text rest found ∙ ap (λ r. space ++ r) (number.spelled ∙ sym (append-nil (hex n x))) })

pub front-text : (n x : ℕ) (rest : List ℕ) → x < 16 ^ n → front n (front_text n x rest) ≡ Some (x, rest)
unfolding front
front-text n x rest h =
    ap (option_and_then (λ r. option_map (λ y. (y, drop n r)) (number n (take n r)))) (past-word space (hex n x ++ rest))
    ∙ rw (take_at (hex n x) rest n (length-hex n x), drop_at (hex n x) rest n (length-hex n x), number-hex n x h) refl

pub front_is : (n x : ℕ) (rest text : List ℕ) → front n text ≡ Some (x, rest) → IsFront n x rest text
unfolding front
front_is n x rest text e = option_and_then_some (λ r. option_map (λ y. (y, drop n r)) (number n (take n r))) (past space text) (x, rest) e
    (λ r found read. mapped (λ y. (y, drop n r)) (number n (take n r)) (x, rest) read
    (λ y digits same.
    let number = number_is n y (take n r) digits in
    let first : y ≡ x = ap (λ p. p.0) same in
    let last : drop n r ≡ rest = ap (λ p. p.1) same in
    record {
      below = rw (← first) number.below;
      spelled = past_is space text r found ∙ ap (λ r. space ++ r) (sym (take-append-drop n r) ∙ rw (number.spelled, first, last) refl);
    }))

-- two and three numbers
abbrev pub two_text : ℕ → ℕ → ℕ → ℕ → List ℕ
two_text a b x y = front_text a x (one_text b y)

abbrev pub three_text : ℕ → ℕ → ℕ → ℕ → ℕ → ℕ → List ℕ
three_text a b c x y z = front_text a x (two_text b c y z)

pub record IsTwo (a b x y : ℕ) (text : List ℕ) : Type 0 where
  pub first : x < 16 ^ a
  pub last : y < 16 ^ b
  pub spelled : text ≡ two_text a b x y

pub record IsThree (a b c x y z : ℕ) (text : List ℕ) : Type 0 where
  pub first : x < 16 ^ a
  pub next : y < 16 ^ b
  pub last : z < 16 ^ c
  pub spelled : text ≡ three_text a b c x y z

pub two-text : (a b x y : ℕ) → x < 16 ^ a → y < 16 ^ b → two a b (two_text a b x y) ≡ Some (x, y)
unfolding two
two-text a b x y h k = rw (front-text a x (one_text b y) h, one-text b y k) refl

pub two_is : (a b x y : ℕ) (text : List ℕ) → two a b text ≡ Some (x, y) → IsTwo a b x y text
unfolding two
two_is a b x y text e = option_and_then_some (λ p. option_map (λ y. (p.0, y)) (one b p.1)) (front a text) (x, y) e
    (λ p found read. mapped (λ y. (p.0, y)) (one b p.1) (x, y) read
    (λ z digits same.
    let fore = front_is a p.0 p.1 text found in
    let aft = one_is b z p.1 digits in
    let first : p.0 ≡ x = ap (λ p. p.0) same in
    let last : z ≡ y = ap (λ p. p.1) same in
    record { first = rw (← first) fore.below; last = rw (← last) aft.below; spelled = rw (fore.spelled, aft.spelled, first, last) refl }))

pub three-text : (a b c x y z : ℕ) → x < 16 ^ a → y < 16 ^ b → z < 16 ^ c → three a b c (three_text a b c x y z) ≡ Some (x, y, z)
unfolding three
three-text a b c x y z h k m = rw (front-text a x (two_text b c y z) h, two-text b c y z k m) refl

pub three_is : (a b c x y z : ℕ) (text : List ℕ) → three a b c text ≡ Some (x, y, z) → IsThree a b c x y z text
unfolding three
three_is a b c x y z text e = option_and_then_some (λ p. option_map (λ q. (p.0, q.0, q.1)) (two b c p.1)) (front a text) (x, y, z) e
    (λ p found read. mapped (λ q. (p.0, q.0, q.1)) (two b c p.1) (x, y, z) read
    (λ q digits same.
    let fore = front_is a p.0 p.1 text found in
    let aft = two_is b c q.0 q.1 p.1 digits in
    let first : p.0 ≡ x = ap (λ t. t.0) same in
    let next : q.0 ≡ y = ap (λ t. t.1) same in
    let last : q.1 ≡ z = ap (λ t. t.2) same in
    record {
      first = rw (← first) fore.below;
      next = rw (← next) aft.first;
      last = rw (← last) aft.last;
      spelled = rw (fore.spelled, aft.spelled, first, next, last) refl;
    }))
