-- A word at the front of a text, byte by byte.
use Rattle.std.proofs.Common.{◌≡◌, ℕ, ◌+◌, ◌==◌, ◌<◌, ◌≤◌, Bool, true, false, List, [], ◌∷◌, length, drop, get_or, Some, None, if◌then◌else◌, refl, sym, arith}
use Rattle.std.proofs.lemmas.Bool.{eq-eqb, ne_eqb}
use Rattle.std.proofs.lemmas.List.{drop_more, drop_all}
use Rattle.hp_reading.specs.Forms.{past}

-- a text that is shorter
pub past_short : (word text : List ℕ) → length text < length word → past word text ≡ None
unfolding past
past_short [] text h = absurd (omega (arith, h))
past_short (c ∷ word) [] h = refl
past_short (c ∷ word) (b ∷ text) h = by (c == b) (past_short word text (omega (arith, h)))
  where
    by : (t : Bool) → past word text ≡ None → (if t then past word text else None) ≡ None
    by true short = short
    by false short = refl

-- the same byte stands there
pub past_more : (word text : List ℕ) (i d e : ℕ) → i < length word → i < length text → get_or text i d ≡ get_or word i e
    → past (drop i word) (drop i text) ≡ past (drop (i + 1) word) (drop (i + 1) text)
unfolding past
past_more word text i d e h g is = rw (drop_more word i e h, drop_more text i d g, is, eq-eqb (get_or word i e) (get_or word i e) refl) refl

-- another stands there
pub past_other : (word text : List ℕ) (i d e : ℕ) → i < length word → i < length text → (get_or text i d ≡ get_or word i e → ⊥)
    → past (drop i word) (drop i text) ≡ None
unfolding past
past_other word text i d e h g other = rw (drop_more word i e h, drop_more text i d g, ne_eqb (get_or word i e) (get_or text i d) (λ is. other (sym is))) refl

pub past_done : (word text : List ℕ) (i : ℕ) → length word ≤ i → past (drop i word) (drop i text) ≡ Some (drop i text)
unfolding past
past_done word text i h = rw (drop_all i word h) refl

pub ruleset word_steps = (past_short, past_more, past_other, past_done)
