-- The first line feed of a text, by the places before it.
use Rattle.std.proofs.Common.{◌≡◌, ℕ, ◌+◌, ◌==◌, ◌<◌, not, Bool, true, false, List, [], ◌∷◌, ◌++◌, length, take, drop, get_or, slice_index, Option, Some, None, IfSome, refl, sym, ap, ◌∙◌, arith}
use Rattle.std.proofs.lemmas.Bool.{and_from, eqb-true}
use Rattle.std.proofs.lemmas.Grind.{get_or_tail}
use Rattle.std.proofs.lemmas.List.{drop_more, get_or-take, length-take, take-append-drop}
use Rattle.memchr.specs.Find.{IsFirstByte, is_byte}
use Rattle.hp_judge.specs.Bytes.{IsFeed, has_no_feed}

other_byte : (c : ℕ) → ((c == 10) ≡ true → ⊥) → not (c == 10) ≡ true
other_byte c never = by (c == 10) never
  where
    by : (t : Bool) → (t ≡ true → ⊥) → not t ≡ true
    by true never = absurd (never refl)
    by false never = refl

free_by_place : (text : List ℕ) → ((k : ℕ) → k < length text → (get_or text k 0 == 10) ≡ true → ⊥) → has_no_feed text ≡ true
free_by_place [] never = refl
free_by_place (c ∷ text) never =
    and_from (not (c == 10)) (has_no_feed text) (other_byte c (never 0 (omega arith)))
    (free_by_place text (λ k h is. never (k + 1) (omega (arith, h)) (ap (λ (b : ℕ). b == 10) (later k) ∙ is)))
  where
    later : (k : ℕ) → get_or (c ∷ text) (k + 1) 0 ≡ get_or text k 0
    later k = get_or_tail c text (k + 1) 0 (omega arith) ∙ ap (λ (n : ℕ). get_or text n 0) (omega arith)

pub feed_found : (text : List ℕ) (result : Option ℕ) → IsFirstByte (is_byte 10) text result → IfSome result (IsFeed text)
feed_found text None is = tt
feed_found text (Some at) is = record {
  inside = is.0.high;
  free =
      free_by_place (take at text)
      (λ k h feed. is.0.before k (omega arith) (omega (arith, h, length-take at text)) (ap (λ (b : ℕ). b == 10) (sym (get_or-take at text k 0 (omega (arith, h, length-take at text)))) ∙ feed));
  feed = drop_more text at 0 is.0.high ∙ ap (λ (b : ℕ). b ∷ drop (at + 1) text) (eqb-true (slice_index text at) 10 is.1);
}

pub no_feed_found : (text : List ℕ) (result : Option ℕ) → IsFirstByte (is_byte 10) text result → result ≡ None → has_no_feed text ≡ true
no_feed_found text None is none = free_by_place text (λ k h feed. is k (omega arith) h feed)
no_feed_found text (Some at) is none = absurd cc

-- the text is a line, its line feed, and more
pub line_and_more : (text front behind more : List ℕ) (at : ℕ) → IsFeed text at → front ≡ take at text → behind ≡ drop at text → more ≡ drop 1 behind → text ≡ front ++ 10 ∷ more
line_and_more text front behind more at is fore back later =
    let rest : more ≡ drop (at + 1) text = later ∙ ap (λ (t : List ℕ). drop 1 t) (back ∙ is.feed) in
    sym (take-append-drop at text) ∙ ap (λ (t : List ℕ). take at text ++ t) is.feed ∙ rw (fore, rest) refl
