-- Host events by turn: those of a turn are at the front of what the turns before it left.
use Rattle.std.proofs.Common.{◌≡◌, ℕ, suc, ◌+◌, ◌<◌, ◌≤◌, Bool, true, false, not, ◌&&◌, ◌==◌, nat_lt, List, [], ◌∷◌, length, map, filter, slice_index_or, refl, sym, ◌∙◌, ap, subst, eq-eqb, eqb-true, ltb-true, ltb-false, ◌≢◌, arith, cond, if◌then◌else◌}
use Rattle.std.proofs.lemmas.Bool.{ne_eqb, eqb-false}
use Rattle.std.specs.Ordering.{is_lt, nat_cmp}
use Rattle.std.specs.declared.cmp.Ordering.TheVariants.{Less, Equal, Greater}
use Rattle.std.specs.List.Sorted.{IsNonDecreasingBy, ties, IsStableByKey}
use Rattle.hp_model.specs.declared.entries.Actor.{Actor}
use Rattle.hp_model.specs.declared.entries.Actor.TheVariants as actor
use Rattle.hp_model.specs.declared.files.HostEvent.{HostEvent}
use Rattle.hp_top.specs.Turns.{due, past, at_turn, turn_of, Rises}

is_lt-is : (x y : ℕ) → is_lt (nat_cmp x y) ≡ nat_lt x y
is_lt-is x y = by (nat_lt x y) (x == y)
  where
    by : (b c : Bool) → is_lt (cond b Less (cond c Equal Greater)) ≡ b
    by true c = refl
    by false true = refl
    by false false = refl

neither : (t y : ℕ) → (not (nat_lt t y) && not (nat_lt y t)) ≡ (y == t)
neither t y = by (nat_lt t y) refl (nat_lt y t) refl
  where
    by : (b : Bool) → nat_lt t y ≡ b → (c : Bool) → nat_lt y t ≡ c → (not b && not c) ≡ (y == t)
    by true below c e = sym (ne_eqb y t (λ same. omega (arith, ltb-true t y below)))
    by false b true above = sym (ne_eqb y t (λ same. omega (arith, ltb-true y t above)))
    by false b false c = sym (eq-eqb y t (omega (arith, ltb-false t y b, ltb-false y t c)))

tie-is : (t y : ℕ) → (not (is_lt (nat_cmp t y)) && not (is_lt (nat_cmp y t))) ≡ (y == t)
tie-is t y = rw (is_lt-is t y, is_lt-is y t) (neither t y)

filter-same : (q r : HostEvent → Bool) → ((h : HostEvent) → q h ≡ r h) → (hs : List HostEvent) → filter q hs ≡ filter r hs
filter-same q r same [] = refl
filter-same q r same (h ∷ hs) = ap (λ b. if b then h ∷ filter q hs else filter q hs) (same h) ∙ ap (λ xs. if r h then h ∷ xs else xs) (filter-same q r same hs)

-- a stable sort by turn keeps the events of each turn
pub at_turn-sorted : (hs sorted : List HostEvent) → IsStableByKey (λ h. h.turn) nat_cmp hs sorted → (turn : ℕ) → at_turn turn sorted ≡ at_turn turn hs
at_turn-sorted hs sorted stable turn =
    ap (map (λ h. h.actor)) (sym (filter-same _ _ tie sorted) ∙ stable event ∙ filter-same _ _ tie hs)
  where
    event : HostEvent
    event = record { turn = turn; actor = actor.Insert 0 }

    tie : (h : HostEvent) → ties (λ x y. is_lt (nat_cmp x.turn y.turn)) event h ≡ (h.turn == turn)
    tie h = tie-is turn h.turn

module _ {X : Type 0} (key : X → ℕ) where
  -- from the order by places
  pub rises : (n : ℕ) (xs : List X) → ((d : X) → 0 < length xs → n ≤ key (slice_index_or xs 0 d)) → IsNonDecreasingBy key xs → Rises key n xs
  rises n [] first order = tt
  rises n (x ∷ xs) first order =
      (first x (omega arith), rises (key x) xs (λ d more. order 0 1 d (omega arith) (omega arith)) (λ i j d up within. order (suc i) (suc j) d (omega arith) (omega arith)))

  pub lower : (m n : ℕ) (xs : List X) → m ≤ n → Rises key n xs → Rises key m xs
  lower m n [] below up = tt
  lower m n (x ∷ xs) below up = (omega (arith, up.0, below), up.1)

-- those of a turn before the first are none
at_turn-none : (m n : ℕ) (hs : List HostEvent) → Rises turn_of m hs → n < m → at_turn n hs ≡ []
at_turn-none m n [] up below = refl
at_turn-none m n (h ∷ hs) up below = rw (ne_eqb h.turn n (λ same. omega (arith, up.0, below))) (at_turn-none h.turn n hs up.1 (omega (arith, up.0, below)))

-- those of the first turn are at the front
pub due-is : (n : ℕ) (hs : List HostEvent) → Rises turn_of n hs → due n hs ≡ at_turn n hs
due-is n [] up = refl
due-is n (h ∷ hs) up = by (due-is n hs) (h.turn == n) refl
  where
    by : (Rises turn_of n hs → due n hs ≡ at_turn n hs) → (b : Bool) → (h.turn == n) ≡ b → due n (h ∷ hs) ≡ at_turn n (h ∷ hs)
    by more true e = rw e (ap (λ (xs : List Actor). h.actor ∷ xs) (more (subst (λ (m : ℕ). Rises turn_of m hs) (eqb-true h.turn n e) up.1)))
    by more false e = rw e (sym (at_turn-none h.turn n hs up.1 (let other : h.turn ≢ n = eqb-false h.turn n e in omega (arith, up.0, other))))

-- and what is after them keeps those of each later turn
pub past-at : (n t : ℕ) (hs : List HostEvent) → n < t → at_turn t (past n hs) ≡ at_turn t hs
past-at n t [] below = refl
past-at n t (h ∷ hs) below = by (past-at n t hs below) (h.turn == n) refl
  where
    by : at_turn t (past n hs) ≡ at_turn t hs → (b : Bool) → (h.turn == n) ≡ b → at_turn t (past n (h ∷ hs)) ≡ at_turn t (h ∷ hs)
    by more true e = rw e (rw (ne_eqb h.turn t (λ same. omega (arith, eqb-true h.turn n e, below))) more)
    by more false e = rw e refl

pub past-rises : (n : ℕ) (hs : List HostEvent) → Rises turn_of n hs → Rises turn_of (n + 1) (past n hs)
past-rises n [] up = tt
past-rises n (h ∷ hs) up = by (past-rises n hs) (h.turn == n) refl
  where
    by : (Rises turn_of n hs → Rises turn_of (n + 1) (past n hs)) → (b : Bool) → (h.turn == n) ≡ b → Rises turn_of (n + 1) (past n (h ∷ hs))
    by more true e = subst (λ (c : Bool). Rises turn_of (n + 1) (if c then past n hs else h ∷ hs)) (sym e) (more (subst (λ (m : ℕ). Rises turn_of m hs) (eqb-true h.turn n e) up.1))
    by more false e = subst (λ (c : Bool). Rises turn_of (n + 1) (if c then past n hs else h ∷ hs)) (sym e) (let other : h.turn ≢ n = eqb-false h.turn n e in (omega (arith, up.0, other), up.1))
