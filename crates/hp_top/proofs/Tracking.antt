-- What the stalls that have begun say, and those that haven't.
use Rattle.std.proofs.Common.{◌≡◌, ℕ, ◌+◌, ◌<◌, ◌≤◌, Bool, true, false, ◌&&◌, ◌||◌, ◌==◌, nat_lt, nat_le, List, [], ◌∷◌, length, slice_index_or, slice_set, refl, sym, ◌∙◌, ap, subst, eqb-true, ltb-true, ltb-false, leb-true, leb-false, lt-ltb, le-ltb, le-leb, ◌≢◌, arith, if◌then◌else◌}
use Rattle.std.proofs.lemmas.Bool.{eqb-false, lt-leb}
use Rattle.std.proofs.lemmas.List.{get_or-set_same, get_or-set_other, length-set}
use Rattle.hp_model.specs.declared.files.Stall.{Stall}
use Rattle.hp_model.specs.Schedule.{is_stalled}
use Rattle.hp_top.specs.Stalls.{Stalled, Tracks, begun}
use Rattle.hp_top.specs.Turns.{Rises, start_of}
use Rattle.hp_top.proofs.Rising.{lower}

and-false : (b : Bool) → (b && false) ≡ false
and-false true = refl
and-false false = refl

or-false : (b : Bool) → (b || false) ≡ b
or-false true = refl
or-false false = refl

-- none of these has begun
pub none_yet : (n turn k : ℕ) (ss : List Stall) → Rises start_of n ss → turn < n → is_stalled ss k turn ≡ false
none_yet n turn k [] up before = refl
none_yet n turn k (s ∷ ss) up before =
    rw (lt-leb s.from turn (omega (arith, up.0, before)), and-false (s.cpu == k)) (none_yet s.from turn k ss up.1 (omega (arith, up.0, before)))

pub none_begun : (turn : ℕ) (s : Stall) (ss : List Stall) → turn < s.from → Rises start_of 0 (s ∷ ss) → (k : ℕ) → is_stalled (s ∷ ss) k turn ≡ false
none_begun turn s ss before up k = none_yet s.from turn k (s ∷ ss) (omega arith, up.1) before

-- those after the first rise too
pub rises_after : (s : Stall) (ss : List Stall) → Rises start_of 0 (s ∷ ss) → Rises start_of 0 ss
rises_after s ss up = lower start_of 0 s.from ss (omega arith) up.1

pub count_begun : (s : Stall) (until : List ℕ) → length (begun s until) ≡ length until
count_begun s until = by (nat_le (slice_index_or until s.cpu 0) s.to)
  where
    by : (b : Bool) → length (if b then slice_set until s.cpu (s.to + 1) else until) ≡ length until
    by true = length-set until s.cpu (s.to + 1)
    by false = refl

-- the turns until the stall's last are the processor's no more
until_same : (s : Stall) (until : List ℕ) (t : ℕ) → s.cpu < length until → nat_lt t (slice_index_or (begun s until) s.cpu 0) ≡ (nat_lt t (slice_index_or until s.cpu 0) || nat_le t s.to)
until_same s until t within = by (nat_le (slice_index_or until s.cpu 0) s.to) refl
  where
    old : ℕ
    old = slice_index_or until s.cpu 0

    grown : (c d : Bool) → nat_lt t old ≡ c → nat_le t s.to ≡ d → old ≤ s.to → nat_lt t (s.to + 1) ≡ (c || d)
    grown true d e f up = lt-ltb t (s.to + 1) (omega (arith, ltb-true t old e, up))
    grown false true e f up = lt-ltb t (s.to + 1) (omega (arith, leb-true t s.to f))
    grown false false e f up = le-ltb t (s.to + 1) (omega (arith, leb-false t s.to f))

    kept : (c d : Bool) → nat_lt t old ≡ c → nat_le t s.to ≡ d → s.to < old → nat_lt t old ≡ (c || d)
    kept true d e f down = e
    kept false true e f down = absurd (omega (arith, ltb-false t old e, leb-true t s.to f, down))
    kept false false e f down = e

    by : (b : Bool) → nat_le old s.to ≡ b → nat_lt t (slice_index_or (if b then slice_set until s.cpu (s.to + 1) else until) s.cpu 0) ≡ (nat_lt t old || nat_le t s.to)
    by true up = ap (nat_lt t) (get_or-set_same until s.cpu (s.to + 1) 0 within) ∙ grown (nat_lt t old) (nat_le t s.to) refl refl (leb-true old s.to up)
    by false down = kept (nat_lt t old) (nat_le t s.to) refl refl (leb-false old s.to down)

until_other : (s : Stall) (until : List ℕ) (k : ℕ) → k ≢ s.cpu → slice_index_or (begun s until) k 0 ≡ slice_index_or until k 0
until_other s until k other = by (nat_le (slice_index_or until s.cpu 0) s.to)
  where
    by : (b : Bool) → slice_index_or (if b then slice_set until s.cpu (s.to + 1) else until) k 0 ≡ slice_index_or until k 0
    by true = get_or-set_other until s.cpu k (s.to + 1) 0 other
    by false = refl

or-assoc : (a b c : Bool) → (a || (b || c)) ≡ ((a || b) || c)
or-assoc true b c = refl
or-assoc false b c = refl

-- a stall that has begun is told by the turn after its last
pub tracks_begun : (all ss : List Stall) (turn : ℕ) (s : Stall) (until : List ℕ) → s.from ≤ turn →
    Tracks all turn (record { rest = s ∷ ss; until = until }) → Tracks all turn (record { rest = ss; until = begun s until })
tracks_begun all ss turn s until started tracks k t within later = tracks k t inside later ∙ by (s.cpu == k) refl
  where
    inside : k < length until
    inside = omega (arith, within, count_begun s until)

    first : nat_le s.from t ≡ true
    first = le-leb s.from t (omega (arith, started, later))

    by : (b : Bool) → (s.cpu == k) ≡ b → (nat_lt t (slice_index_or until k 0) || is_stalled (s ∷ ss) k t) ≡ (nat_lt t (slice_index_or (begun s until) k 0) || is_stalled ss k t)
    by true same =
        let is : s.cpu ≡ k = eqb-true s.cpu k same in
        rw (same, first) (or-assoc (nat_lt t (slice_index_or until k 0)) (nat_le t s.to) (is_stalled ss k t)
        ∙ ap (λ b. b || is_stalled ss k t)
        (subst (λ (j : ℕ). (nat_lt t (slice_index_or until j 0) || nat_le t s.to) ≡ nat_lt t (slice_index_or (begun s until) j 0)) is
        (sym (until_same s until t (omega (arith, inside, is))))))
    by false other = rw other (ap (λ (u : ℕ). nat_lt t u || is_stalled ss k t) (sym (until_other s until k (λ same. eqb-false s.cpu k other (sym same)))))

-- where none has begun that is left, the turn tells
pub told : (all : List Stall) (turn k : ℕ) (s : Stalled) → Tracks all turn s → k < length s.until → is_stalled s.rest k turn ≡ false → nat_lt turn (slice_index_or s.until k 0) ≡ is_stalled all k turn
told all turn k s tracks within none = sym (tracks k turn within (omega arith) ∙ ap (λ b. nat_lt turn (slice_index_or s.until k 0) || b) none ∙ or-false (nat_lt turn (slice_index_or s.until k 0)))

pub tracks_later : (all : List Stall) (turn : ℕ) (s : Stalled) → Tracks all turn s → Tracks all (turn + 1) s
tracks_later all turn s tracks k t within later = tracks k t within (omega (arith, later))

-- the same of what a stall's start leaves
module _ (s : Stall) (more : List Stall) (old new : Stalled) (is : old.rest ≡ s ∷ more) (rest : new.rest ≡ more) where
  pub taken_tracks : (all : List Stall) (turn : ℕ) → new.until ≡ begun s old.until → s.from ≤ turn → Tracks all turn old → Tracks all turn new
  taken_tracks all turn until started tracks =
      subst (λ (r : List Stall). Tracks all turn (record { rest = r; until = new.until })) (sym rest)
      (subst (λ (u : List ℕ). Tracks all turn (record { rest = more; until = u })) (sym until)
      (tracks_begun all more turn s old.until started (subst (λ (r : List Stall). Tracks all turn (record { rest = r; until = old.until })) is tracks)))

  pub taken_rises : Rises start_of 0 old.rest → Rises start_of 0 new.rest
  taken_rises up = subst (Rises start_of 0) (sym rest) (rises_after s more (subst (Rises start_of 0) is up))

pub ruleset tracking = (tracks_later, told)
