-- Which accesses have a byte in a range, and which are holes.
use Rattle.std.proofs.Common.{◌≡◌, ◌⊎◌, inl, inr, ℕ, zero, suc, Bool, true, false, Some, None, ◌&&◌, ◌||◌, not, ◌+◌, ◌<◌, ◌≤◌, refl, subst, arith}
use Rattle.std.specs.Prelude.{nat_lt, nat_le}
use Rattle.std.proofs.lemmas.Grind.{common_steps}
use Rattle.std.proofs.lemmas.Bool.{false≢true, or_cases, or_left, or_right, cases_lt}
use Rattle.std.proofs.lemmas.Bool.Decides.{nat_tests}
use Rattle.hp_model.specs.declared.spans.Span.{Span}
use Rattle.hp_model.specs.View.{Locks, is_hidden, is_hole, is_locked}
use Rattle.hp_smram.specs.Reach.{HidesSome, has_byte}
use Rattle.hp_smram.specs.Spans.{is_in_some}

span_more : (from to x n : ℕ) →
    has_byte (λ y. nat_le from y && nat_le y to) x (suc n) ≡ (nat_le from to && (nat_le x to && nat_lt from (x + suc n)))
unfolding has_byte
span_more from to x zero = grind (arith, nat_tests)
span_more from to x (suc n) = rw (span_more from to (x + 1) n) (grind (arith, nat_tests))

-- an access and a range have a byte in common exactly where neither ends before the other begins
in_range : (from to x n : ℕ) → 0 < n → has_byte (λ y. nat_le from y && nat_le y to) x n ≡ (nat_le from to && (nat_le x to && nat_lt from (x + n)))
in_range from to x zero h = absurd (omega (arith, h))
in_range from to x (suc n) h = span_more from to x n

pub in_some : (s : Span) (x n : ℕ) → 0 < n → has_byte (is_in_some (Some s)) x n ≡ (nat_le s.from s.to && (nat_le x s.to && nat_lt s.from (x + n)))
in_some s x n h = in_range s.from s.to x n h

pub in_none : (x n : ℕ) → has_byte (is_in_some None) x n ≡ false
unfolding has_byte
in_none x zero = refl
in_none x (suc n) = in_none (x + 1) n

pub ruleset within_span = (in_some, in_none)

past_more : (low x n : ℕ) → has_byte (nat_le low) x (suc n) ≡ nat_lt low (x + suc n)
unfolding has_byte
past_more low x zero = grind (arith, nat_tests)
past_more low x (suc n) = rw (past_more low (x + 1) n) (grind (arith, nat_tests))

pub past : (low x n : ℕ) → 0 < n → has_byte (nat_le low) x n ≡ nat_lt low (x + n)
past low x zero h = absurd (omega (arith, h))
past low x (suc n) h = past_more low x n

shuffled : (p h m P H : Bool) → ((p || (m && h)) || (P || (m && H))) ≡ ((p || P) || (m && (h || H)))
shuffled p h m P H = grind (arith, common_steps)

-- a hole has a byte past RAM or, outside SMM, one in a locked range
pub hole_parts : (l : Locks) (in_smm : Bool) (x n : ℕ) →
    is_hole l in_smm x n ≡ (has_byte (nat_le l.low_memory) x n || (not in_smm && has_byte (is_locked l) x n))
unfolding has_byte is_hole
hole_parts l in_smm x zero = grind (arith, common_steps)
hole_parts l in_smm x (suc n) =
    rw (hole_parts l in_smm (x + 1) n)
    (shuffled (nat_le l.low_memory x) (is_locked l x) (not in_smm) (has_byte (nat_le l.low_memory) (x + 1) n) (has_byte (is_locked l) (x + 1) n))

pub hole_from : (l : Locks) (in_smm : Bool) (x n : ℕ) → HidesSome l in_smm x n → is_hole l in_smm x n ≡ true
unfolding is_hole
hole_from l in_smm x zero h = absurd (omega (arith, h.from, h.to))
hole_from l in_smm x (suc n) h = by_place (hole_from l in_smm (x + 1) n) (cases_lt x h.byte)
  where
    by_place : (HidesSome l in_smm (x + 1) n → is_hole l in_smm (x + 1) n ≡ true) → (x < h.byte) ⊎ (h.byte ≤ x) →
        is_hidden l in_smm x || is_hole l in_smm (x + 1) n ≡ true
    by_place later (inl after) =
        or_right (is_hidden l in_smm x) (is_hole l in_smm (x + 1) n)
        (later (record { byte = h.byte; from = omega (arith, after); to = omega (arith, h.to); hidden = h.hidden }))
    by_place later (inr here) =
        let same : h.byte ≡ x = omega (arith, here, h.from) in
        or_left (is_hidden l in_smm x) (is_hole l in_smm (x + 1) n) (subst (λ (y : ℕ). is_hidden l in_smm y ≡ true) same h.hidden)

pub hole_names : (l : Locks) (in_smm : Bool) (x n : ℕ) → is_hole l in_smm x n ≡ true → HidesSome l in_smm x n
unfolding is_hole
hole_names l in_smm x zero h = absurd (false≢true h)
hole_names l in_smm x (suc n) h = by_place (hole_names l in_smm (x + 1) n) (or_cases (is_hidden l in_smm x) (is_hole l in_smm (x + 1) n) h)
  where
    by_place : (is_hole l in_smm (x + 1) n ≡ true → HidesSome l in_smm (x + 1) n) →
        (is_hidden l in_smm x ≡ true) ⊎ (is_hole l in_smm (x + 1) n ≡ true) → HidesSome l in_smm x (suc n)
    by_place later (inl here) = record { byte = x; from = omega arith; to = omega arith; hidden = here }
    by_place later (inr after) =
        let found = later after in
        record { byte = found.byte; from = omega (arith, found.from); to = omega (arith, found.to); hidden = found.hidden }

pub ruleset hole_bytes = (hole_from, hole_names)
