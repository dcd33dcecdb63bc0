-- Lists of numbers: how many there are, and which are among them.
use Rattle.std.proofs.Common.{◌≡◌, ◌≤◌, ◌<◌, ◌+◌, ◌==◌, ℕ, zero, suc, Bool, true, false, cond, not, ◌&&◌, ◌||◌, nat_lt, List, [], ◌∷◌, length, get_or, refl, ap, arith, if◌then◌else◌}
use Rattle.std.specs.Prelude.{slice_index_or}
use Rattle.std.specs.List.{list_all, list_any}
use Rattle.std.proofs.lemmas.Bool.{and_parts, or_parts}
use Rattle.std.proofs.lemmas.Bool.Decides.{nat_tests}
use Rattle.std.proofs.lemmas.Grind.{common_steps}
use Rattle.hp_model.specs.Platform.{all_distinct, ascends_from, ascends_from_zero}
use Rattle.hp_model.specs.Block.{is_in}
use Rattle.hp_model.specs.Slots.{slot_among}

-- without the first x
abbrev without : ℕ → List ℕ → List ℕ
without x [] = []
without x (y ∷ ys) = if y == x then ys else y ∷ without x ys

length-without : (x : ℕ) (ys : List ℕ) → is_in x ys ≡ true → suc (length (without x ys)) ≡ length ys
length-without x [] e = absurd cc
length-without x (y ∷ ys) e = by_head (y == x) e (λ f. length-without x ys f)
  where
    by_head : (c : Bool) → (c || is_in x ys) ≡ true → (is_in x ys ≡ true → suc (length (without x ys)) ≡ length ys) → suc (length (cond c ys (y ∷ without x ys))) ≡ suc (length ys)
    by_head true e more = refl
    by_head false e more = ap suc (more e)

in_without : (x z : ℕ) (ys : List ℕ) → (z == x) ≡ false → is_in z ys ≡ true → is_in z (without x ys) ≡ true
in_without x z [] n e = absurd cc
in_without x z (y ∷ ys) n e = by_head (y == x) refl (y == z) refl e (λ f. in_without x z ys n f)
  where
    by_head : (c : Bool) → (y == x) ≡ c → (d : Bool) → (y == z) ≡ d → (d || is_in z ys) ≡ true → (is_in z ys ≡ true → is_in z (without x ys) ≡ true) → is_in z (cond c ys (y ∷ without x ys)) ≡ true
    by_head true u true v e more = absurd (grind (arith, nat_tests))
    by_head true u false v e more = e
    by_head false u true v e more = rw v refl
    by_head false u false v e more = rw v (more e)

others_in : (b : ℕ) (bs ys : List ℕ) → list_any (λ y. y == b) bs ≡ false → list_all (λ y. is_in y ys) bs ≡ true → list_all (λ y. is_in y (without b ys)) bs ≡ true
others_in b [] ys n e = refl
others_in b (z ∷ zs) ys n e =
    let parts = and_parts (is_in z ys) (list_all (λ y. is_in y ys) zs) e in
    let other = or_parts (z == b) (list_any (λ y. y == b) zs) n in
    let here = in_without b z ys other.0 parts.0 in
    rw here (others_in b zs ys other.1 parts.1)

-- distinct numbers among others are no more than those
pub pigeons : (bs ys : List ℕ) → all_distinct bs ≡ true → list_all (λ b. is_in b ys) bs ≡ true → length bs ≤ length ys
pigeons [] ys d e = omega arith
pigeons (b ∷ bs) ys d e =
    let parts = and_parts (is_in b ys) (list_all (λ b. is_in b ys) bs) e in
    let rest = distinct_rest (list_any (λ y. y == b) bs) (all_distinct bs) d in
    let few = pigeons bs (without b ys) rest.1 (others_in b bs ys rest.0 parts.1) in
    let size = length-without b ys parts.0 in
    omega (arith, few, size)
  where
    distinct_rest : (c d : Bool) → (not c && d) ≡ true → (c ≡ false) × (d ≡ true)
    distinct_rest true d e = absurd cc
    distinct_rest false d e = (refl, e)

-- numbers that ascend from above `low`, all below `count`, are so few
ascending : (low count : ℕ) (ks : List ℕ) → ascends_from low ks ≡ true → list_all (λ k. nat_lt k count) ks ≡ true → low < count → low + length ks < count
ascending low count [] up below h = omega (arith, h)
ascending low count (k ∷ ks) up below h = grind (arith, nat_tests, common_steps, ascending k count ks)

pub few_ascend : (count : ℕ) (ks : List ℕ) → ascends_from_zero ks ≡ true → list_all (λ k. nat_lt k count) ks ≡ true → length ks ≤ count
few_ascend count [] up below = omega arith
few_ascend count (k ∷ ks) up below = grind (arith, nat_tests, common_steps, ascending 0 count ks)

-- each of them is
pub below_at : (count : ℕ) (ks : List ℕ) (i : ℕ) → list_all (λ k. nat_lt k count) ks ≡ true → i < length ks → get_or ks i 0 < count
below_at count [] i below h = absurd (omega arith)
below_at count (k ∷ ks) zero below h = grind (arith, nat_tests, common_steps)
below_at count (k ∷ ks) (suc i) below h = below_at count ks i (grind (arith, nat_tests, common_steps)) (omega arith)

-- who stands at a place of a list is in it, and has a place in it
pub in_at : (xs : List ℕ) (k d : ℕ) → k < length xs → is_in (slice_index_or xs k d) xs ≡ true
in_at [] k d within = absurd (omega (arith, within))
in_at (x ∷ xs) zero d within = grind (arith, nat_tests, common_steps)
in_at (x ∷ xs) (suc k) d within = grind (arith, nat_tests, common_steps, in_at xs k d)

pub place_below : (ids : List ℕ) (a : ℕ) → is_in a ids ≡ true → slot_among ids a < length ids
place_below [] a e = absurd cc
place_below (b ∷ ids) a e = by_head (b == a) e (λ f. place_below ids a f)
  where
    by_head : (c : Bool) → (c || is_in a ids) ≡ true → (is_in a ids ≡ true → slot_among ids a < length ids) → cond c 0 (slot_among ids a + 1) < suc (length ids)
    by_head true e more = omega arith
    by_head false e more = let h = more e in omega (arith, h)
