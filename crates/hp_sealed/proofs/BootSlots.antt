-- The slots at the start: the boot processors' APIC IDs are distinct possible ones.
use Rattle.std.proofs.Common.{ℕ, zero, suc, ◌≡◌, ◌+◌, ◌<◌, ◌≤◌, ◌==◌, Bool, true, false, not, ◌&&◌, ◌||◌, nat_lt, List, [], ◌∷◌, length, map, get_or, refl, sym, ap, subst, ◌∙◌, arith}
use Rattle.std.specs.Prelude.{slice_get}
use Rattle.std.specs.List.{list_all, list_any}
use Rattle.std.proofs.lemmas.Bool.{and_parts, ltb-true, or_parts}
use Rattle.std.proofs.lemmas.Bool.Decides.{nat_tests}
use Rattle.std.proofs.lemmas.List.{length-map, length-replicate}
use Rattle.hp_model.specs.declared.platforms.Platform.{Platform}
use Rattle.hp_model.specs.Platform.{all_distinct, ascends_from, count_of, apic_of}
use Rattle.hp_model.specs.Block.{is_in}
use Rattle.hp_model.specs.Slots.{slots_start, slot_among}
use Rattle.hp_model.specs.Monarch.{is_that}
use Rattle.hp_model.proofs.Counts.{in_at}
use Rattle.hp_sealed.specs.Sealed.{Placed}

-- two places of a list of distinct IDs hold two of them
none_same : (as' : List ℕ) (x k : ℕ) → list_any (λ y. y == x) as' ≡ false → k < length as' → get_or as' k 0xffffffff ≡ x → ⊥
none_same [] x k e less g = omega (arith, less)
none_same (a ∷ as') x zero e less g = by_head (a == x) refl e
  where
    by_head : (c : Bool) → (a == x) ≡ c → (c || list_any (λ y. y == x) as') ≡ false → ⊥
    by_head true u f = cc
    by_head false u f = grind (arith, nat_tests)
none_same (a ∷ as') x (suc k) e less g = none_same as' x k (rest (a == x) e) (omega (arith, less)) g
  where
    rest : (c : Bool) → (c || list_any (λ y. y == x) as') ≡ false → list_any (λ y. y == x) as' ≡ false
    rest true f = absurd cc
    rest false f = f

pub ids_differ : (as' : List ℕ) (i j : ℕ) → all_distinct as' ≡ true → i < length as' → j < length as' → get_or as' i 0xffffffff ≡ get_or as' j 0xffffffff → i ≡ j
ids_differ [] i j e li lj g = absurd (omega (arith, li))
ids_differ (a ∷ as') i j e li lj g = by_head (list_any (λ y. y == a) as') refl e i j li lj g (λ x y h u v w. ids_differ as' x y h u v w)
  where
    by_head : (c : Bool) → list_any (λ y. y == a) as' ≡ c → (not c && all_distinct as') ≡ true → (i j : ℕ) → i < suc (length as') → j < suc (length as') → get_or (a ∷ as') i 0xffffffff ≡ get_or (a ∷ as') j 0xffffffff → ((x y : ℕ) → all_distinct as' ≡ true → x < length as' → y < length as' → get_or as' x 0xffffffff ≡ get_or as' y 0xffffffff → x ≡ y) → i ≡ j
    by_head true u f i j li lj g more = absurd cc
    by_head false u f zero zero li lj g more = refl
    by_head false u f zero (suc j) li lj g more = absurd (none_same as' a j u (omega (arith, lj)) (sym g))
    by_head false u f (suc i) zero li lj g more = absurd (none_same as' a i u (omega (arith, li)) g)
    by_head false u f (suc i) (suc j) li lj g more = ap suc (more i j f (omega (arith, li)) (omega (arith, lj)) g)

-- of processors in their order, below the number of possible ones
module _ (p : Platform) (ids : all_distinct p.apic ≡ true) where
  none_later : (k low : ℕ) (bs : List ℕ) → k ≤ low → k < count_of p → ascends_from low bs ≡ true → list_all (λ b. nat_lt b (count_of p)) bs ≡ true → list_any (λ y. y == apic_of p k) (map (apic_of p) bs) ≡ false
  none_later k low [] less some up all = refl
  none_later k low (b ∷ bs) less some up all =
      let ups = and_parts (nat_lt low b) (ascends_from b bs) up in
      let alls = and_parts (nat_lt b (count_of p)) (list_all (λ b. nat_lt b (count_of p)) bs) all in
      let above = ltb-true low b ups.0 in
      let below = ltb-true b (count_of p) alls.0 in
      let rest = none_later k b bs (omega (arith, less, above)) some ups.1 alls.1 in
      let here : (apic_of p b == apic_of p k) ≡ false = apart (apic_of p b) (apic_of p k) (λ e. let i = ids_differ p.apic b k ids below some e in omega (arith, i, less, above)) in
      rw (here, rest) refl
    where
      apart : (x y : ℕ) → (x ≡ y → ⊥) → (x == y) ≡ false
      apart x y n = grind (arith, nat_tests)

  distinct_ids : (low : ℕ) (bs : List ℕ) → ascends_from low bs ≡ true → list_all (λ b. nat_lt b (count_of p)) bs ≡ true → all_distinct (map (apic_of p) bs) ≡ true
  distinct_ids low [] up all = refl
  distinct_ids low (b ∷ bs) up all =
      let ups = and_parts (nat_lt low b) (ascends_from b bs) up in
      let alls = and_parts (nat_lt b (count_of p)) (list_all (λ b. nat_lt b (count_of p)) bs) all in
      let none = none_later b b bs (omega arith) (ltb-true b (count_of p) alls.0) ups.1 alls.1 in
      rw none (distinct_ids b bs ups.1 alls.1)

  possible_ids : (bs : List ℕ) → list_all (λ b. nat_lt b (count_of p)) bs ≡ true → list_all (λ a. is_in a p.apic) (map (apic_of p) bs) ≡ true
  possible_ids [] all = refl
  possible_ids (b ∷ bs) all =
      let alls = and_parts (nat_lt b (count_of p)) (list_all (λ b. nat_lt b (count_of p)) bs) all in
      let here = in_at p.apic b 0xffffffff (ltb-true b (count_of p) alls.0) in
      rw here (possible_ids bs alls.1)

  pub placed_start : (rest : List ℕ) → p.boot ≡ 0 ∷ rest → ascends_from 0 rest ≡ true → list_all (λ b. nat_lt b (count_of p)) rest ≡ true → 1 ≤ count_of p → Placed p (slots_start p)
  placed_start rest is up all some = record {
    first = subst (λ bs. is_that (slice_get (map (apic_of p) bs) 0) (apic_of p 0) ≡ true) (sym is) (same (apic_of p 0));
    distinct = subst (λ bs. all_distinct (map (apic_of p) bs) ≡ true) (sym is) (let none = none_later 0 0 rest (omega arith) some up all in rw none (distinct_ids 0 rest up all));
    possible = subst (λ bs. list_all (λ a. is_in a p.apic) (map (apic_of p) bs) ≡ true) (sym is) (let here = in_at p.apic 0 0xffffffff some in rw here (possible_ids rest all));
    known = length-replicate (length p.boot) true ∙ sym (length-map p.boot (apic_of p));
  }
    where
      same : (n : ℕ) → (n == n) ≡ true
      same n = grind (arith, nat_tests)

-- each of these, by what f makes of it, is among the IDs, the first at place n and the others after it
abbrev pub AtPlaces : (ℕ → ℕ) → List ℕ → ℕ → List ℕ → Type 0
AtPlaces f ids n [] = Unit {0}
AtPlaces f ids n (b ∷ bs) = ((is_in (f b) ids ≡ true) × (slot_among ids (f b) ≡ n)) × AtPlaces f ids (n + 1) bs

places_more : (f : ℕ → ℕ) (x : ℕ) (ids : List ℕ) (n : ℕ) (bs : List ℕ) → list_any (λ y. y == x) (map f bs) ≡ false → AtPlaces f ids n bs → AtPlaces f (x ∷ ids) (n + 1) bs
places_more f x ids n [] e h = tt
places_more f x ids n (b ∷ bs) e h =
    let none = or_parts (f b == x) (list_any (λ y. y == x) (map f bs)) e in
    let other = turned (f b) x none.0 in
    let here = h.0.0 in
    ((rw (other, here) refl, rw other (ap (λ i. i + 1) h.0.1)), places_more f x ids (n + 1) bs none.1 h.1)
  where
    turned : (a b : ℕ) → (a == b) ≡ false → (b == a) ≡ false
    turned a b e = grind (arith, nat_tests)

pub places : (f : ℕ → ℕ) (bs : List ℕ) → all_distinct (map f bs) ≡ true → AtPlaces f (map f bs) 0 bs
places f [] d = tt
places f (b ∷ bs) d =
    let parts = distinct_rest (list_any (λ y. y == f b) (map f bs)) (all_distinct (map f bs)) d in
    let here : (f b == f b) ≡ true = same (f b) in
    ((rw here refl, rw here refl), places_more f (f b) (map f bs) 0 bs parts.0 (places f bs parts.1))
  where
    same : (n : ℕ) → (n == n) ≡ true
    same n = grind (arith, nat_tests)

    distinct_rest : (c d : Bool) → (not c && d) ≡ true → (c ≡ false) × (d ≡ true)
    distinct_rest true d e = absurd cc
    distinct_rest false d e = (refl, e)
