-- Slots stay distinct and possible when an APIC ID is bound, and a new processor's isn't slot 0.
use Rattle.std.proofs.Common.{ℕ, zero, suc, ◌≡◌, ◌+◌, ◌≤◌, ◌==◌, Bool, true, false, cond, not, ◌&&◌, ◌||◌, List, [], ◌∷◌, ◌++◌, length, Some, refl, sym, ap, subst, ◌∙◌, arith, length-set}
use Rattle.std.specs.Prelude.{slice_get, slice_index_or}
use Rattle.std.specs.List.{list_all, list_any}
use Rattle.std.proofs.lemmas.Bool.{and_parts, eqb-true}
use Rattle.std.proofs.lemmas.Bool.Decides.{nat_tests}
use Rattle.std.proofs.lemmas.Option.{same_Some}
use Rattle.hp_model.specs.declared.platforms.Platform.{Platform}
use Rattle.hp_model.specs.Platform.{all_distinct, count_of, apic_of}
use Rattle.hp_model.specs.Block.{is_in}
use Rattle.hp_model.specs.Slots.{Slots, slot_among, bind, completed, forgotten}
use Rattle.hp_model.specs.declared.reports.Report.{Report}
use Rattle.hp_model.specs.Monarch.{is_that, is_own}
use Rattle.hp_model.proofs.Counts.{pigeons, place_below}
use Rattle.hp_sealed.specs.Left.{Sound}
use Rattle.hp_sealed.specs.Sealed.{Placed}
use Rattle.hp_sealed.proofs.Left.{pick_by}
use Rattle.hp_safety.proofs.Needs.{IsSlot}
use Rattle.hp_safety.proofs.Invariant.{Holding}
use Rattle.hp_safety.proofs.Keeps.{Grows}

same : (n : ℕ) → (n == n) ≡ true
same n = grind (arith, nat_tests)

-- no more APIC IDs have a slot than are possible
pub bound_few : (p : Platform) (s : Slots) → Placed p s → length s.bound ≤ count_of p
bound_few p s h = pigeons s.bound p.apic h.distinct h.possible

-- one more at the end
pub in_end : (a : ℕ) (bs : List ℕ) → is_in a (bs ++ a ∷ []) ≡ true
in_end a [] = let s = same a in rw s refl
in_end a (b ∷ bs) = more (b == a) (is_in a (bs ++ a ∷ [])) (in_end a bs)
  where
    more : (c d : Bool) → d ≡ true → (c || d) ≡ true
    more true d e = refl
    more false d e = e

none_end : (x a : ℕ) (bs : List ℕ) → list_any (λ y. y == x) bs ≡ false → (a == x) ≡ false → list_any (λ y. y == x) (bs ++ a ∷ []) ≡ false
none_end x a [] e n = rw n refl
none_end x a (b ∷ bs) e n = by_head (b == x) e (λ f. none_end x a bs f n)
  where
    by_head : (c : Bool) → (c || list_any (λ y. y == x) bs) ≡ false → (list_any (λ y. y == x) bs ≡ false → list_any (λ y. y == x) (bs ++ a ∷ []) ≡ false) → (c || list_any (λ y. y == x) (bs ++ a ∷ [])) ≡ false
    by_head true e more = absurd cc
    by_head false e more = more e

distinct_end : (a : ℕ) (bs : List ℕ) → all_distinct bs ≡ true → is_in a bs ≡ false → all_distinct (bs ++ a ∷ []) ≡ true
distinct_end a [] d n = refl
distinct_end a (b ∷ bs) d n = by_head (list_any (λ y. y == b) bs) refl (b == a) refl d n (λ e f. distinct_end a bs e f)
  where
    turned : (a b : ℕ) → (b == a) ≡ false → (a == b) ≡ false
    turned a b e = grind (arith, nat_tests)

    by_head : (c : Bool) → list_any (λ y. y == b) bs ≡ c → (h : Bool) → (b == a) ≡ h → (not c && all_distinct bs) ≡ true → (h || is_in a bs) ≡ false → (all_distinct bs ≡ true → is_in a bs ≡ false → all_distinct (bs ++ a ∷ []) ≡ true) → (not (list_any (λ y. y == b) (bs ++ a ∷ [])) && all_distinct (bs ++ a ∷ [])) ≡ true
    by_head true u h v e f more = absurd cc
    by_head false u true v e f more = absurd cc
    by_head false u false v e f more = let none = none_end b a bs u (turned a b v) in rw none (more e f)

all_end : (ys : List ℕ) (a : ℕ) (bs : List ℕ) → list_all (λ b. is_in b ys) bs ≡ true → is_in a ys ≡ true → list_all (λ b. is_in b ys) (bs ++ a ∷ []) ≡ true
all_end ys a [] e i = rw i refl
all_end ys a (b ∷ bs) e i =
    let parts = and_parts (is_in b ys) (list_all (λ b. is_in b ys) bs) e in
    let here = parts.0 in
    rw here (all_end ys a bs parts.1 i)

first_end : (x a : ℕ) (bs : List ℕ) → is_that (slice_get bs 0) x ≡ true → is_that (slice_get (bs ++ a ∷ []) 0) x ≡ true
first_end x a [] e = absurd cc
first_end x a (b ∷ bs) e = e

length-end : {A : Type 0} (bs : List A) (a : A) → length (bs ++ a ∷ []) ≡ length bs + 1
length-end [] a = refl
length-end (b ∷ bs) a = let i = length-end bs a in omega (arith, i)

-- a possible APIC ID is bound
pub placed_bind : (p : Platform) (s : Slots) (a : ℕ) → Placed p s → is_in a p.apic ≡ true → Placed p (bind a s)
placed_bind p s a h possible =
    pick_by (λ (t : Slots). Placed p (record t { held = Some a })) (is_in a s.bound) s (record s { bound = s.bound ++ a ∷ []; known = s.known ++ false ∷ [] })
    (λ e. record { first = h.first; distinct = h.distinct; possible = h.possible; known = h.known })
    (λ e. record {
      first = first_end (apic_of p 0) a s.bound h.first;
      distinct = distinct_end a s.bound h.distinct e;
      possible = all_end p.apic a s.bound h.possible possible;
      known = length-end s.known false ∙ (ap (λ n. n + 1) h.known ∙ sym (length-end s.bound a));
    })

is_in_bind : (s : Slots) (a : ℕ) → is_in a (bind a s).bound ≡ true
is_in_bind s a = pick_by (λ (t : Slots). is_in a t.bound ≡ true) (is_in a s.bound) s (record s { bound = s.bound ++ a ∷ []; known = s.known ++ false ∷ [] }) (λ e. e) (λ e. in_end a s.bound)

-- it is known from then on
pub placed_completed : (p : Platform) (s : Slots) (a : ℕ) → Placed p s → Placed p (completed a s)
placed_completed p s a h = record { first = h.first; distinct = h.distinct; possible = h.possible; known = length-set s.known (slot_among s.bound a) true ∙ h.known }

pub placed_forgotten : (p : Platform) (s : Slots) (a : ℕ) → Placed p s → Placed p (forgotten a s)
placed_forgotten p s a h = record { first = h.first; distinct = h.distinct; possible = h.possible; known = length-set s.known (slot_among s.bound a) false ∙ h.known }

-- the place of one that is bound, and isn't processor 0's
place_some : (bs : List ℕ) (x a : ℕ) → is_that (slice_get bs 0) x ≡ true → (x == a) ≡ false → 1 ≤ slot_among bs a
place_some [] x a e n = absurd cc
place_some (b ∷ bs) x a e n = let i : b ≡ x = eqb-true b x e in rw (i, n) (omega arith)

pub place_bound : (p : Platform) (s : Slots) (a : ℕ) → Placed p s → is_in a p.apic ≡ true → (apic_of p 0 == a) ≡ false → IsSlot (count_of p) (slot_among (bind a s).bound a)
place_bound p s a h possible other =
    let t = placed_bind p s a h possible in
    let few = bound_few p (bind a s) t in
    let below = place_below (bind a s).bound a (is_in_bind s a) in
    (place_some (bind a s).bound (apic_of p 0) a t.first other, omega (arith, few, below))

-- whoever has a place keeps it
pub in_more : (x a : ℕ) (bs : List ℕ) → is_in x bs ≡ true → is_in x (bs ++ a ∷ []) ≡ true
in_more x a [] e = absurd cc
in_more x a (b ∷ bs) e = by_head (b == x) e (λ f. in_more x a bs f)
  where
    by_head : (c : Bool) → (c || is_in x bs) ≡ true → (is_in x bs ≡ true → is_in x (bs ++ a ∷ []) ≡ true) → (c || is_in x (bs ++ a ∷ [])) ≡ true
    by_head true e more = refl
    by_head false e more = more e

pub place_more : (bs : List ℕ) (x a : ℕ) → is_in x bs ≡ true → slot_among (bs ++ a ∷ []) x ≡ slot_among bs x
place_more [] x a e = absurd cc
place_more (b ∷ bs) x a e = by_head (b == x) e (λ f. place_more bs x a f)
  where
    by_head : (c : Bool) → (c || is_in x bs) ≡ true → (is_in x bs ≡ true → slot_among (bs ++ a ∷ []) x ≡ slot_among bs x) → cond c 0 (slot_among (bs ++ a ∷ []) x + 1) ≡ cond c 0 (slot_among bs x + 1)
    by_head true e more = refl
    by_head false e more = ap (λ n. n + 1) (more e)

pub grows_end : (s t : Slots) (a : ℕ) → t.bound ≡ s.bound ++ a ∷ [] → Grows s t
grows_end s t a e = record {
  still = λ x f. subst (λ bs. is_in x bs ≡ true) (sym e) (in_more x a s.bound f);
  place = λ x f. ap (λ bs. slot_among bs x) e ∙ place_more s.bound x a f;
}

pub grows_then : (s t u : Slots) → Grows s t → Grows t u → Grows s u
grows_then s t u h g = record { still = λ a e. g.still a (h.still a e); place = λ a e. g.place a (h.still a e) ∙ h.place a e }

pub grows_bind : (s : Slots) (a : ℕ) → Grows s (bind a s)
grows_bind s a =
    pick_by (λ (t : Slots). Grows s (record t { held = Some a })) (is_in a s.bound) s (record s { bound = s.bound ++ a ∷ []; known = s.known ++ false ∷ [] })
    (λ e. record { still = λ x f. f; place = λ x f. refl })
    (λ e. grows_end s (record s { bound = s.bound ++ a ∷ []; known = s.known ++ false ∷ []; held = Some a }) a refl)

-- two places, two APIC IDs
pub place_same : (bs : List ℕ) (a b : ℕ) → is_in a bs ≡ true → is_in b bs ≡ true → slot_among bs a ≡ slot_among bs b → a ≡ b
place_same [] a b e f g = absurd cc
place_same (x ∷ xs) a b e f g = by_head (x == a) refl (x == b) refl e f g (λ h i j. place_same xs a b h i j)
  where
    by_head : (c : Bool) → (x == a) ≡ c → (d : Bool) → (x == b) ≡ d → (c || is_in a xs) ≡ true → (d || is_in b xs) ≡ true → cond c 0 (slot_among xs a + 1) ≡ cond d 0 (slot_among xs b + 1) → (is_in a xs ≡ true → is_in b xs ≡ true → slot_among xs a ≡ slot_among xs b → a ≡ b) → a ≡ b
    by_head true u true v e f g more = grind (arith, nat_tests)
    by_head true u false v e f g more = absurd (omega (arith, g))
    by_head false u true v e f g more = absurd (omega (arith, g))
    by_head false u false v e f g more = more e f (omega (arith, g))

-- the one that is bound is held, in a slot that isn't slot 0
pub holding_bind : (p : Platform) (s : Slots) (a : ℕ) → Placed p s → is_in a p.apic ≡ true → (apic_of p 0 == a) ≡ false → Holding p (bind a s)
holding_bind p s a h possible other = record {
  in_bound = λ b e. subst (λ x. is_in x (bind a s).bound ≡ true) (same_Some a b e) (is_in_bind s a);
  slot = λ b e. subst (λ x. IsSlot (count_of p) (slot_among (bind a s).bound x)) (same_Some a b e) (place_bound p s a h possible other);
}

-- a bound APIC ID is a possible one, and so a small number
at_of : (as' : List ℕ) (a : ℕ) → is_in a as' ≡ true → (k : ℕ) × (slice_index_or as' k 0xffffffff ≡ a)
at_of [] a e = absurd cc
at_of (x ∷ xs) a e = by_head (x == a) refl e (λ f. at_of xs a f)
  where
    by_head : (c : Bool) → (x == a) ≡ c → (c || is_in a xs) ≡ true → (is_in a xs ≡ true → (k : ℕ) × (slice_index_or xs k 0xffffffff ≡ a)) → (k : ℕ) × (slice_index_or (x ∷ xs) k 0xffffffff ≡ a)
    by_head true u e more = (0, eqb-true x a u)
    by_head false u e more = let i = more e in (suc i.0, i.1)

all_of : (ys bs : List ℕ) (a : ℕ) → list_all (λ b. is_in b ys) bs ≡ true → is_in a bs ≡ true → is_in a ys ≡ true
all_of ys [] a all e = absurd cc
all_of ys (b ∷ bs) a all e = let parts = and_parts (is_in b ys) (list_all (λ b. is_in b ys) bs) all in by_head (b == a) refl e parts.0 (λ f. all_of ys bs a parts.1 f)
  where
    by_head : (c : Bool) → (b == a) ≡ c → (c || is_in a bs) ≡ true → is_in b ys ≡ true → (is_in a bs ≡ true → is_in a ys ≡ true) → is_in a ys ≡ true
    by_head true u e here more = subst (λ x. is_in x ys ≡ true) (eqb-true b a u) here
    by_head false u e here more = more e

pub bound_id : (p : Platform) (s : Slots) (a : ℕ) → Sound p → Placed p s → is_in a s.bound ≡ true → a ≤ 0xffffffff
bound_id p s a sound h e = let there = at_of p.apic a (all_of p.apic s.bound a h.possible e) in subst (λ x. x ≤ 0xffffffff) there.1 (sound.ids there.0)

-- a report of another processor's own APIC ID: it is possible, and isn't processor 0's
is_in_at : (as' : List ℕ) (k a : ℕ) → is_that (slice_get as' k) a ≡ true → is_in a as' ≡ true
is_in_at [] k a e = absurd cc
is_in_at (x ∷ xs) zero a e = rw e refl
is_in_at (x ∷ xs) (suc k) a e = more (x == a) (is_in a xs) (is_in_at xs k a e)
  where
    more : (c d : Bool) → d ≡ true → (c || d) ≡ true
    more true d e = refl
    more false d e = e

none_in : (x a : ℕ) (as' : List ℕ) → list_any (λ y. y == x) as' ≡ false → is_in a as' ≡ true → (x == a) ≡ false
none_in x a [] n e = absurd cc
none_in x a (y ∷ ys) n e = by_head (y == x) refl (y == a) refl n e (λ f g. none_in x a ys f g)
  where
    by_head : (c : Bool) → (y == x) ≡ c → (d : Bool) → (y == a) ≡ d → (c || list_any (λ y. y == x) ys) ≡ false → (d || is_in a ys) ≡ true → (list_any (λ y. y == x) ys ≡ false → is_in a ys ≡ true → (x == a) ≡ false) → (x == a) ≡ false
    by_head true u d v n e more = absurd cc
    by_head false u true v n e more = grind (arith, nat_tests)
    by_head false u false v n e more = more n e

pub record IsOther (p : Platform) (a : ℕ) : Type 0 where
  pub possible : is_in a p.apic ≡ true
  pub other : (apic_of p 0 == a) ≡ false

pub own_other : (p : Platform) (t : Report) → Sound p → is_own p.apic t ≡ true → IsOther p t.apic
own_other p t sound e =
    let parts = and_parts (not (t.cpu == 0)) (is_that (slice_get p.apic t.cpu) t.apic) e in
    record { possible = is_in_at p.apic t.cpu t.apic parts.1; other = by_ids p.apic t.cpu sound.distinct parts.0 parts.1 }
  where
    none_first : (c d : Bool) → (not c && d) ≡ true → c ≡ false
    none_first true d e = absurd cc
    none_first false d e = refl

    by_ids : (as' : List ℕ) (k : ℕ) → all_distinct as' ≡ true → not (k == 0) ≡ true → is_that (slice_get as' k) t.apic ≡ true → (slice_index_or as' 0 0xffffffff == t.apic) ≡ false
    by_ids [] k d z f = absurd cc
    by_ids (x ∷ xs) zero d z f = absurd cc
    by_ids (x ∷ xs) (suc k) d z f = none_in x t.apic xs (none_first (list_any (λ y. y == x) xs) (all_distinct xs) d) (is_in_at xs k t.apic f)
