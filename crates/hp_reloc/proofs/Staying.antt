-- Slots stay with their APIC IDs.
use Rattle.std.proofs.Common.{◌≡◌, ℕ, Bool, true, false, ◌==◌, ◌+◌, ◌<◌, cond, List, [], ◌∷◌, ◌++◌, length, get_or, Some, None, refl, sym, ◌∙◌, add-one, arith}
use Rattle.std.specs.Prelude.{◌≢◌, if◌then◌else◌, slice_set}
use Rattle.std.proofs.lemmas.Bool.{eqb-true}
use Rattle.std.proofs.lemmas.Bool.Decides.{nat_tests}
use Rattle.std.proofs.lemmas.Grind.{common_steps}
use Rattle.std.proofs.lemmas.List.{get_or-set_same}
use Rattle.hp_model.specs.Block.{is_in}
use Rattle.hp_model.specs.Slots.{Slots, bind, completed, forgotten, is_known, slot_among, slot_in}
use Rattle.hp_reloc.proofs.Places.{place_in}

-- one more at the end
in_grown : (xs ys : List ℕ) (a : ℕ) → is_in a xs ≡ true → is_in a (xs ++ ys) ≡ true
in_grown [] ys a e = absurd cc
in_grown (x ∷ xs) ys a e = grind (arith, nat_tests, in_grown xs ys a)

place_grown : (xs ys : List ℕ) (a : ℕ) → is_in a xs ≡ true → slot_among (xs ++ ys) a ≡ slot_among xs a
place_grown [] ys a e = absurd cc
place_grown (x ∷ xs) ys a e = grind (arith, nat_tests, place_grown xs ys a)

-- a slot is that of an APIC ID that is bound
pub record HasSlot (bound : List ℕ) (a k : ℕ) : Type 0 where
  pub among : is_in a bound ≡ true
  pub place : slot_among bound a ≡ k

has_slot : (bound : List ℕ) (a k : ℕ) → (if is_in a bound then Some (slot_among bound a) else None) ≡ Some k → HasSlot bound a k
has_slot bound a k e = by_test (is_in a bound) refl e
  where
    by_test : (b : Bool) → is_in a bound ≡ b → cond b (Some (slot_among bound a)) None ≡ Some k → HasSlot bound a k
    by_test true f g = record { among = f; place = cc }
    by_test false f g = absurd cc

slot_grown : (bound ys : List ℕ) (a k : ℕ) → (if is_in a bound then Some (slot_among bound a) else None) ≡ Some k →
    (if is_in a (bound ++ ys) then Some (slot_among (bound ++ ys) a) else None) ≡ Some k
slot_grown bound ys a k e =
    let h = has_slot bound a k e in
    rw (in_grown bound ys a h.among, place_grown bound ys a h.among, h.place) refl

pub bind_stays : (s : Slots) (a b k : ℕ) → slot_in s a ≡ Some k → slot_in (bind b s) a ≡ Some k
bind_stays s a b k e = by_test (is_in b s.bound)
  where
    by_test : (t : Bool) → slot_in (cond t s (record s { bound = s.bound ++ b ∷ []; known = s.known ++ false ∷ [] })) a ≡ Some k
    by_test true = e
    by_test false = slot_grown s.bound (b ∷ []) a k e

pub completed_stays : (s : Slots) (a b k : ℕ) → slot_in s a ≡ Some k → slot_in (completed b s) a ≡ Some k
completed_stays s a b k e = e

pub forgotten_stays : (s : Slots) (a b k : ℕ) → slot_in s a ≡ Some k → slot_in (forgotten b s) a ≡ Some k
forgotten_stays s a b k e = e

pub ruleset stays = (bind_stays, completed_stays, forgotten_stays)

same_place : (xs : List ℕ) (a b : ℕ) → is_in a xs ≡ true → is_in b xs ≡ true → slot_among xs a ≡ slot_among xs b → a ≡ b
same_place [] a b e f p = absurd cc
same_place (x ∷ xs) a b e f p = grind (arith, nat_tests, same_place xs a b)

pub own_slot : (s : Slots) (a b k : ℕ) → slot_in s a ≡ Some k → slot_in s b ≡ Some k → a ≡ b
own_slot s a b k e f =
    let h = has_slot s.bound a k e in
    let g = has_slot s.bound b k f in
    same_place s.bound a b h.among g.among (h.place ∙ sym g.place)

pub slot_is_below : (s : Slots) (a k : ℕ) → slot_in s a ≡ Some k → k < length s.bound
slot_is_below s a k e =
    let h = has_slot s.bound a k e in
    omega (arith, h.place, place_in s.bound a h.among)

pub ruleset own = (own_slot, slot_is_below)

-- known bits and places, with one more false bit
known_grown : (xs : List ℕ) (bs : List Bool) (a b : ℕ) → length bs ≡ length xs → is_in b xs ≡ false →
    get_or (bs ++ false ∷ []) (slot_among (xs ++ b ∷ []) a) false ≡ get_or bs (slot_among xs a) false
known_grown [] [] a b same out = grind (arith, nat_tests, common_steps)
known_grown [] (c ∷ cs) a b same out = absurd (omega (arith, same))
known_grown (x ∷ xs) [] a b same out = absurd (omega (arith, same))
known_grown (x ∷ xs) (c ∷ cs) a b same out = by_head (x == a) (known_grown xs cs a b (omega (arith, same)) (grind (arith, nat_tests)))
  where
    by_head : (t : Bool) → get_or (cs ++ false ∷ []) (slot_among (xs ++ b ∷ []) a) false ≡ get_or cs (slot_among xs a) false →
        get_or (c ∷ (cs ++ false ∷ [])) (cond t 0 (slot_among (xs ++ b ∷ []) a + 1)) false ≡ get_or (c ∷ cs) (cond t 0 (slot_among xs a + 1)) false
    by_head true h = refl
    by_head false h = rw (add-one (slot_among (xs ++ b ∷ []) a), add-one (slot_among xs a)) h

pub bind_knows : (s : Slots) (a b : ℕ) → length s.known ≡ length s.bound → is_known (bind b s) a ≡ is_known s a
bind_knows s a b same = by_test (is_in b s.bound) refl
  where
    by_test : (t : Bool) → is_in b s.bound ≡ t → is_known (cond t s (record s { bound = s.bound ++ b ∷ []; known = s.known ++ false ∷ [] })) a ≡ is_known s a
    by_test true f = refl
    by_test false f = known_grown s.bound s.known a b same f

pub completed_knows : (s : Slots) (a k : ℕ) → length s.known ≡ length s.bound → slot_in s a ≡ Some k → is_known (completed a s) a ≡ true
completed_knows s a k same e =
    let h = has_slot s.bound a k e in
    get_or-set_same s.known (slot_among s.bound a) true false (omega (arith, same, place_in s.bound a h.among))

pub forgotten_knows : (s : Slots) (a k : ℕ) → length s.known ≡ length s.bound → slot_in s a ≡ Some k → is_known (forgotten a s) a ≡ false
forgotten_knows s a k same e =
    let h = has_slot s.bound a k e in
    get_or-set_same s.known (slot_among s.bound a) false false (omega (arith, same, place_in s.bound a h.among))

-- a bit that is set at the place of another stays
known_elsewhere : (xs : List ℕ) (bs : List Bool) (a b : ℕ) (t : Bool) → length bs ≡ length xs → a ≢ b →
    get_or (slice_set bs (slot_among xs b) t) (slot_among xs a) false ≡ get_or bs (slot_among xs a) false
known_elsewhere [] [] a b t same apart = refl
known_elsewhere [] (c ∷ cs) a b t same apart = absurd (omega (arith, same))
known_elsewhere (x ∷ xs) [] a b t same apart = absurd (omega (arith, same))
known_elsewhere (x ∷ xs) (c ∷ cs) a b t same apart = by_heads (x == a) refl (x == b) refl (known_elsewhere xs cs a b t (omega (arith, same)) apart)
  where
    by_heads : (f : Bool) → (x == a) ≡ f → (g : Bool) → (x == b) ≡ g →
        get_or (slice_set cs (slot_among xs b) t) (slot_among xs a) false ≡ get_or cs (slot_among xs a) false →
        get_or (slice_set (c ∷ cs) (cond g 0 (slot_among xs b + 1)) t) (cond f 0 (slot_among xs a + 1)) false ≡ get_or (c ∷ cs) (cond f 0 (slot_among xs a + 1)) false
    by_heads true e true d h = absurd (apart (sym (eqb-true x a e) ∙ eqb-true x b d))
    by_heads true e false d h = rw (add-one (slot_among xs b)) refl
    by_heads false e true d h = rw (add-one (slot_among xs a)) refl
    by_heads false e false d h = rw (add-one (slot_among xs b), add-one (slot_among xs a)) h

pub completed_leaves : (s : Slots) (a b : ℕ) → length s.known ≡ length s.bound → a ≢ b → is_known (completed b s) a ≡ is_known s a
completed_leaves s a b same apart = known_elsewhere s.bound s.known a b true same apart

pub forgotten_leaves : (s : Slots) (a b : ℕ) → length s.known ≡ length s.bound → a ≢ b → is_known (forgotten b s) a ≡ is_known s a
forgotten_leaves s a b same apart = known_elsewhere s.bound s.known a b false same apart

pub ruleset knows = (bind_knows, completed_knows, completed_leaves, forgotten_knows, forgotten_leaves)
