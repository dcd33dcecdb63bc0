-- When an add or an eject begins.
use Rattle.std.proofs.Common.{◌≡◌, ◌≢◌, inl, inr, ℕ, suc, zero, Bool, true, false, cond, not, ◌||◌, ◌==◌, ◌≤◌, ◌<◌, List, [], ◌∷◌, Option, Some, None, length, refl, sym, ap, subst, ◌∙◌, arith}
use Rattle.std.specs.Prelude.{slice_get, slice_index_or, nat_le, bit_and}
use Rattle.std.specs.List.{list_all}
use Rattle.std.proofs.lemmas.Bool.{and_parts, eqb-true}
use Rattle.std.proofs.lemmas.Bool.Decides.{nat_tests}
use Rattle.hp_model.specs.declared.outcomes.Outcome.{Outcome}
use Rattle.hp_model.specs.Block.{is_in}
use Rattle.hp_model.specs.declared.reports.Report.{Report}
use Rattle.hp_model.specs.declared.reports.Facts.{Facts}
use Rattle.hp_model.specs.declared.reports.Decision.{Decision}
use Rattle.hp_model.specs.declared.reports.Decision.TheVariants.{Tell as ToTell, Add as ToAdd, Eject as ToEject}
use Rattle.hp_model.specs.Monarch.{decision, eject_decision, held_decision, insert_decision, is_own, is_that}
use Rattle.hp_reloc.specs.Roster.{IsFree}

-- an if that leads to this decision, which one side is not
else_is : (b : Bool) (x y k : Decision) → (x ≡ k → ⊥) → cond b x y ≡ k → y ≡ k
else_is true x y k never e = absurd (never e)
else_is false x y k never e = e

else_false : (b : Bool) (x y k : Decision) → (x ≡ k → ⊥) → cond b x y ≡ k → b ≡ false
else_false true x y k never e = absurd (never e)
else_false false x y k never e = refl

then_true : (b : Bool) (x y k : Decision) → (y ≡ k → ⊥) → cond b x y ≡ k → b ≡ true
then_true true x y k never e = refl
then_true false x y k never e = absurd (never e)

then_is : (b : Bool) (x y k : Decision) → (y ≡ k → ⊥) → cond b x y ≡ k → x ≡ k
then_is true x y k never e = e
then_is false x y k never e = absurd (never e)

not_false : (b : Bool) → not b ≡ false → b ≡ true
not_false true e = refl
not_false false e = absurd cc

-- no eject is an add, and no add an eject
eject_adds : (f : Facts) (t : Report) → eject_decision f t ≡ ToAdd → ⊥
eject_adds f t e = no (else_is (f.look == 0) _ ToEject ToAdd (λ h. cc) (else_is (not f.known) _ _ ToAdd (λ h. cc) (else_is (not (bit_and f.features 4 == 4)) _ _ ToAdd (λ h. cc) e)))
  where
    no : ToEject ≡ ToAdd → ⊥
    no h = cc

held_ejects : (held : Option ℕ) (t : Report) → held_decision held t ≡ ToEject → ⊥
held_ejects None t e = cc
held_ejects (Some other) t e = no (then_is (other == t.apic) ToAdd _ ToEject (λ h. cc) e)
  where
    no : ToAdd ≡ ToEject → ⊥
    no h = cc

insert_ejects : (f : Facts) (t : Report) → insert_decision f t ≡ ToEject → ⊥
insert_ejects f t e = held_ejects f.held t (else_is f.known _ (held_decision f.held t) ToEject (λ h. cc) e)

-- what is past the tests that refuse any report
past_refusals : (f : Facts) (t : Report) (k : Decision) → ((o : Outcome) → ToTell o ≢ k) → decision f t ≡ k → cond (bit_and t.status 2 == 2) (insert_decision f t) (eject_decision f t) ≡ k
past_refusals f t k never e =
    else_is (bit_and t.status 0x12 == 0x12) _ _ k (never _)
    (else_is (not (bit_and t.status 1 == 1)) _ _ k (never _)
    (else_is (not f.own) _ _ k (never _) e))

-- a report that begins an add
insert_adds : (f : Facts) (t : Report) → decision f t ≡ ToAdd → insert_decision f t ≡ ToAdd
insert_adds f t e = then_is (bit_and t.status 2 == 2) (insert_decision f t) (eject_decision f t) ToAdd (eject_adds f t) (past_refusals f t ToAdd (λ o h. cc) e)

held_free : (held : Option ℕ) (t : Report) → held_decision held t ≡ ToAdd → IsFree held t.apic
held_free None t e = inl refl
held_free (Some other) t e = inr (ap Some (eqb-true other t.apic (then_true (other == t.apic) ToAdd _ ToAdd (λ h. cc) e)))

pub adds_unknown : (f : Facts) (t : Report) → decision f t ≡ ToAdd → f.known ≡ false
adds_unknown f t e = else_false f.known _ (held_decision f.held t) ToAdd (λ h. cc) (insert_adds f t e)

pub adds_free : (f : Facts) (t : Report) → decision f t ≡ ToAdd → IsFree f.held t.apic
adds_free f t e = held_free f.held t (else_is f.known _ (held_decision f.held t) ToAdd (λ h. cc) (insert_adds f t e))

adds_own : (f : Facts) (t : Report) → decision f t ≡ ToAdd → f.own ≡ true
adds_own f t e = not_false f.own (else_false (not f.own) _ _ ToAdd (λ h. cc) e)

-- a report that begins an eject
pub ejects_known : (f : Facts) (t : Report) → decision f t ≡ ToEject → f.known ≡ true
ejects_known f t e =
    not_false f.known (else_false (not f.known) _ _ ToEject (λ h. cc)
    (else_is (not (bit_and f.features 4 == 4)) _ _ ToEject (λ h. cc)
    (else_is (bit_and t.status 2 == 2) (insert_decision f t) (eject_decision f t) ToEject (insert_ejects f t) (past_refusals f t ToEject (λ o h. cc) e))))

-- its APIC ID is a possible one
get_in : (ids : List ℕ) (k apic : ℕ) → is_that (slice_get ids k) apic ≡ true → is_in apic ids ≡ true
get_in [] k apic e = absurd cc
get_in (a ∷ ids) zero apic e = rw e refl
get_in (a ∷ ids) (suc k) apic e = or_right (a == apic) (is_in apic ids) (get_in ids k apic e)
  where
    or_right : (b c : Bool) → c ≡ true → (b || c) ≡ true
    or_right true c e = refl
    or_right false c e = e

pub adds_possible : (ids : List ℕ) (f : Facts) (t : Report) → f.own ≡ is_own ids t → decision f t ≡ ToAdd → is_in t.apic ids ≡ true
adds_possible ids f t same e = get_in ids t.cpu t.apic (and_parts (not (t.cpu == 0)) (is_that (slice_get ids t.cpu) t.apic) (sym same ∙ adds_own f t e)).1

all_at : (f : ℕ → Bool) (ids : List ℕ) (a : ℕ) → list_all f ids ≡ true → is_in a ids ≡ true → f a ≡ true
all_at f [] a all in' = absurd cc
all_at f (b ∷ ids) a all in' = by_head (b == a) refl in' (λ i. all_at f ids a (and_parts (f b) (list_all f ids) all).1 i)
  where
    by_head : (x : Bool) → (b == a) ≡ x → (x || is_in a ids) ≡ true → (is_in a ids ≡ true → f a ≡ true) → f a ≡ true
    by_head true e i rest = subst (λ (n : ℕ). f n ≡ true) (eqb-true b a e) (and_parts (f b) (list_all f ids) all).0
    by_head false e i rest = rest i

pub adds_small : (most : ℕ) (ids : List ℕ) (f : Facts) (t : Report) → list_all (λ a. nat_le a most) ids ≡ true → f.own ≡ is_own ids t → decision f t ≡ ToAdd → t.apic ≤ most
adds_small most ids f t all same e = small t.apic (all_at (λ a. nat_le a most) ids t.apic all (adds_possible ids f t same e))
  where
    small : (n : ℕ) → nat_le n most ≡ true → n ≤ most
    small n e = grind (arith, nat_tests)

-- a place where it is true is one of the list
pub true_below : (bs : List Bool) (k : ℕ) → slice_index_or bs k false ≡ true → k < length bs
true_below [] k e = absurd cc
true_below (b ∷ bs) zero e = omega arith
true_below (b ∷ bs) (suc k) e = let h = true_below bs k e in omega (arith, h)
