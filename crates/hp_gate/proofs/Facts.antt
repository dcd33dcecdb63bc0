-- Lists of numbers, of processors and of openings, and which seat has which view.
use Rattle.std.proofs.Common.{◌≡◌, ◌⊎◌, ℕ, zero, suc, ◌+◌, ◌<◌, ◌≤◌, Bool, true, false, not, ◌&&◌, ◌||◌, ◌==◌, eqb, eq-eqb, ne_eqb, true≢false, List, [], ◌∷◌, ◌++◌, map, length, sym, refl, ap, ◌∙◌, inl, inr, ⊎_elim, arith}
use Rattle.std.specs.List.{list_any}
use mathlib.Core.Logic.{dite}
use mathlib.Core.Option.{some, some-injective, some-ne-none}
use native.Mathlib.Decide.{ℕ_discrete}
use lib.ListN.{get_elem?}
use Rattle.atomic_table.proofs.Lists.{at_longer, at_last, at_snoc}
use Rattle.hp_model.specs.Block.{is_in}
use Rattle.hp_model.specs.Platform.{all_distinct}
use Rattle.hp_gate.specs.declared.views.Named.{Named}
use Rattle.hp_gate.specs.declared.views.MonarchView.{MonarchView}
use Rattle.hp_gate.specs.declared.views.CpuView.{CpuView}
use Rattle.hp_gate.specs.declared.views.View.{View}
use Rattle.hp_gate.specs.declared.views.View.TheVariants.{Monarch, Cpu}
use Rattle.hp_gate.specs.Openings.{IsOpening, named_at, IsDistinct, apics_of}
use Rattle.hp_gate.specs.Steps.{monarch_of, cpu_of}

-- a number is in a list: at its head, or behind it
pub in_head : (n : ℕ) (ns : List ℕ) → is_in n (n ∷ ns) ≡ true
in_head n ns = ap (λ b. b || is_in n ns) (eq-eqb n n refl)

or_true : (b : Bool) → (b || true) ≡ true
or_true true = refl
or_true false = refl

pub in_tail : (n x : ℕ) (ns : List ℕ) → is_in n ns ≡ true → is_in n (x ∷ ns) ≡ true
in_tail n x ns h = ap (λ b. eqb x n || b) h ∙ or_true (eqb x n)

pub in_cases : (n x : ℕ) (ns : List ℕ) → is_in n (x ∷ ns) ≡ true → (n ≡ x) ⊎ (is_in n ns ≡ true)
in_cases n x ns h = dite (ℕ_discrete x n) (λ e. inl (sym e)) (λ ne. inr (sym (ap (λ b. b || is_in n ns) (ne_eqb x n ne)) ∙ h))

pub in_none : (n : ℕ) → is_in n [] ≡ true → ⊥
in_none n h = true≢false (sym h)

pub within : {A : Type 0} (l : List A) (i : ℕ) (a : A) → get_elem? l i ≡ some a → i < length l
within [] i a e = absurd (some-ne-none a (sym e))
within (x ∷ xs) zero a e = omega arith
within (x ∷ xs) (suc i) a e = let h = within xs i a e in omega arith

pub named_there : (l : List Named) (k : ℕ) → k < length l → get_elem? l k ≡ some (named_at l k)
named_there [] k h = absurd (omega arith)
named_there (x ∷ xs) zero h = refl
named_there (x ∷ xs) (suc k) h = named_there xs k (omega arith)

listed_there : (l : List Named) (j : ℕ) (x : Named) (a : ℕ) → get_elem? l j ≡ some x → x.apic ≡ a → list_any (λ y. y == a) (apics_of l) ≡ true
listed_there [] j x a e is = absurd (some-ne-none x (sym e))
listed_there (y ∷ ys) zero x a e is = ap (λ b. b || list_any (λ y. y == a) (apics_of ys)) (eq-eqb y.apic a (ap (λ (z : Named). z.apic) (some-injective y x e) ∙ is))
listed_there (y ∷ ys) (suc j) x a e is = ap (λ b. eqb y.apic a || b) (listed_there ys j x a e is) ∙ or_true (eqb y.apic a)

both_true : (a b : Bool) → not a && b ≡ true → (a ≡ false) × (b ≡ true)
both_true true b e = absurd (true≢false (sym e))
both_true false b e = (refl, e)

-- two of a list with one APIC ID stand in one place
pub distinct_from : (l : List Named) → all_distinct (apics_of l) ≡ true → IsDistinct l
distinct_from [] d i j x y e f s = absurd (some-ne-none x (sym e))
distinct_from (z ∷ zs) d zero zero x y e f s = refl
distinct_from (z ∷ zs) d zero (suc j) x y e f s = absurd (true≢false (sym (listed_there zs j y z.apic f (sym s ∙ sym (ap (λ (v : Named). v.apic) (some-injective z x e)))) ∙ (both_true _ (all_distinct (apics_of zs)) d).0))
distinct_from (z ∷ zs) d (suc i) zero x y e f s = absurd (true≢false (sym (listed_there zs i x z.apic e (s ∙ sym (ap (λ (v : Named). v.apic) (some-injective z y f)))) ∙ (both_true _ (all_distinct (apics_of zs)) d).0))
distinct_from (z ∷ zs) d (suc i) (suc j) x y e f s = ap suc (distinct_from zs (both_true _ (all_distinct (apics_of zs)) d).1 i j x y e f s)

pub at_snoc_place : {A : Type 0} (l : List A) (a b : A) (j : ℕ) → get_elem? (l ++ a ∷ []) j ≡ some b → (get_elem? l j ≡ some b) ⊎ ((j ≡ length l) × (a ≡ b))
at_snoc_place [] a b zero e = inr (refl, some-injective a b e)
at_snoc_place [] a b (suc j) e = absurd (some-ne-none b (sym e))
at_snoc_place (x ∷ xs) a b zero e = inl e
at_snoc_place (x ∷ xs) a b (suc j) e = ⊎_elim inl (λ t. inr (ap suc t.0, t.1)) (at_snoc_place xs a b j e)

pub length_snoc : {A : Type 0} (l : List A) (a : A) → length (l ++ a ∷ []) ≡ length l + 1
length_snoc [] a = refl
length_snoc (x ∷ xs) a = let h = length_snoc xs a in omega arith

pub opening_below : (named : List ℕ) (n a : ℕ) → IsOpening named n a → n ≤ length named
opening_below named n a o = let h = within named o.place a o.names in let e = o.number in omega arith

pub opening_above : (named : List ℕ) (n a : ℕ) → IsOpening named n a → 0 < n
opening_above named n a o = let e = o.number in omega arith

pub opening_same : (named : List ℕ) (n a b : ℕ) → IsOpening named n a → IsOpening named n b → a ≡ b
opening_same named n a b o p =
    let x = o.number in let y = p.number in let same : o.place ≡ p.place = omega arith in
    some-injective a b (sym o.names ∙ ap (λ k. get_elem? named k) same ∙ p.names)

pub opening_more : (named : List ℕ) (x n a : ℕ) → IsOpening named n a → IsOpening (named ++ x ∷ []) n a
opening_more named x n a o = record { place = o.place; number = o.number; names = at_longer named (x ∷ []) o.place a o.names }

pub opening_snoc : (named : List ℕ) (x n a : ℕ) → IsOpening (named ++ x ∷ []) n a → IsOpening named n a ⊎ (x ≡ a)
opening_snoc named x n a o = ⊎_elim (λ (e : get_elem? named o.place ≡ some a). inl (record { place = o.place; number = o.number; names = e })) inr (at_snoc named x a o.place o.names)

pub opening_last : (named : List ℕ) (x : ℕ) → IsOpening (named ++ x ∷ []) (length (named ++ x ∷ [])) x
opening_last named x = record { place = length named; number = length_snoc named x; names = at_last named x (length named) refl }

abbrev is_cpu : View → Bool
is_cpu (Monarch m) = false
is_cpu (Cpu c) = true

apart : (m : MonarchView) (c : CpuView) → Cpu c ≡ Monarch m → ⊥
apart m c e = true≢false (ap is_cpu e)

cpu_there : (cs : List CpuView) (j : ℕ) (c : CpuView) → get_elem? (map Cpu cs) j ≡ some (Cpu c) → get_elem? cs j ≡ some c
cpu_there [] j c e = absurd (some-ne-none _ (sym e))
cpu_there (x ∷ xs) zero c e = ap some (ap cpu_of (some-injective _ _ e))
cpu_there (x ∷ xs) (suc j) c e = cpu_there xs j c e

no_monarch : (cs : List CpuView) (j : ℕ) (m : MonarchView) → get_elem? (map Cpu cs) j ≡ some (Monarch m) → ⊥
no_monarch [] j m e = absurd (some-ne-none _ (sym e))
no_monarch (x ∷ xs) zero m e = apart m x (some-injective _ _ e)
no_monarch (x ∷ xs) (suc j) m e = no_monarch xs j m e

-- only the first seat is the monarch's
pub first_seat : (n : MonarchView) (cs : List CpuView) (id : ℕ) (m : MonarchView) → get_elem? (Monarch n ∷ map Cpu cs) id ≡ some (Monarch m) → (id ≡ 0) × (n ≡ m)
first_seat n cs zero m e = (refl, ap monarch_of (some-injective _ _ e))
first_seat n cs (suc id) m e = absurd (no_monarch cs id m e)

-- and the others are processors'
pub later_seat : (n : MonarchView) (cs : List CpuView) (id : ℕ) (c : CpuView) → get_elem? (Monarch n ∷ map Cpu cs) id ≡ some (Cpu c) → (j : ℕ) × (id ≡ suc j) × (get_elem? cs j ≡ some c)
later_seat n cs zero c e = absurd (apart n c (sym (some-injective _ _ e)))
later_seat n cs (suc id) c e = (id, refl, cpu_there cs id c e)
