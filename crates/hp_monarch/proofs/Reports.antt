-- How reports are taken up, each with an answer.
use Rattle.std.proofs.Common.{◌≡◌, ℕ, suc, zero, Bool, true, false, cond, List, [], ◌∷◌, Some, None, length, drop, map, refl, sym, ap, arith}
use Rattle.std.specs.Prelude.{slice_get, slice_index_or, nat_lt}
use Rattle.std.proofs.lemmas.Bool.Decides.{nat_tests}
use Rattle.hp_model.specs.declared.labels.Label.{Label}
use Rattle.hp_model.specs.declared.labels.Label.TheVariants.{NB, E0, T, E5}
use Rattle.hp_model.specs.declared.reports.Report.{Report}
use Rattle.hp_monarch.specs.Session.{Session}
use Rattle.hp_model.specs.declared.reports.Decision.{Decision}
use Rattle.hp_model.specs.declared.reports.Decision.TheVariants.{Tell as ToTell, Add as ToAdd, Eject as ToEject}
use Rattle.hp_model.specs.Monarch.{Monarch, decision, facts_of, answered, taken_up, took, next_report, at_label}

pub pick : {X : Type 0} (P : X → Type 0) (b : Bool) (y n : X) → P y → P n → P (cond b y n)
pick P true y n h g = h
pick P false y n h g = g

-- whatever holds of NB, E0, T and E5 holds of the label that a report leads to
answer_leads : (P : Label → Type 0) (c : Decision) (t : Report) (r : Monarch) → P NB → P E0 → P T → P (answered c t r).label
answer_leads P (ToTell o) t r adds ejects tells = tells
answer_leads P ToAdd t r adds ejects tells = adds
answer_leads P ToEject t r adds ejects tells = ejects

up_leads : (P : Label → Type 0) (ids : List ℕ) (ts : List Report) (r : Monarch) → P NB → P E0 → P T → P E5 → P (taken_up ids ts r).label
up_leads P ids [] r adds ejects tells ends = ends
up_leads P ids (t ∷ ts) r adds ejects tells ends = answer_leads P (decision (facts_of ids r t) t) t (took r) adds ejects tells

pub report_leads : (P : Label → Type 0) (ids : List ℕ) (r : Monarch) → P NB → P E0 → P T → P E5 → P (next_report ids r).label
report_leads P ids r adds ejects tells ends = up_leads P ids (drop r.taken r.collection.reports) r adds ejects tells ends

-- it doesn't matter where the monarch stood
answer_from : (l : Label) (c : Decision) (t : Report) (r : Monarch) → answered c t (at_label l r) ≡ answered c t r
answer_from l (ToTell o) t r = refl
answer_from l ToAdd t r = refl
answer_from l ToEject t r = refl

up_from : (l : Label) (ids : List ℕ) (ts : List Report) (r : Monarch) → taken_up ids ts (at_label l r) ≡ taken_up ids ts r
up_from l ids [] r = refl
up_from l ids (t ∷ ts) r = answer_from l (decision (facts_of ids r t) t) t (took r)

pub report_from : (l : Label) (ids : List ℕ) (r : Monarch) → next_report ids (at_label l r) ≡ next_report ids r
report_from l ids r = up_from l ids (drop r.taken r.collection.reports) r

-- the report whose number is next is the first of those left
drop_some : {X : Type 0} (ts : List X) (n : ℕ) (t : X) → slice_get ts n ≡ Some t → drop n ts ≡ t ∷ drop (suc n) ts
drop_some [] n t e = absurd cc
drop_some (u ∷ ts) zero t e = cc
drop_some (u ∷ ts) (suc n) t e = drop_some ts n t e

drop_none : {X : Type 0} (ts : List X) (n : ℕ) → slice_get ts n ≡ None → drop n ts ≡ []
drop_none [] zero e = refl
drop_none [] (suc n) e = refl
drop_none (u ∷ ts) zero e = absurd cc
drop_none (u ∷ ts) (suc n) e = drop_none ts n e

-- without one left the session ends, and with one its decision decides
pub none_left : (ids : List ℕ) (r : Monarch) → slice_get r.collection.reports r.taken ≡ None → next_report ids r ≡ at_label E5 r
none_left ids r e = ap (λ ts. taken_up ids ts r) (drop_none r.collection.reports r.taken e)

pub one_left : (ids : List ℕ) (r : Monarch) (t : Report) → slice_get r.collection.reports r.taken ≡ Some t → next_report ids r ≡ answered (decision (facts_of ids r t) t) t (took r)
one_left ids r t e = ap (λ ts. taken_up ids ts r) (drop_some r.collection.reports r.taken t e)

-- and what the slice of reports shows is what the rules see
below_next : (n m : ℕ) → true ≡ nat_lt (suc n) (suc m) → true ≡ nat_lt n m
below_next n m e = grind (arith, nat_tests)

none_below : (n : ℕ) → true ≡ nat_lt n 0 → ⊥
none_below n e = grind (arith, nat_tests)

pub shown : {X : Type 0} (ts : List X) (n : ℕ) (t d : X) → true ≡ nat_lt n (length ts) → t ≡ slice_index_or ts n d → slice_get ts n ≡ Some t
shown [] n t d low is = absurd (none_below n low)
shown (u ∷ ts) zero t d low is = ap (λ x. Some x) (sym is)
shown (u ∷ ts) (suc n) t d low is = shown ts n t d (below_next n (length ts) low) is

-- one that is taken up is answered
pub taking : (s : Session) (t : Report) → slice_get s.monarch.collection.reports s.monarch.taken ≡ Some t →
    record s { monarch = answered (decision (facts_of s.layout.apics (took s.monarch) t) t) t (took s.monarch) } ≡ record s { monarch = next_report s.layout.apics s.monarch }
taking s t is = ap (λ (r : Monarch). record s { monarch = r }) (sym (one_left s.layout.apics s.monarch t is))

pub ruleset report_facts = (report_from, none_left, one_left)
