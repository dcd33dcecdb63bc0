-- Lists of reports: rising, all of them, those from a place on, and the last.
use Rattle.std.proofs.Common.{ℕ, zero, suc, ◌≡◌, ◌+◌, ◌-◌, Bool, true, nat_lt, List, [], ◌∷◌, ◌++◌, length, drop, refl, subst, arith, length-append}
use Rattle.std.specs.List.{list_all}
use Rattle.std.proofs.lemmas.Bool.{and_parts, and_from}
use Rattle.hp_model.specs.declared.reports.Report.{Report}
use Rattle.hp_model.specs.Exact.{rises}

pub all_more : (f g : Report → Bool) → ((t : Report) → f t ≡ true → g t ≡ true) → (ts : List Report) → list_all f ts ≡ true → list_all g ts ≡ true
all_more f g more [] h = refl
all_more f g more (t ∷ ts) h = let both = and_parts (f t) (list_all f ts) h in and_from (g t) (list_all g ts) (more t both.0) (all_more f g more ts both.1)

pub all_last : (f : Report → Bool) (ts : List Report) (t : Report) → list_all f ts ≡ true → f t ≡ true → list_all f (ts ++ t ∷ []) ≡ true
all_last f [] t h last = and_from (f t) true last refl
all_last f (u ∷ us) t h last = let both = and_parts (f u) (list_all f us) h in and_from (f u) (list_all f (us ++ t ∷ [])) both.0 (all_last f us t both.1 last)

pub all_drop : (f : Report → Bool) (n : ℕ) (ts : List Report) → list_all f ts ≡ true → list_all f (drop n ts) ≡ true
all_drop f zero ts h = h
all_drop f (suc n) [] h = refl
all_drop f (suc n) (t ∷ ts) h = all_drop f n ts (and_parts (f t) (list_all f ts) h).1

-- those after the one that is taken
pub drop_next : (n : ℕ) (xs ts : List Report) (t : Report) → drop n xs ≡ t ∷ ts → drop (n + 1) xs ≡ ts
drop_next zero xs ts t is = rw is refl
drop_next (suc n) [] ts t is = absurd cc
drop_next (suc n) (x ∷ xs) ts t is = let e : suc n + 1 ≡ suc (n + 1) = omega arith in rw e (drop_next n xs ts t is)

pub rises_last : (ts : List Report) (t : Report) → rises ts ≡ true → list_all (λ u. nat_lt u.cpu t.cpu) ts ≡ true → rises (ts ++ t ∷ []) ≡ true
rises_last [] t h below = refl
rises_last (u ∷ us) t h below =
    let both = and_parts (list_all (λ v. nat_lt u.cpu v.cpu) us) (rises us) h in
    let rest = and_parts (nat_lt u.cpu t.cpu) (list_all (λ v. nat_lt v.cpu t.cpu) us) below in
    and_from (list_all (λ v. nat_lt u.cpu v.cpu) (us ++ t ∷ [])) (rises (us ++ t ∷ [])) (all_last (λ v. nat_lt u.cpu v.cpu) us t both.0 rest.0) (rises_last us t both.1 rest.1)

pub rises_drop : (n : ℕ) (xs ts : List Report) (t : Report) → rises xs ≡ true → drop n xs ≡ t ∷ ts → list_all (λ u. nat_lt t.cpu u.cpu) ts ≡ true
rises_drop zero xs ts t h is = (and_parts (list_all (λ u. nat_lt t.cpu u.cpu) ts) (rises ts) (subst (λ ys. rises ys ≡ true) is h)).0
rises_drop (suc n) [] ts t h is = absurd cc
rises_drop (suc n) (x ∷ xs) ts t h is = rises_drop n xs ts t (and_parts (list_all (λ u. nat_lt x.cpu u.cpu) xs) (rises xs) h).1 is

pub drop_last : (ts : List Report) (t : Report) → drop (length (ts ++ t ∷ []) - 1) (ts ++ t ∷ []) ≡ t ∷ []
drop_last [] t = refl
drop_last (u ∷ us) t = let n : length (u ∷ us ++ t ∷ []) - 1 ≡ suc (length us) = omega (arith, length-append us (t ∷ [])) in
    let m : length (us ++ t ∷ []) - 1 ≡ length us = omega (arith, length-append us (t ∷ [])) in
    rw n (subst (λ k. drop k (us ++ t ∷ []) ≡ t ∷ []) m (drop_last us t))
