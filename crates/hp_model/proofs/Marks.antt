-- Labels by their marks: each is found by its own, and by no other.
use Rattle.std.proofs.Common.{◌≡◌, ℕ, ◌+◌, ◌^◌, ◌<◌, ◌≤◌, List, [], ◌∷◌, Some, refl, sym, ap, ◌∙◌, arith}
use Rattle.std.proofs.lemmas.Bool.Decides.{nat_tests}
use Rattle.std.proofs.lemmas.Option.{same_Some}
use Rattle.hp_model.specs.declared.labels.Label.{Label}
use Rattle.hp_model.specs.declared.labels.Label.TheVariants.{F1, F2, F3, F4, F5, F6}
use Rattle.hp_model.specs.declared.labels.Handler.{Handler}
use Rattle.hp_model.specs.declared.labels.Handler.TheVariants.{First, Relocated, Monarch}
use Rattle.hp_model.specs.Labels.{first_mark, index_of, label_with, labels, mark_of, handler_of, with_mark}

-- each label stands in the list, and the first one with its mark is itself
pub found : (l : Label) → label_with (mark_of l) ≡ Some l
unfolding label_with
found F1 = refl
found _ = refl

with_mark-is : (n : ℕ) (ls : List Label) (l : Label) → with_mark n ls ≡ Some l → mark_of l ≡ n
with_mark-is n [] l h = grind arith
with_mark-is n (k ∷ ks) l h = grind (arith, nat_tests, with_mark-is n ks l)

pub found_is : (n : ℕ) (l : Label) → label_with n ≡ Some l → mark_of l ≡ n
unfolding label_with
found_is n l h = with_mark-is n labels l h

-- no two labels have one mark, nor one place in one handler
pub same_label : (l m : Label) → mark_of l ≡ mark_of m → l ≡ m
same_label l m e = same_Some l m (sym (found l) ∙ (ap label_with e ∙ found m))

pub same_place : (l m : Label) → handler_of l ≡ handler_of m → index_of l ≡ index_of m → l ≡ m
same_place l m parts indices = same_label l m (rw (parts, indices) refl)

-- a handler has at most 41 labels, the first one 6
pub index_small : (l : Label) → index_of l ≤ 40
index_small F1 = omega arith
index_small _ = omega arith

pub index_first : (l : Label) → handler_of l ≡ First → index_of l ≤ 5
index_first F1 e = omega arith
index_first F2 e = omega arith
index_first F3 e = omega arith
index_first F4 e = omega arith
index_first F5 e = omega arith
index_first F6 e = omega arith
index_first _ e = absurd cc

pub mark_small : (l : Label) → mark_of l < 2 ^ 32
mark_small l = by_handler (handler_of l) (index_of l) (index_small l)
  where
    by_handler : (q : Handler) (i : ℕ) → i ≤ 40 → first_mark q + i < 2 ^ 32
    by_handler First i h = omega (arith, h)
    by_handler Relocated i h = omega (arith, h)
    by_handler Monarch i h = omega (arith, h)

pub ruleset by_mark = (found, found_is, same_label, mark_small)
