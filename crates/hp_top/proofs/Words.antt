-- Words that are `gen` and a number, and words that are not.
use Rattle.std.proofs.Common.{◌≡◌, ℕ, true, false, List, [], ◌∷◌, sym, ◌∙◌, ap, codes}
use Rattle.std.specs.Str.{bytes_eq}
use Rattle.std.proofs.lemmas.Slice.Eq.{bytes_eq-Decides}
use Rattle.std.proofs.lemmas.Option.{same_Some}
use Rattle.hp_top.specs.Commands.{AreGen, AreNone, AreWords, IsNumber, are_check, are_run, number_onto}
use Rattle.hp_top.proofs.Decimals.{written_read}

pub gen_word : (word : List ℕ) → bytes_eq word (codes "gen") ≡ true → word ≡ codes "gen"
gen_word word is = (bytes_eq-Decides word (codes "gen")).0 is

pub not_gen : (first second : List ℕ) (n : ℕ) → bytes_eq first (codes "gen") ≡ false → AreWords first second n → ⊥
not_gen first second n isnt are = let both : true ≡ false = sym ((bytes_eq-Decides first (codes "gen")).1 are.word) ∙ isnt in cc

-- a word is one number at most
pub same_number : (word : List ℕ) (m n : ℕ) → IsNumber word m → IsNumber word n → m ≡ n
same_number word m n first second =
    same_Some m n
    (sym (written_read m first.least first.most) ∙ ap (number_onto 0) (sym first.text ∙ second.text) ∙ written_read n second.least second.most)

pub same_gen : (words : List (List ℕ)) (m n : ℕ) → AreGen words m → AreGen words n → m ≡ n
same_gen [] m n first second = absurd first
same_gen (word ∷ []) m n first second = absurd first
same_gen (word ∷ (number ∷ [])) m n first second = same_number number m n first.number second.number
same_gen (word ∷ (number ∷ (other ∷ words))) m n first second = absurd first

pub not_both : (words : List (List ℕ)) (n : ℕ) → are_run words ≡ true → AreGen words n → ⊥
not_both [] n run gen = gen
not_both (word ∷ []) n run gen = gen
not_both (word ∷ (number ∷ [])) n run gen = cc
not_both (word ∷ (number ∷ (other ∷ words))) n run gen = gen

pub run_some : (words : List (List ℕ)) → are_run words ≡ true → AreNone words → ⊥
run_some words run none = let both : true ≡ false = sym run ∙ none.run in cc

pub not_check : (words : List (List ℕ)) → are_run words ≡ true → are_check words ≡ true → ⊥
not_check [] run check = cc
not_check (word ∷ []) run check =
    let same : codes "run" ≡ codes "check" = sym ((bytes_eq-Decides word (codes "run")).0 run) ∙ (bytes_eq-Decides word (codes "check")).0 check in cc
not_check (word ∷ (other ∷ words)) run check = cc

pub check_not_gen : (words : List (List ℕ)) (n : ℕ) → are_check words ≡ true → AreGen words n → ⊥
check_not_gen [] n check gen = gen
check_not_gen (word ∷ []) n check gen = gen
check_not_gen (word ∷ (number ∷ [])) n check gen = cc
check_not_gen (word ∷ (number ∷ (other ∷ words))) n check gen = gen

pub check_some : (words : List (List ℕ)) → are_check words ≡ true → AreNone words → ⊥
check_some words check none = let both : true ≡ false = sym check ∙ none.check in cc
