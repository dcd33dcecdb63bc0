-- What scripts and pens say to a list of questions.
use Rattle.std.proofs.Common.{◌≡◌, ℕ, suc, true, false, not, ◌==◌, ◌-◌, List, [], ◌∷◌, ◌++◌, length, take, replicate, refl, ap, arith}
use Rattle.std.specs.List.{list_all}
use Rattle.std.proofs.lemmas.Bool.{and_parts}
use Rattle.std.proofs.lemmas.Bool.Decides.{nat_tests}
use Rattle.std.proofs.lemmas.Grind.{common_steps}
use Rattle.hp_model.specs.declared.accesses.Access.{Access}
use Rattle.hp_model.specs.declared.accesses.Access.TheVariants.{Halt}
use Rattle.hp_model.specs.Voices.{Question, says, silent, script, pen, pen_page, pen_store, pen_says}
use Rattle.hp_agent.specs.Questions.{said_all, is_elsewhere}

-- a voice with nothing left halts, and has nothing left
pub silent_halts : (q : Question) → says silent q ≡ record { access = Halt; voice = silent }
unfolding says
silent_halts q = refl

silent_says : (qs : List Question) → said_all silent qs ≡ replicate (length qs) Halt
unfolding says
silent_says [] = refl
silent_says (q ∷ qs) = ap (λ as'. Halt ∷ as') (silent_says qs)

pub script_says : (steps : List Access) (qs : List Question) →
    said_all (script steps) qs ≡ take (length qs) steps ++ replicate (length qs - length steps) Halt
unfolding says
script_says [] [] = refl
script_says [] (q ∷ qs) =
    let left : suc (length qs) - 0 ≡ suc (length qs) = omega arith in
    rw left (silent_says (q ∷ qs))
script_says (a ∷ steps) [] = let none : 0 - suc (length steps) ≡ 0 = omega arith in rw none refl
script_says (a ∷ steps) (q ∷ qs) =
    let left : suc (length qs) - suc (length steps) ≡ length qs - length steps = omega arith in
    rw left (ap (λ as'. a ∷ as') (script_says steps qs))

-- a pen that hasn't stored its byte, at another page than its own and there
halts_elsewhere : (page : ℕ) → not (page == pen_page) ≡ true → pen_says false page ≡ record { access = Halt; voice = pen false }
halts_elsewhere page off = grind (arith, nat_tests, common_steps)

stores_there : (page : ℕ) → page ≡ pen_page → pen_says false page ≡ record { access = pen_store; voice = pen true }
stores_there page at_page = grind (arith, nat_tests, common_steps)

pub stored_says : (qs : List Question) → said_all (pen true) qs ≡ replicate (length qs) Halt
unfolding says
stored_says [] = refl
stored_says (q ∷ qs) = ap (λ as'. Halt ∷ as') (stored_says qs)

pub elsewhere_says : (qs : List Question) → list_all is_elsewhere qs ≡ true → said_all (pen false) qs ≡ replicate (length qs) Halt
unfolding says
elsewhere_says [] off = refl
elsewhere_says (q ∷ qs) off =
    let parts = and_parts (is_elsewhere q) (list_all is_elsewhere qs) off in
    rw (halts_elsewhere q.page parts.0) (ap (λ as'. Halt ∷ as') (elsewhere_says qs parts.1))

pub first_says : (before after : List Question) (q : Question) → list_all is_elsewhere before ≡ true → q.page ≡ pen_page →
    said_all (pen false) (before ++ q ∷ after) ≡ replicate (length before) Halt ++ pen_store ∷ replicate (length after) Halt
unfolding says
first_says [] after q off at_page = rw (stores_there q.page at_page) (ap (λ as'. pen_store ∷ as') (stored_says after))
first_says (b ∷ before) after q off at_page =
    let parts = and_parts (is_elsewhere b) (list_all is_elsewhere before) off in
    rw (halts_elsewhere b.page parts.0) (ap (λ as'. Halt ∷ as') (first_says before after q parts.1 at_page))

pub ruleset pen_facts = (stored_says, elsewhere_says, first_says)
