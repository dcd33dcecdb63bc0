-- Runs: what an entry's step is, a run in two parts, and what each step keeps.
use Rattle.std.proofs.Common.{ℕ, ◌≡◌, Bool, true, false, cond, ◌&&◌, List, [], ◌∷◌, ◌++◌, Option, Some, None, option_and_then, refl, sym, ap, subst, ◌∙◌, arith}
use Rattle.std.proofs.lemmas.Bool.Decides.{nat_tests}
use Rattle.std.proofs.lemmas.List.{append_assoc, append-nil}
use Rattle.std.proofs.lemmas.Option.{same_Some}
use Rattle.hp_model.specs.declared.platforms.Platform.{Platform}
use Rattle.hp_model.specs.declared.accesses.Answer.{Answer}
use Rattle.hp_model.specs.declared.accesses.Answer.TheVariants.{Quiet, Value}
use Rattle.hp_model.specs.declared.entries.Entry.{Entry}
use Rattle.hp_model.specs.State.{State, start}
use Rattle.hp_model.specs.Step.{After, step}
use Rattle.hp_model.specs.Runs.{same_answer, same_address, address_of, accept, run_on, run_from, run}
use Rattle.hp_model.proofs.Scheduled.{run_from-more}

-- an entry's step, and its address
pub record Made (p : Platform) (s : State) (e : Entry) (t : State) : Type 0 where
  pub after : After
  pub step : step p s e.event ≡ Some after
  pub state : after.state ≡ t
  pub place : address_of s e.event ≡ e.at
  pub answer : after.answer ≡ e.answer

same_places : (a b : Option ℕ) → same_address a b ≡ true → a ≡ b
same_places None None e = refl
same_places None (Some y) e = absurd cc
same_places (Some x) None e = absurd cc
same_places (Some x) (Some y) e = let i : x ≡ y = grind (arith, nat_tests) in ap Some i

same_answers : (a b : Answer) → same_answer a b ≡ true → a ≡ b
same_answers Quiet Quiet e = refl
same_answers Quiet (Value v) e = absurd cc
same_answers (Value v) Quiet e = absurd cc
same_answers (Value v) (Value w) e = let i : v ≡ w = grind (arith, nat_tests) in ap Value i

pub made : (p : Platform) (s : State) (e : Entry) (t : State) → run_on p s e ≡ Some t → Made p s e t
unfolding run_on
made p s e t is = on (step p s e.event) refl is
  where
    parts : (a b : Bool) (x : State) → cond (a && b) (Some x) None ≡ Some t → (a ≡ true) × (b ≡ true) × (x ≡ t)
    parts true true x e = (refl, refl, same_Some x t e)
    parts true false x e = absurd cc
    parts false b x e = absurd cc

    on : (o : Option After) → step p s e.event ≡ o → option_and_then (accept e (address_of s e.event)) o ≡ Some t → Made p s e t
    on None is f = absurd cc
    on (Some a) is f =
        let g = parts (same_answer a.answer e.answer) (same_address (address_of s e.event) e.at) a.state f in
        record { after = a; step = is; state = g.2; place = same_places (address_of s e.event) e.at g.1; answer = same_answers a.answer e.answer g.0 }

-- a run of a list in two parts
pub run_parts : (p : Platform) (s t : State) (es fs : List Entry) → run_from p s (es ++ fs) ≡ Some t → (u : State) × (run_from p s es ≡ Some u) × (run_from p u fs ≡ Some t)
unfolding run_from
run_parts p s t [] fs is = (s, refl, is)
run_parts p s t (e ∷ es) fs is = on (run_on p s e) is (λ u f. run_parts p u t es fs f)
  where
    on : (o : Option State) → option_and_then (λ u. run_from p u (es ++ fs)) o ≡ Some t → ((u : State) → run_from p u (es ++ fs) ≡ Some t → (w : State) × (run_from p u es ≡ Some w) × (run_from p w fs ≡ Some t)) → (w : State) × (option_and_then (λ u. run_from p u es) o ≡ Some w) × (run_from p w fs ≡ Some t)
    on None g more = absurd cc
    on (Some u) g more = more u g

-- the rest of a run, from the state that its first part leads to
pub run_rest : (p : Platform) (s t u : State) (es fs gs : List Entry) → gs ≡ es ++ fs → run_from p s gs ≡ Some t → run_from p s es ≡ Some u → run_from p u fs ≡ Some t
run_rest p s t u es fs gs split is here =
    let parts = run_parts p s t es fs (subst (λ xs. run_from p s xs ≡ Some t) split is) in
    let same : parts.0 ≡ u = same_Some parts.0 u (sym parts.1 ∙ here) in
    subst (λ v. run_from p v fs ≡ Some t) same parts.2

-- the first step of a run
pub first_step : (p : Platform) (s t : State) (e : Entry) (es : List Entry) → run_from p s (e ∷ es) ≡ Some t → (u : State) × (run_on p s e ≡ Some u) × (run_from p u es ≡ Some t)
unfolding run_from
first_step p s t e es is = on (run_on p s e) is
  where
    on : (o : Option State) → option_and_then (λ u. run_from p u es) o ≡ Some t → (u : State) × (o ≡ Some u) × (run_from p u es ≡ Some t)
    on None f = absurd cc
    on (Some u) f = (u, refl, f)

-- what each step keeps, of entries and state, each run has
module _ (p : Platform) (P : List Entry → State → Type 0) (kept : (es : List Entry) (s t : State) (e : Entry) → P es s → run_from p (start p) es ≡ Some s → run_on p s e ≡ Some t → P (es ++ e ∷ []) t) where
  keeps_from : (done es : List Entry) (s t : State) → P done s → run_from p (start p) done ≡ Some s → run_from p s es ≡ Some t → P (done ++ es) t
  unfolding run_from
  keeps_from done [] s t h here is = subst (λ xs. P xs t) (sym (append-nil done)) (subst (P done) (same_Some s t is) h)
  keeps_from done (e ∷ es) s t h here is =
      on (run_on p s e) refl is
      (λ u f g. subst (λ xs. P xs t) (append_assoc done (e ∷ []) es) (keeps_from (done ++ e ∷ []) es u t (kept done s u e h here f) (run_from-more p done e (start p) s u here f) g))
    where
      on : (o : Option State) → run_on p s e ≡ o → option_and_then (λ u. run_from p u es) o ≡ Some t → ((u : State) → run_on p s e ≡ Some u → run_from p u es ≡ Some t → P (done ++ e ∷ es) t) → P (done ++ e ∷ es) t
      on None f g more = absurd cc
      on (Some u) f g more = more u f g

  pub run_keeps : (es : List Entry) (t : State) → P [] (start p) → run p es ≡ Some t → P es t
  unfolding run run_from
  run_keeps es t h is = keeps_from [] es (start p) t h refl is
