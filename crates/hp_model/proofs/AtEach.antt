-- The one induction over the transitions of a run: what each step keeps, and what it passes by what is kept.
use Rattle.std.proofs.Common.{◌≡◌, Bool, true, List, [], ◌∷◌, Option, Some, None, refl}
use Rattle.std.proofs.lemmas.Bool.{and_from}
use Rattle.hp_model.specs.declared.platforms.Platform.{Platform}
use Rattle.hp_model.specs.declared.entries.Entry.{Entry}
use Rattle.hp_model.specs.State.{State, start}
use Rattle.hp_model.specs.Runs.{run_on}
use Rattle.hp_model.specs.Transitions.{Transition, went_on, transitions_by, transitions, at_each}

abbrev pub made : State → Entry → State → Transition
made s e t = record { entry = e; before = s; after = t }

module _ (p : Platform) (P : List Transition → State → Type 0)
    (kept : (past : List Transition) (s t : State) (e : Entry) → P past s → run_on p s e ≡ Some t → P (made s e t ∷ past) t)
    (test : List Transition → Transition → Bool)
    (passes : (past : List Transition) (s t : State) (e : Entry) → P past s → run_on p s e ≡ Some t → test past (made s e t) ≡ true) where
  goes : (es : List Entry) (past : List Transition) (s : State) → P past s → at_each test past ≡ true → at_each test (transitions_by (run_on p) past s es) ≡ true
  unfolding transitions_by at_each
  goes [] past s h all = all
  goes (e ∷ es) past s h all = by (run_on p s e) refl (λ t. goes es (made s e t ∷ past) t)
    where
      by : (n : Option State) → run_on p s e ≡ n
          → ((t : State) → P (made s e t ∷ past) t → at_each test (made s e t ∷ past) ≡ true → at_each test (transitions_by (run_on p) (made s e t ∷ past) t es) ≡ true)
          → at_each test (went_on past s e (λ more t. transitions_by (run_on p) more t es) n) ≡ true
      by None is rest = all
      by (Some t) is rest = rest t (kept past s t e h is) (and_from (test past (made s e t)) (at_each test past) (passes past s t e h is) all)

  -- a test that each step passes holds at each transition of a run
  pub each_passes : P [] (start p) → (es : List Entry) → at_each test (transitions p es) ≡ true
  unfolding transitions at_each
  each_passes begins es = goes es [] (start p) begins refl
