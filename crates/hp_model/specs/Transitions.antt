-- Runs as transitions: each entry with the state before it and the state after it. Lists are newest first, as they are looked back on.
use Rattle.std.specs.Prelude.{ℕ, zero, suc, Bool, true, false, ◌&&◌, not, ◌==◌, List, [], ◌∷◌, map, filter, Option, Some, None}
use Rattle.hp_model.specs.declared.platforms.Platform.{Platform}
use Rattle.hp_model.specs.declared.entries.Entry.{Entry}
use Rattle.hp_model.specs.Platform.{count_of}
use Rattle.hp_model.specs.State.{State, at, start}
use Rattle.hp_model.specs.Runs.{run_on}

pub record Transition : Type 0 where
  pub entry : Entry
  pub before : State
  pub after : State

-- one transition more, and the rest after it; past an entry that goes nowhere there are none
abbrev pub went_on : List Transition → State → Entry → (List Transition → State → List Transition) → Option State → List Transition
went_on past s e rest None = past
went_on past s e rest (Some t) = rest (record { entry = e; before = s; after = t } ∷ past) t

-- the transitions of entries, each of which leads from a state to the next one
unfoldable pub transitions_by : (State → Entry → Option State) → List Transition → State → List Entry → List Transition
transitions_by next past s [] = past
transitions_by next past s (e ∷ es) = went_on past s e (λ more t. transitions_by next more t es) (next s e)

-- the transitions of a run
unfoldable pub transitions : Platform → List Entry → List Transition
transitions p es = transitions_by (run_on p) [] (start p) es

abbrev pub entries_of : List Transition → List Entry
entries_of xs = map (λ x. x.entry) xs

-- what is newer than the newest of a kind; all where there is none
unfoldable pub since : {A : Type 0} → (A → Bool) → List A → List A
since kind [] = []
since {A = A} kind (x ∷ xs) = elim (kind x) as (λ _. List A) [ true ↦ [] | false ↦ x ∷ since kind xs ]

-- what is older than the newest of a kind
unfoldable pub older_than : {A : Type 0} → (A → Bool) → List A → List A
older_than kind [] = []
older_than {A = A} kind (x ∷ xs) = elim (kind x) as (λ _. List A) [ true ↦ xs | false ↦ older_than kind xs ]

-- the newest of a kind
unfoldable pub newest : {A : Type 0} → (A → Bool) → List A → Option A
newest kind [] = None
newest {A = A} kind (x ∷ xs) = elim (kind x) as (λ _. Option A) [ true ↦ Some x | false ↦ newest kind xs ]

-- each transition, with those before it, passes the test
unfoldable pub at_each : (List Transition → Transition → Bool) → List Transition → Bool
at_each test [] = true
at_each test (x ∷ older) = test older x && at_each test older

-- each state passes the test, with the entries that led to it
unfoldable pub at_each_state : Platform → (List Entry → State → Bool) → List Transition → Bool
at_each_state p test [] = test [] (start p)
at_each_state p test (x ∷ older) = test (entries_of (x ∷ older)) x.after && at_each_state p test older

-- the places below a number
unfoldable pub places : ℕ → List ℕ
places zero = []
places (suc n) = n ∷ places n

-- the processors that are present before and after a transition with another SMBASE, and those that are present before it alone
abbrev pub has_moved : Transition → ℕ → Bool
has_moved x k = (at x.before k).present && ((at x.after k).present && not ((at x.before k).smbase == (at x.after k).smbase))

abbrev pub moved_in : Platform → Transition → List ℕ
moved_in p x = filter (has_moved x) (places (count_of p))

abbrev pub has_left : Transition → ℕ → Bool
has_left x k = (at x.before k).present && not (at x.after k).present

abbrev pub left_in : Platform → Transition → List ℕ
left_in p x = filter (has_left x) (places (count_of p))
