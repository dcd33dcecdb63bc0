-- A text without a fault is the trace of a run, and the other way round.
use Rattle.std.proofs.Common.{◌≡◌, ℕ, ◌+◌, ◌==◌, Bool, true, false, List, [], ◌∷◌, Option, Some, None, option_map, option_and_then, if◌then◌else◌, refl, sym, ap, subst, ◌∙◌, ◌↔◌}
use Rattle.std.proofs.lemmas.Option.{none-some, option_and_then_some}
use Rattle.std.specs.Option.{IsSome}
use Rattle.hp_model.specs.declared.platforms.Platform.{Platform}
use Rattle.hp_model.specs.declared.entries.Entry.{Entry}
use Rattle.hp_model.specs.State.{State, start}
use Rattle.hp_model.specs.Runs.{run, run_on, run_from}
use Rattle.hp_reading.specs.Lines.{entry_of, end_of}
use Rattle.hp_reading.specs.Header.{head_of}
use Rattle.hp_reading.specs.Trace.{cut, ended, by_entry, entries_of, TraceContent, content_by, trace_of}
use Rattle.hp_reading.specs.Fault.{Fault, Step, End, at_line, end_fault, step_fault, line_fault, fault_from, behind_header, fault_in, fault_of, IsRunsTrace}
use Rattle.hp_reading.proofs.Front.{mapped}

-- the lines behind a header are entries that are steps, and the end
record Passes (n : ℕ) (p : Platform) (s : State) (ls : List (List ℕ)) (rest : List ℕ) : Type 0 where
  entries : List Entry
  read : entries_of n ls ≡ Some entries
  whole : rest ≡ []
  runs : IsSome (run_from p s entries)

some-none : {X P : Type 0} (x : X) → Some x ≡ None → P
some-none x e = absurd (none-some x (sym e))

passes_end : (line n : ℕ) (p : Platform) (s : State) (l : List ℕ) (ls : List (List ℕ)) (rest : List ℕ) (o : Option ℕ) → entry_of l ≡ None → end_of l ≡ o → end_fault line n ls rest o ≡ None
    → Passes n p s (l ∷ ls) rest
unfolding entries_of run_from
passes_end line n p s l ls rest None none is e = some-none _ e
passes_end line n p s l [] [] (Some m) none is e = by (m == n) refl e
  where
    by : (t : Bool) → (m == n) ≡ t → (if t then None else at_line line End) ≡ None → Passes n p s (l ∷ []) []
    by false other e = some-none _ e
    by true same e = record { entries = []; read = rw (none, is, same) refl; whole = refl; runs = refl }
passes_end line n p s l [] (c ∷ rest) (Some m) none is e = some-none _ e
passes_end line n p s l (k ∷ ls) rest (Some m) none is e = some-none _ e

passes_step : (n : ℕ) (p : Platform) (s t : State) (l : List ℕ) (ls : List (List ℕ)) (rest : List ℕ) (x : Entry) → entry_of l ≡ Some x → run_on p s x ≡ Some t → Passes (n + 1) p t ls rest
    → Passes n p s (l ∷ ls) rest
unfolding entries_of run_from
passes_step n p s t l ls rest x is to more = record {
  entries = x ∷ more.entries;
  read = rw is (ap (option_map (λ es. x ∷ es)) more.read);
  whole = more.whole;
  runs = rw to more.runs;
}

no_fault_passes : (ls : List (List ℕ)) (line n : ℕ) (p : Platform) (s : State) (rest : List ℕ) → fault_from line n p s ls rest ≡ None → Passes n p s ls rest
unfolding fault_from
no_fault_passes [] line n p s [] e = some-none _ e
no_fault_passes [] line n p s (c ∷ rest) e = some-none _ e
no_fault_passes (l ∷ ls) line n p s rest e = by (entry_of l) refl (λ t e. no_fault_passes ls (line + 1) (n + 1) p t rest e) e
  where
    step : (x : Entry) → entry_of l ≡ Some x → ((t : State) → fault_from (line + 1) (n + 1) p t ls rest ≡ None → Passes (n + 1) p t ls rest)
        → (o : Option State) → run_on p s x ≡ o → step_fault line o (λ t. fault_from (line + 1) (n + 1) p t ls rest) ≡ None → Passes n p s (l ∷ ls) rest
    step x is later None to e = some-none _ e
    step x is later (Some t) to e = passes_step n p s t l ls rest x is to (later t e)

    by : (o : Option Entry) → entry_of l ≡ o → ((t : State) → fault_from (line + 1) (n + 1) p t ls rest ≡ None → Passes (n + 1) p t ls rest)
        → line_fault line p s o (λ t. fault_from (line + 1) (n + 1) p t ls rest) (end_fault line n ls rest (end_of l)) ≡ None → Passes n p s (l ∷ ls) rest
    by None is later e = passes_end line n p s l ls rest (end_of l) is refl e
    by (Some x) is later e = step x is later (run_on p s x) refl e

-- the other way round
end_no_fault : (line n : ℕ) (l : List ℕ) (ls : List (List ℕ)) (es : List Entry) (o : Option ℕ) → ended n ls o ≡ Some es → end_fault line n ls [] o ≡ None
end_no_fault line n l ls es None e = absurd (none-some es e)
end_no_fault line n l (k ∷ ls) es (Some m) e = absurd (none-some es e)
end_no_fault line n l [] es (Some m) e = by (m == n) e
  where
    by : (t : Bool) → (if t then Some [] else None) ≡ Some es → (if t then None else at_line line End) ≡ None
    by false e = absurd (none-some es e)
    by true e = refl

step_no_fault : (line : ℕ) (p : Platform) (s : State) (x : Entry) (fs : List Entry) (behind : State → Option Fault) → IsSome (run_from p s (x ∷ fs))
    → ((t : State) → IsSome (run_from p t fs) → behind t ≡ None) → step_fault line (run_on p s x) behind ≡ None
unfolding run_from
step_no_fault line p s x fs behind runs later = by (run_on p s x) runs
  where
    by : (o : Option State) → IsSome (option_and_then (λ t. run_from p t fs) o) → step_fault line o behind ≡ None
    by None runs = cc
    by (Some t) runs = later t runs

passes_no_fault : (ls : List (List ℕ)) (line n : ℕ) (p : Platform) (s : State) (es : List Entry) → entries_of n ls ≡ Some es → IsSome (run_from p s es) → fault_from line n p s ls [] ≡ None
unfolding fault_from entries_of
passes_no_fault [] line n p s es e runs = absurd (none-some es e)
passes_no_fault (l ∷ ls) line n p s es e runs = by (entry_of l) (λ t fs read runs. passes_no_fault ls (line + 1) (n + 1) p t fs read runs) e
  where
    by : (o : Option Entry) → ((t : State) (fs : List Entry) → entries_of (n + 1) ls ≡ Some fs → IsSome (run_from p t fs) → fault_from (line + 1) (n + 1) p t ls [] ≡ None)
        → by_entry o (λ e. option_map (λ es. e ∷ es) (entries_of (n + 1) ls)) (ended n ls (end_of l)) ≡ Some es
        → line_fault line p s o (λ t. fault_from (line + 1) (n + 1) p t ls []) (end_fault line n ls [] (end_of l)) ≡ None
    by None later e = end_no_fault line n l ls es (end_of l) e
    by (Some x) later e =
        mapped (λ es. x ∷ es) (entries_of (n + 1) ls) es e
        (λ fs found same. step_no_fault line p s x fs (λ t. fault_from (line + 1) (n + 1) p t ls []) (subst (λ es. IsSome (run_from p s es)) (sym same) runs) (λ t runs. later t fs found runs))

-- a header before them
record PassesAll (ls : List (List ℕ)) (rest : List ℕ) : Type 0 where
  content : TraceContent
  read : content_by ls rest ≡ Some content
  runs : IsSome (run content.platform content.entries)

all_pass : (ls : List (List ℕ)) (rest : List ℕ) → fault_in ls rest ≡ None → PassesAll ls rest
unfolding run
all_pass [] [] e = some-none _ e
all_pass [] (c ∷ rest) e = some-none _ e
all_pass (l ∷ ls) rest e = by (head_of l) refl e
  where
    header : (p : Platform) (rest : List ℕ) → head_of l ≡ Some p → rest ≡ [] → Passes 0 p (start p) ls rest → PassesAll (l ∷ ls) rest
    header p [] is whole more = record {
      content = record { platform = p; entries = more.entries };
      read = rw is (ap (option_map (λ es. record { platform = p; entries = es })) more.read);
      runs = more.runs;
    }
    header p (c ∷ rest) is whole more = cc

    by : (o : Option Platform) → head_of l ≡ o → behind_header ls rest o ≡ None → PassesAll (l ∷ ls) rest
    by None is e = some-none _ e
    by (Some p) is e = let more = no_fault_passes ls 2 0 p (start p) rest e in header p rest is more.whole more

all_passed : (ls : List (List ℕ)) (rest : List ℕ) (t : TraceContent) → content_by ls rest ≡ Some t → IsSome (run t.platform t.entries) → fault_in ls rest ≡ None
unfolding run
all_passed [] rest t e runs = absurd (none-some t e)
all_passed (l ∷ ls) (c ∷ rest) t e runs = absurd (none-some t e)
all_passed (l ∷ ls) [] t e runs =
    option_and_then_some (λ p. option_map (λ es. record { platform = p; entries = es }) (entries_of 0 ls)) (head_of l) t e
    (λ p named more. mapped (λ es. record { platform = p; entries = es }) (entries_of 0 ls) t more
    (λ es found same.
    ap (behind_header ls []) named
    ∙ passes_no_fault ls 2 0 p (start p) es found (subst (λ t. IsSome (run_from t.platform (start t.platform) t.entries)) (sym same) runs)))

pub faults_are_none : (text : List ℕ) → (fault_of text ≡ None) ↔ IsRunsTrace text
unfolding fault_of trace_of
faults_are_none text = (there, back)
  where
    there : fault_of text ≡ None → IsRunsTrace text
    there e = let all = all_pass (cut text).lines (cut text).rest e in record { content = all.content; read = all.read; runs = all.runs }

    back : IsRunsTrace text → fault_of text ≡ None
    back is = all_passed (cut text).lines (cut text).rest is.content is.read is.runs

-- what a line makes of the faults behind it, as a loop over the lines meets it
pub fault_goes_on : (line n : ℕ) (p : Platform) (s t : State) (l : List ℕ) (ls : List (List ℕ)) (rest : List ℕ) (e : Entry) → entry_of l ≡ Some e → run_on p s e ≡ Some t
    → fault_from line n p s (l ∷ ls) rest ≡ fault_from (line + 1) (n + 1) p t ls rest
unfolding fault_from
fault_goes_on line n p s t l ls rest e is to = rw is (rw to refl)

pub fault_at_step : (line n : ℕ) (p : Platform) (s : State) (l : List ℕ) (ls : List (List ℕ)) (rest : List ℕ) (e : Entry) → entry_of l ≡ Some e → run_on p s e ≡ None
    → fault_from line n p s (l ∷ ls) rest ≡ at_line line Step
unfolding fault_from
fault_at_step line n p s l ls rest e is none = rw is (rw none refl)

pub fault_at_end : (line n : ℕ) (p : Platform) (s : State) (l : List ℕ) (ls : List (List ℕ)) (rest : List ℕ) → entry_of l ≡ None
    → fault_from line n p s (l ∷ ls) rest ≡ end_fault line n ls rest (end_of l)
unfolding fault_from
fault_at_end line n p s l ls rest none = rw none refl
