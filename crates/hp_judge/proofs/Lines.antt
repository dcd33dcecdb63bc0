-- A text judged line by line has the first fault of the whole text, and the number of its entries.
use Rattle.std.proofs.Common.{◌≡◌, ℕ, ◌+◌, ◌==◌, Bool, true, false, List, [], ◌∷◌, length, Option, Some, None, Result, Ok, option_and_then, option_map, if◌then◌else◌, refl, sym, ap, ◌∙◌, arith}
use Rattle.std.proofs.lemmas.Option.{none-some, same_Some}
use Rattle.hp_model.specs.declared.platforms.Platform.{Platform}
use Rattle.hp_model.specs.declared.entries.Entry.{Entry}
use Rattle.hp_model.specs.Runs.{run_on}
use Rattle.hp_model.specs.State.{State, start}
use Rattle.hp_reading.specs.Fault.{Cause, Fault, Line, Step, End, at_line, end_fault, step_fault, line_fault, fault_from, behind_header, fault_in, fault_of}
use Rattle.hp_reading.specs.Header.{head_of}
use Rattle.hp_reading.specs.Lines.{entry_of, end_of}
use Rattle.hp_reading.specs.Trace.{cut, ended as ended_list, by_entry, entries_of, TraceContent, content_by, trace_of}
use Rattle.hp_reading.proofs.FaultLines.{faults_are_none}
use Rattle.hp_reading.proofs.Front.{mapped}
use Rattle.hp_judge.specs.Standing.{Standing, heading, going, ended, refused, refusing, by_head, by_end, by_step, by_line, after_line, after_lines, verdict, verdict_of, fault_by, HasEntries}

-- no line counts behind a refusal
pub refused_stays : (ls : List (List ℕ)) (f : Fault) → after_lines (refused f) ls ≡ refused f
unfolding after_lines after_line
refused_stays [] f = refl
refused_stays (l ∷ ls) f = refused_stays ls f

at_refused : (line : ℕ) (cause : Cause) (ls : List (List ℕ)) (rest : List ℕ) → at_line line cause ≡ fault_by (verdict (after_lines (refusing line cause) ls) rest)
at_refused line cause ls rest = ap (λ (x : Standing). fault_by (verdict x rest)) (sym (refused_stays ls (record { line = line; cause = cause })))

-- a line that is no entry's
at_end : (n m : ℕ) (ls : List (List ℕ)) (rest : List ℕ) → end_fault (n + 2) n ls rest (Some m) ≡ fault_by (verdict (after_lines (by_end n (Some m)) ls) rest)
unfolding after_lines after_line
at_end n m [] [] = by (m == n)
  where
    by : (t : Bool) → (if t then None else at_line (n + 2) End) ≡ fault_by (verdict (if t then ended n else refusing (n + 2) End) [])
    by true = refl
    by false = refl
at_end n m [] (c ∷ rest) = by (m == n)
  where
    by : (t : Bool) → at_line (n + 2) End ≡ fault_by (verdict (if t then ended n else refusing (n + 2) End) (c ∷ rest))
    by true = refl
    by false = refl
at_end n m (l ∷ ls) rest = by (m == n)
  where
    by : (t : Bool) → at_line (n + 2) End ≡ fault_by (verdict (after_lines (after_line (if t then ended n else refusing (n + 2) End) l) ls) rest)
    by true = at_refused (n + 2) End ls rest
    by false = at_refused (n + 2) End ls rest

at_other : (n : ℕ) (o : Option ℕ) (ls : List (List ℕ)) (rest : List ℕ) → end_fault (n + 2) n ls rest o ≡ fault_by (verdict (after_lines (by_end n o) ls) rest)
at_other n None ls rest = at_refused (n + 2) Line ls rest
at_other n (Some m) ls rest = at_end n m ls rest

-- behind the header, from this line on
at_going : (ls : List (List ℕ)) (line n : ℕ) (p : Platform) (s : State) (rest : List ℕ) → line ≡ n + 2
    → fault_from line n p s ls rest ≡ fault_by (verdict (after_lines (going p s n) ls) rest)
unfolding fault_from after_lines after_line
at_going [] line n p s [] is = ap (λ (k : ℕ). at_line k End) is
at_going [] line n p s (c ∷ rest) is = ap (λ (k : ℕ). at_line k Line) is
at_going (l ∷ ls) line n p s rest is = by (entry_of l) (λ t. at_going ls (line + 1) (n + 1) p t rest (omega (arith, is)))
  where
    step : (o : Option State) → ((t : State) → fault_from (line + 1) (n + 1) p t ls rest ≡ fault_by (verdict (after_lines (going p t (n + 1)) ls) rest))
        → step_fault line o (λ t. fault_from (line + 1) (n + 1) p t ls rest) ≡ fault_by (verdict (after_lines (by_step p n o) ls) rest)
    step None later = ap (λ (k : ℕ). at_line k Step) is ∙ at_refused (n + 2) Step ls rest
    step (Some t) later = later t

    by : (o : Option Entry) → ((t : State) → fault_from (line + 1) (n + 1) p t ls rest ≡ fault_by (verdict (after_lines (going p t (n + 1)) ls) rest))
        → line_fault line p s o (λ t. fault_from (line + 1) (n + 1) p t ls rest) (end_fault line n ls rest (end_of l))
        ≡ fault_by (verdict (after_lines (by_line p s n o (by_end n (end_of l))) ls) rest)
    by None later = ap (λ (k : ℕ). end_fault k n ls rest (end_of l)) is ∙ at_other n (end_of l) ls rest
    by (Some x) later = step (run_on p s x) later

pub fault_is : (text : List ℕ) → fault_of text ≡ fault_by (verdict_of text)
unfolding fault_of verdict_of after_lines after_line
fault_is text = whole (cut text).lines (cut text).rest
  where
    by : (ls : List (List ℕ)) (rest : List ℕ) (o : Option Platform) → behind_header ls rest o ≡ fault_by (verdict (after_lines (by_head o) ls) rest)
    by ls rest None = at_refused 1 Line ls rest
    by ls rest (Some p) = at_going ls 2 0 p (start p) rest (omega arith)

    whole : (ls : List (List ℕ)) (rest : List ℕ) → fault_in ls rest ≡ fault_by (verdict (after_lines heading ls) rest)
    whole [] [] = refl
    whole [] (c ∷ rest) = refl
    whole (l ∷ ls) rest = by ls rest (head_of l)

-- the number that is found is the entries'
no_end : {P : Type 0} (ls : List (List ℕ)) (f : Fault) (m : ℕ) → after_lines (refused f) ls ≡ ended m → P
no_end ls f m is = no (sym (refused_stays ls f) ∙ is)
  where
    no : {P : Type 0} → refused f ≡ ended m → P
    no e = absurd cc

counts_end : (n m k : ℕ) (ls : List (List ℕ)) (es : List Entry) → ended_list n ls (Some k) ≡ Some es → after_lines (by_end n (Some k)) ls ≡ ended m → n + length es ≡ m
unfolding after_lines
counts_end n m k (l ∷ ls) es read is = absurd (none-some es read)
counts_end n m k [] es read is = by (k == n) read is
  where
    same : ended n ≡ ended m → n ≡ m
    same e = cc

    by : (t : Bool) → (if t then Some [] else None) ≡ Some es → (if t then ended n else refusing (n + 2) End) ≡ ended m → n + length es ≡ m
    by false read is = absurd (none-some es read)
    by true read is = omega (arith, same is, ap length (same_Some [] es read))

counts : (ls : List (List ℕ)) (n m : ℕ) (p : Platform) (s : State) (es : List Entry) → entries_of n ls ≡ Some es → after_lines (going p s n) ls ≡ ended m → n + length es ≡ m
unfolding entries_of after_lines after_line
counts [] n m p s es read is = absurd (none-some es read)
counts (l ∷ ls) n m p s es read is = by (entry_of l) (λ t fs found is. counts ls (n + 1) m p t fs found is) read is
  where
    other : (o : Option ℕ) → ended_list n ls o ≡ Some es → after_lines (by_end n o) ls ≡ ended m → n + length es ≡ m
    other None read is = absurd (none-some es read)
    other (Some k) read is = counts_end n m k ls es read is

    step : (x : Entry) (fs : List Entry) (o : Option State) → ((t : State) → after_lines (going p t (n + 1)) ls ≡ ended m → n + 1 + length fs ≡ m) → x ∷ fs ≡ es
        → after_lines (by_step p n o) ls ≡ ended m → n + length es ≡ m
    step x fs None later same is = no_end ls _ m is
    step x fs (Some t) later same is = omega (arith, later t is, ap length same)

    by : (o : Option Entry) → ((t : State) (fs : List Entry) → entries_of (n + 1) ls ≡ Some fs → after_lines (going p t (n + 1)) ls ≡ ended m → n + 1 + length fs ≡ m)
        → by_entry o (λ e. option_map (λ es. e ∷ es) (entries_of (n + 1) ls)) (ended_list n ls (end_of l)) ≡ Some es
        → after_lines (by_line p s n o (by_end n (end_of l))) ls ≡ ended m → n + length es ≡ m
    by None later read is = other (end_of l) read is
    by (Some x) later read is = mapped (λ es. x ∷ es) (entries_of (n + 1) ls) es read (λ fs found same. step x fs (run_on p s x) (λ t is. later t fs found is) same is)

abbrev ok : ℕ → Result ℕ Fault
ok n = Ok n

ok_ended : (x : Standing) (n : ℕ) → verdict x [] ≡ Ok n → x ≡ ended n
ok_ended heading n is = absurd cc
ok_ended (going p s m) n is = absurd cc
ok_ended (ended m) n is = ap ended (same is)
  where
    same : ok m ≡ ok n → m ≡ n
    same e = cc
ok_ended (refused f) n is = absurd cc

counts_all : (ls : List (List ℕ)) (rest : List ℕ) (n : ℕ) (t : TraceContent) → content_by ls rest ≡ Some t → verdict (after_lines heading ls) rest ≡ Ok n → length t.entries ≡ n
unfolding after_lines after_line
counts_all [] rest n t read is = absurd (none-some t read)
counts_all (l ∷ ls) (c ∷ rest) n t read is = absurd (none-some t read)
counts_all (l ∷ ls) [] n t read is = by (head_of l) read is
  where
    by : (o : Option Platform) → option_and_then (λ p. option_map (λ es. record { platform = p; entries = es }) (entries_of 0 ls)) o ≡ Some t
        → verdict (after_lines (by_head o) ls) [] ≡ Ok n → length t.entries ≡ n
    by None read is = absurd (none-some t read)
    by (Some p) read is =
        mapped (λ es. record { platform = p; entries = es }) (entries_of 0 ls) t read
        (λ es found same.
        omega (arith, ap (λ (t : TraceContent). length t.entries) same, counts ls 0 n p (start p) es found (ok_ended (after_lines (going p (start p) 0) ls) n is)))

pub has_entries : (text : List ℕ) (n : ℕ) → verdict_of text ≡ Ok n → HasEntries text n
unfolding verdict_of trace_of
has_entries text n is =
    let run = (faults_are_none text).0 (fault_is text ∙ ap fault_by is) in
    record { content = run.content; read = run.read; count = counts_all (cut text).lines (cut text).rest n run.content run.read is }
