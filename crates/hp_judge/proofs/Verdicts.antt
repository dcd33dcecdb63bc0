-- What a stage of the code says of the text that led to it.
use Rattle.std.proofs.Common.{◌≡◌, ℕ, ◌+◌, ◌<◌, ◌≤◌, true, false, List, [], ◌∷◌, ◌++◌, length, take, get_or, Option, Some, None, Result, Ok, Err, refl, sym, ap, subst, ◌∙◌, append_assoc, arith}
use Rattle.std.proofs.lemmas.List.{take_more}
use Rattle.std.proofs.lemmas.Option.{same_Some}
use Rattle.std.specs.Option.{IsSome}
use Rattle.hp_model.specs.declared.platforms.Platform.{Platform}
use Rattle.hp_model.specs.declared.entries.Entry.{Entry}
use Rattle.hp_model.specs.Platform.{IsFit}
use Rattle.hp_model.specs.Runs.{run}
use Rattle.hp_model.specs.Safety.{IsSafe}
use Rattle.hp_model.specs.State.{State}
use Rattle.hp_reading.specs.Fault.{fault_of, IsRunsTrace}
use Rattle.hp_reading.specs.Trace.{TraceContent, IsTrace, cut}
use Rattle.hp_reading.proofs.FaultLines.{faults_are_none}
use Rattle.hp_reading.proofs.TraceLines.{traces_are_read}
use Rattle.hp_judge.specs.declared.refusals.Refusal.{Refusal}
use Rattle.hp_judge.specs.declared.stages.Stage.{Stage}
use Rattle.hp_judge.specs.declared.stages.Stage.TheVariants.{Heading, Going, Ended, Refused}
use Rattle.hp_judge.specs.Bytes.{Judged, nothing_judged, after_bytes, has_no_feed, verdict_behind}
use Rattle.hp_judge.specs.Judging.{fault_told, IsAccepted, Judges}
use Rattle.hp_judge.specs.Standing.{HasEntries, fault_by, verdict, verdict_of, heading, is_refused, after_line, after_lines}
use Rattle.hp_judge.specs.Stages.{IsHeld, IsJudging, judged, standing, text_of, told_by}
use Rattle.hp_judge.proofs.Bytes.{begins_so, ends_so, refused_behind, unrefused}
use Rattle.hp_judge.proofs.Lines.{fault_is, has_entries}
use Rattle.hp_judge.proofs.Taking.{after-append, line_taken}

-- a refusal is the first fault, whatever follows
pub settled : (text : List ℕ) (stage : Stage) (rest : List ℕ) (r : Refusal) → IsJudging text stage rest → stage ≡ Refused r → (more : List ℕ) → fault_of (text ++ more) ≡ Some (fault_told r)
settled text stage rest r is at more =
    fault_is (text ++ more) ∙ ap fault_by (begins_so text more ∙ ap (λ (j : Judged). verdict_behind j more) (is.led ∙ ap (λ (s : Stage). judged s rest) at) ∙ refused_behind (fault_told r) rest more)

open_stage : (stage : Stage) → ((r : Refusal) → stage ≡ Refused r → ⊥) → is_refused (standing stage) ≡ false
open_stage Heading never = refl
open_stage (Going w n) never = refl
open_stage (Ended n) never = refl
open_stage (Refused r) never = absurd (never r refl)

pub unsettled : (text : List ℕ) (stage : Stage) (rest : List ℕ) → IsJudging text stage rest → ((r : Refusal) → stage ≡ Refused r → ⊥) → is_refused (after_lines heading (cut text).lines) ≡ false
unsettled text stage rest is never = unrefused text (ap (λ (j : Judged). is_refused j.standing) is.led ∙ open_stage stage never)

pub text_of-snoc : (xs : List (ℕ × Unit {0})) (c : ℕ) (u : Unit {0}) → text_of (xs ++ (c, u) ∷ []) ≡ text_of xs ++ c ∷ []
text_of-snoc [] c u = refl
text_of-snoc (x ∷ xs) c u = ap (λ (t : List ℕ). x.0 ∷ t) (text_of-snoc xs c u)

pub byte_noted : (xs ys old : List (ℕ × Unit {0})) (bytes : List ℕ) (i d : ℕ) (u : Unit {0}) → ys ≡ xs ++ (get_or bytes i d, u) ∷ [] → i < length bytes → text_of xs ≡ text_of old ++ take i bytes
    → text_of ys ≡ text_of old ++ take (i + 1) bytes
byte_noted xs ys old bytes i d u more h so_far =
    ap text_of more ∙ text_of-snoc xs (get_or bytes i d) u
    ∙ ap (λ (t : List ℕ). t ++ get_or bytes i d ∷ []) so_far
    ∙ append_assoc (text_of old) (take i bytes) (get_or bytes i d ∷ [])
    ∙ ap (λ (t : List ℕ). text_of old ++ t) (sym (take_more bytes i d h))

-- a judge that has taken nothing, and one piece more
pub none_judged : (xs : List (ℕ × Unit {0})) (rest : List ℕ) → xs ≡ [] → rest ≡ [] → IsJudging (text_of xs) Heading rest
unfolding after_bytes
none_judged xs rest none empty = rw (none, empty) (record { held = tt; led = refl })

pub piece_judged : (xs ys : List (ℕ × Unit {0})) (text : List ℕ) (stage next : Stage) (rest more : List ℕ) → text_of ys ≡ text_of xs ++ text → IsJudging (text_of xs) stage rest → IsHeld next
    → judged next more ≡ after_bytes (judged stage rest) text → IsJudging (text_of ys) next more
piece_judged xs ys text stage next rest more longer is held led = record {
  held = held;
  led = ap (after_bytes nothing_judged) longer ∙ after-append (text_of xs) text nothing_judged ∙ ap (λ (j : Judged). after_bytes j text) is.led ∙ sym led;
}

pub line_judged : (xs half ys : List (ℕ × Unit {0})) (line : List ℕ) (stage next : Stage) (rest : List ℕ) → text_of half ≡ text_of xs ++ line → text_of ys ≡ text_of half ++ 10 ∷ []
    → IsJudging (text_of xs) stage rest → IsHeld next → length rest ≡ 0 → has_no_feed line ≡ true → length line ≤ 12288 → standing next ≡ after_line (standing stage) line
    → IsJudging (text_of ys) next rest
line_judged xs half ys line stage next rest longer longest is held empty free short led =
    piece_judged xs ys (line ++ 10 ∷ []) stage next rest rest (longest ∙ ap (λ (t : List ℕ). t ++ 10 ∷ []) longer ∙ append_assoc (text_of xs) line (10 ∷ [])) is held
    (subst (λ (kept : List ℕ). judged next kept ≡ after_bytes (judged stage kept) (line ++ 10 ∷ [])) (sym (none rest empty)) (line_taken (standing stage) (standing next) line free short led))
  where
    none : (rest : List ℕ) → length rest ≡ 0 → rest ≡ []
    none [] e = refl
    none (c ∷ rest) e = absurd (omega (arith, e))

-- where the text ends
accepted : (text : List ℕ) (n : ℕ) → verdict_of text ≡ Ok n → ((p : Platform) (es : List Entry) (s : State) → IsFit p → run p es ≡ Some s → IsSafe p es) → IsAccepted text n
accepted text n is safe = by (run has.content.platform has.content.entries) refl runs
  where
    none : fault_of text ≡ None
    none = fault_is text ∙ ap fault_by is

    has : HasEntries text n
    has = has_entries text n is

    spelled : IsTrace text has.content
    spelled = (traces_are_read text has.content).0 has.read

    found : IsRunsTrace text
    found = (faults_are_none text).0 none

    runs : IsSome (run has.content.platform has.content.entries)
    runs = subst (λ (t : TraceContent). IsSome (run t.platform t.entries)) (same_Some found.content has.content (sym found.read ∙ has.read)) found.runs

    by : (o : Option State) → run has.content.platform has.content.entries ≡ o → IsSome o → IsAccepted text n
    by None e some = absurd cc
    by (Some s) e some = record {
      fault = none;
      content = has.content;
      read = has.read;
      count = has.count;
      fit = spelled.fit;
      runs = runs;
      safe = safe has.content.platform has.content.entries s spelled.fit e;
    }

pub finished : (text : List ℕ) (stage : Stage) (rest : List ℕ) (result : Result ℕ Refusal) → IsJudging text stage rest → told_by result ≡ verdict (standing stage) rest
    → ((p : Platform) (es : List Entry) (s : State) → IsFit p → run p es ≡ Some s → IsSafe p es) → Judges text result
finished text stage rest result is told safe = by result (ends_so text ∙ ap (λ (j : Judged). verdict j.standing j.rest) is.led ∙ sym told)
  where
    by : (result : Result ℕ Refusal) → verdict_of text ≡ told_by result → Judges text result
    by (Ok n) found = accepted text n found safe
    by (Err r) found = fault_is text ∙ ap fault_by found
