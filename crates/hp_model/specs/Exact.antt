-- The law of sessions (own rules): they are quiet, their reports are true, each has one outcome, and an outcome is what happened.
use Rattle.std.specs.Prelude.{◌≡◌, ℕ, Bool, true, false, ◌&&◌, ◌||◌, not, ◌==◌, nat_lt, ◌-◌, List, [], ◌∷◌, length, drop, Option, Some, None}
use Rattle.std.specs.List.{list_all}
use Rattle.hp_model.specs.declared.platforms.Platform.{Platform}
use Rattle.hp_model.specs.declared.labels.Label.TheVariants.{C4, C6, E5}
use Rattle.hp_model.specs.declared.entries.Entry.{Entry}
use Rattle.hp_model.specs.Platform.{apic_of, is_late}
use Rattle.hp_model.specs.Block.{slot_at, status}
use Rattle.hp_model.specs.declared.reports.Report.{Report}
use Rattle.hp_model.specs.Monarch.{is_that, is_own}
use Rattle.hp_model.specs.Events.{acts, is_resume_of}
use Rattle.hp_model.specs.Transitions.{Transition, transitions, entries_of, at_each, newest, moved_in}
use Rattle.hp_model.specs.Account.{is_at}
use Rattle.hp_model.specs.Sessions.{session, triples, outcomes, held, is_called_in, is_disturbed, is_outside}
use Rattle.hp_model.specs.Outcomes.{each_told, answers, shows, loses_none}

-- under prompt delivery no processor outside SMM makes an access or takes INIT while a session has all others called in
unfoldable pub is_quiet : Platform → List Transition → Transition → Bool
is_quiet p older x =
    elim (not (is_late p.delivery) && (acts x.entry.event && is_outside x.entry.at)) as (λ _. Bool)
    [ true ↦ not (is_called_in p (entries_of older)) | false ↦ true ]

-- the processors of a session's triples rise strictly
abbrev pub rises : List Report → Bool
rises [] = true
rises (t ∷ ts) = list_all (λ u. nat_lt t.cpu u.cpu) ts && rises ts

-- the last triple is true: its status was the processor's before C4, and its APIC ID is the processor's, which isn't processor 0
abbrev pub has_status : Report → Option Transition → Bool
has_status t None = false
has_status t (Some x) = status (slot_at x.before.block t.cpu) == t.status

abbrev pub is_true : Platform → List Transition → Report → Bool
is_true p past t = is_own p.apic t && has_status t (newest (λ x. is_at p C4 x.entry) past)

abbrev pub last_is_true : Platform → List Transition → List Report → Bool
last_is_true p past ts = list_all (is_true p past) (drop (length ts - 1) ts)

unfoldable pub reports_truly : Platform → List Transition → Transition → Bool
reports_truly p older x =
    elim (is_at p C6 x.entry) as (λ _. Bool) [
      | true ↦
          let es = entries_of (x ∷ older) in
          let ts = triples p (session es) in
          rises ts && (is_disturbed p es || last_is_true p older ts)
      | false ↦ true
    ]

-- a session that comes to E5 has answered all
unfoldable pub answers_all : Platform → List Transition → Transition → Bool
answers_all p older x =
    elim (is_at p E5 x.entry) as (λ _. Bool)
    [ true ↦ let es = session (entries_of older) in length (triples p es) == length (outcomes es) | false ↦ true ]

-- no SMBASE changes but by the own RSM of the processor whose APIC ID is held
abbrev pub is_held : Platform → List Transition → Transition → ℕ → Bool
is_held p older x k = is_resume_of k x.entry.event && is_that (held p (entries_of older)) (apic_of p k)

abbrev pub moves_held : Platform → List Transition → Transition → Bool
moves_held p older x = list_all (is_held p older x) (moved_in p x)

-- sessions do what they tell, and nothing else
pub record IsExact (p : Platform) (es : List Entry) : Type 0 where
  pub quiet : at_each (is_quiet p) (transitions p es) ≡ true
  pub reports : at_each (reports_truly p) (transitions p es) ≡ true
  pub outcomes_answer : each_told p answers (transitions p es) ≡ true
  pub all_answered : at_each (answers_all p) (transitions p es) ≡ true
  pub outcomes_show : each_told p (shows p) (transitions p es) ≡ true
  pub none_lost : each_told p (loses_none p) (transitions p es) ≡ true
  pub held_alone : at_each (moves_held p) (transitions p es) ≡ true
