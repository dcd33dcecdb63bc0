-- What is read from the entries of a trace: the triples of its sessions, the decisions on the reports that were answered, and how long its sessions are.
use Rattle.std.specs.Prelude.{ℕ, Bool, true, false, List, [], ◌∷◌, ◌++◌, length, drop, take, Option, Some, None}
use Rattle.hp_model.specs.declared.platforms.Platform.{Platform}
use Rattle.hp_model.specs.declared.outcomes.Outcome.{Outcome}
use Rattle.hp_model.specs.declared.entries.Entry.{Entry}
use Rattle.hp_model.specs.declared.files.File.{File}
use Rattle.hp_model.specs.declared.reports.Report.{Report}
use Rattle.hp_model.specs.declared.reports.Decision.{Decision}
use Rattle.hp_model.specs.Events.{outcome_in, is_resume_of}
use Rattle.hp_model.specs.Transitions.{since}
use Rattle.hp_model.specs.Account.{bound, is_known}
use Rattle.hp_model.specs.Sessions.{session, triples, open_triple, ends_outcome, held, is_disturbed}
use Rattle.hp_model.specs.Outcomes.{decision_by}

-- a triple: place, status and APIC ID
abbrev pub reported : ℕ → ℕ → ℕ → Report
reported cpu status apic = record { cpu = cpu; status = status; apic = apic }

-- a trace newest first
unfoldable pub back_from : List Entry → List Entry → List Entry
back_from older [] = older
back_from older (e ∷ es) = back_from (e ∷ older) es

-- its first entries, so many of them, newest first
abbrev pub first : ℕ → List Entry → List Entry
first n es = back_from [] (take n es)

abbrev pub whole : List Entry → List Entry
whole es = back_from [] es

-- the triples of each session that has ended
unfoldable pub session_triples : Platform → List Entry → List (List Report)
session_triples p [] = []
session_triples p (e ∷ older) =
    elim (is_resume_of 0 e.event) as (λ _. List (List Report)) [ true ↦ session_triples p older ++ triples p (session older) ∷ [] | false ↦ session_triples p older ]

-- and how many entries it has between the SMI entry of processor 0 and its RSM
unfoldable pub session_lengths : List Entry → List ℕ
session_lengths [] = []
session_lengths (e ∷ older) =
    elim (is_resume_of 0 e.event) as (λ _. List ℕ) [ true ↦ session_lengths older ++ length (session older) ∷ [] | false ↦ session_lengths older ]

-- the decisions on the reports that were answered
abbrev pub decision_of : Platform → List Entry → Option Outcome → List Decision
decision_of p older None = []
decision_of p older (Some o) = decision_by p (drop (length (since (ends_outcome p) older)) older) (open_triple p older) ∷ []

unfoldable pub decisions : Platform → List Entry → List Decision
decisions p [] = []
decisions p (e ∷ older) = decisions p older ++ decision_of p older (outcome_in e.event)

-- for a file's trace
abbrev pub bound_after : File → List Entry → List ℕ
bound_after f es = bound f.platform (whole es)

abbrev pub known_after : File → ℕ → List Entry → ℕ → Bool
known_after f n es apic = is_known f.platform (first n es) apic

abbrev pub held_after : File → ℕ → List Entry → Option ℕ
held_after f n es = held f.platform (first n es)

abbrev pub disturbed_after : File → ℕ → List Entry → Bool
disturbed_after f n es = is_disturbed f.platform (first n es)
