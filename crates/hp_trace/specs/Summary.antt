-- What the entries of a run come to: how many they are, and how many of them tell an outcome of each kind.
use Rattle.std.specs.Prelude.{◌≡◌, ℕ, Bool, true, false, ◌+◌, List, [], ◌∷◌, length, filter, codes}
use Rattle.hp_model.specs.declared.outcomes.Outcome.{Outcome}
use Rattle.hp_model.specs.declared.outcomes.Outcome.TheVariants.{Added, Ejected, Refused}
use Rattle.hp_model.specs.declared.entries.Event.{Event}
use Rattle.hp_model.specs.declared.entries.Event.TheVariants.{Insert, Remove, Do, TakeSmi, TakeInit, Resume, Tell}
use Rattle.hp_model.specs.declared.entries.Entry.{Entry}
use Rattle.hp_model.specs.Text.{word, number, spell, line_of}
use Rattle.hp_trace.specs.declared.summaries.Summary.{Summary}

-- kinds of outcomes
abbrev pub is_added : Outcome → Bool
is_added (Added cpu apic slot) = true
is_added (Ejected cpu apic slot) = false
is_added (Refused refusal) = false

abbrev pub is_ejected : Outcome → Bool
is_ejected (Added cpu apic slot) = false
is_ejected (Ejected cpu apic slot) = true
is_ejected (Refused refusal) = false

abbrev pub is_refused : Outcome → Bool
is_refused (Added cpu apic slot) = false
is_refused (Ejected cpu apic slot) = false
is_refused (Refused refusal) = true

-- an outcome of this kind is told
abbrev pub tells : (Outcome → Bool) → Event → Bool
tells kind (Insert cpu) = false
tells kind (Remove cpu) = false
tells kind (Do cpu access) = false
tells kind (TakeSmi cpu) = false
tells kind (TakeInit cpu) = false
tells kind (Resume cpu) = false
tells kind (Tell outcome) = kind outcome

-- how many of the entries tell one
abbrev pub told : (Outcome → Bool) → List Entry → ℕ
told kind es = length (filter (λ e. tells kind e.event) es)

abbrev pub summary : List Entry → Summary
summary es = record { entries = length es; added = told is_added es; ejected = told is_ejected es; refused = told is_refused es }

-- the line of the run that a number makes
unfoldable pub summary_text : ℕ → Summary → List ℕ
summary_text n s =
    line_of
    (spell
    (word (codes "gen ") ∷ number n
    ∷ word (codes " entries ") ∷ number s.entries
    ∷ word (codes " added ") ∷ number s.added
    ∷ word (codes " ejected ") ∷ number s.ejected
    ∷ word (codes " refused ") ∷ number s.refused
    ∷ []))

-- the line of a trace of so many entries that is accepted
unfoldable pub ok_text : ℕ → List ℕ
ok_text n = line_of (spell (word (codes "ok ") ∷ number n ∷ []))

-- one more, or not
abbrev pub and_one : Bool → ℕ → ℕ
and_one true n = n + 1
and_one false n = n

-- an entry more
abbrev pub with_entry : Entry → Summary → Summary
with_entry e s =
    record {
      entries = s.entries + 1;
      added = and_one (tells is_added e.event) s.added;
      ejected = and_one (tells is_ejected e.event) s.ejected;
      refused = and_one (tells is_refused e.event) s.refused;
    }

-- it is the summary of some entries
pub record IsSummary (s : Summary) : Type 0 where
  pub of : List Entry
  pub is : s ≡ summary of
