-- Words for events: what they are, and whose.
use Rattle.std.specs.Prelude.{ℕ, Bool, true, false, ◌==◌, Option, Some, None}
use Rattle.hp_model.specs.declared.accesses.Access.{Access}
use Rattle.hp_model.specs.declared.outcomes.Outcome.{Outcome}
use Rattle.hp_model.specs.declared.entries.Event.{Event}
use Rattle.hp_model.specs.declared.entries.Event.TheVariants.{Insert, Remove, Do, TakeSmi, TakeInit, Resume, Tell}

-- the access that is made
abbrev pub access_in : Event → Option Access
access_in (Insert k) = None
access_in (Remove k) = None
access_in (Do k a) = Some a
access_in (TakeSmi k) = None
access_in (TakeInit k) = None
access_in (Resume k) = None
access_in (Tell o) = None

-- the outcome that is told
abbrev pub outcome_in : Event → Option Outcome
outcome_in (Insert k) = None
outcome_in (Remove k) = None
outcome_in (Do k a) = None
outcome_in (TakeSmi k) = None
outcome_in (TakeInit k) = None
outcome_in (Resume k) = None
outcome_in (Tell o) = Some o

-- processor k makes an access, enters SMM, or leaves it
abbrev pub is_access_of : ℕ → Event → Bool
is_access_of k (Insert j) = false
is_access_of k (Remove j) = false
is_access_of k (Do j a) = j == k
is_access_of k (TakeSmi j) = false
is_access_of k (TakeInit j) = false
is_access_of k (Resume j) = false
is_access_of k (Tell o) = false

abbrev pub is_entry_of : ℕ → Event → Bool
is_entry_of k (Insert j) = false
is_entry_of k (Remove j) = false
is_entry_of k (Do j a) = false
is_entry_of k (TakeSmi j) = j == k
is_entry_of k (TakeInit j) = false
is_entry_of k (Resume j) = false
is_entry_of k (Tell o) = false

abbrev pub is_resume_of : ℕ → Event → Bool
is_resume_of k (Insert j) = false
is_resume_of k (Remove j) = false
is_resume_of k (Do j a) = false
is_resume_of k (TakeSmi j) = false
is_resume_of k (TakeInit j) = false
is_resume_of k (Resume j) = j == k
is_resume_of k (Tell o) = false

-- a processor makes an access or takes INIT
abbrev pub acts : Event → Bool
acts (Insert k) = false
acts (Remove k) = false
acts (Do k a) = true
acts (TakeSmi k) = false
acts (TakeInit k) = true
acts (Resume k) = false
acts (Tell o) = false
