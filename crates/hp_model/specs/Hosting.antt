-- Entries that are hosted: the host's events were made, each once, in their order.
use Rattle.std.specs.Prelude.{◌≡◌, ◌≤◌, ◌<◌, ◌+◌, ℕ, Bool, true, false, List, length, take, slice_get, Some}
use Rattle.hp_model.specs.declared.platforms.Platform.{Platform}
use Rattle.hp_model.specs.declared.entries.Actor.{Actor}
use Rattle.hp_model.specs.declared.entries.Actor.TheVariants.{Insert, Remove, Cpu, Smi}
use Rattle.hp_model.specs.declared.entries.Event.{Event}
use Rattle.hp_model.specs.declared.entries.Entry.{Entry}
use Rattle.hp_model.specs.Platform.{is_late}
use Rattle.hp_model.specs.Runs.{actor_of, run}
use Rattle.hp_model.specs.State.{State}
use Rattle.hp_model.specs.Step.{after, step}

-- an actor of the host
abbrev pub is_host : Actor → Bool
is_host (Insert k) = true
is_host (Remove k) = true
is_host (Cpu k) = false
is_host (Smi k) = false

-- whose entry an entry of this platform is
abbrev pub owner_of : Platform → Event → Actor
owner_of p e = actor_of (is_late p.delivery) e

-- after m entries comes this event's entry, and the next mark is greater
pub record IsMadeAt (es : List Entry) (marks : List ℕ) (i m : ℕ) (x : Event) : Type 0 where
  pub entry : Entry
  pub at : slice_get es m ≡ Some entry
  pub event : entry.event ≡ x
  pub next : (n : ℕ) → slice_get marks (i + 1) ≡ Some n → m < n

-- an entry of the host is one of its events, whose mark is the number of entries before it
pub record IsMarked (p : Platform) (hosts : List Actor) (marks : List ℕ) (n : ℕ) (e : Entry) : Type 0 where
  pub place : ℕ
  pub mark : slice_get marks place ≡ Some n
  pub actor : slice_get hosts place ≡ Some (owner_of p e.event)

-- The entries are hosted by these actors from a place on: each has a mark, the number of entries at its turn. Where its event was a step then, it is the
-- entry after them; and no other entry from that place on is the host's.
pub record IsHosted (p : Platform) (es : List Entry) (from : ℕ) (hosts : List Actor) (marks : List ℕ) : Type 0 where
  pub many : length marks ≡ length hosts
  pub within : (i m : ℕ) → slice_get marks i ≡ Some m → (from ≤ m) × (m ≤ length es)
  pub rise : (i j m n : ℕ) → i < j → slice_get marks i ≡ Some m → slice_get marks j ≡ Some n → m ≤ n
  pub made : (i m : ℕ) (a : Actor) (s : State) (x : Event) → slice_get marks i ≡ Some m → slice_get hosts i ≡ Some a → run p (take m es) ≡ Some s →
      owner_of p x ≡ a → step p s x ≡ Some (after p s x) → IsMadeAt es marks i m x
  pub only : (n : ℕ) (e : Entry) → from ≤ n → slice_get es n ≡ Some e → is_host (owner_of p e.event) ≡ true → IsMarked p hosts marks n e
