-- What a call leaves.
use Rattle.std.specs.Prelude.{◌≡◌, ◌≤◌, ◌<◌, ◌+◌, ℕ, List, ◌++◌, length, drop, Some, slice_index_or}
use Rattle.hp_model.specs.declared.entries.Actor.{Actor}
use Rattle.hp_model.specs.declared.entries.Entry.{Entry}
use Rattle.hp_model.specs.declared.files.HostEvent.{HostEvent}
use Rattle.hp_model.specs.Following.{Follows, carried_all}
use Rattle.hp_model.specs.Hosting.{IsHosted}
use Rattle.hp_model.specs.Platform.{count_of}
use Rattle.hp_model.specs.Runs.{run}
use Rattle.hp_model.specs.State.{State}
use Rattle.hp_platform.specs.World.{World}
use Rattle.hp_threads.specs.Running.{host_actors}
use Rattle.hp_threads.specs.Shares.{share}
use Rattle.hp_threads.specs.Sharing.{HadNone, IsOfProcessor, owned_by}
use Rattle.hp_threads.specs.Voicing.{IsCarried, carried_from}

-- the entries behind those of the world at entry
abbrev pub added : World → World → List Entry
added entry w = drop (length entry.entries) w.entries

-- what a call leaves of the world at entry
pub record IsLeft (entry : World) (turns : ℕ) (hosts : List HostEvent) (w : World) (marks : List ℕ) : Type 0 where
  pub platform : w.platform ≡ entry.platform
  pub entries : w.entries ≡ entry.entries ++ added entry w
  pub asked : (k : ℕ) → k < count_of entry.platform → slice_index_or w.asked k 0 ≡ slice_index_or entry.asked k 0 + turns
  pub host : slice_index_or w.asked (count_of entry.platform) 0 ≡ slice_index_or entry.asked (count_of entry.platform) 0 + length hosts
  pub most : (a : Actor) → IsOfProcessor entry.platform a → owned_by entry.platform a (added entry w) ≤ share entry.platform.delivery a turns
  pub fewer : (a : Actor) → IsOfProcessor entry.platform a → owned_by entry.platform a (added entry w) < share entry.platform.delivery a turns →
      HadNone entry.platform w.entries (length entry.entries) a
  pub follows : (s : State) → run entry.platform entry.entries ≡ Some s → Follows entry.platform (carried_from entry s) (added entry w)
  pub carried : (s : State) → run entry.platform entry.entries ≡ Some s → IsCarried entry.platform (carried_all entry.platform (carried_from entry s) (added entry w)) w
  pub hosted : IsHosted entry.platform w.entries (length entry.entries) (host_actors hosts) marks
