-- What the actors of processors made of their turns.
use Rattle.std.specs.Prelude.{◌≡◌, ◌≤◌, ◌<◌, ◌+◌, ◌==◌, ℕ, Bool, false, List, length, take, count_by, Some, None, IsSome, slice_index_or}
use Rattle.hp_model.specs.declared.platforms.Platform.{Platform}
use Rattle.hp_model.specs.declared.entries.Actor.{Actor}
use Rattle.hp_model.specs.declared.entries.Actor.TheVariants.{Insert, Remove, Cpu, Smi}
use Rattle.hp_model.specs.declared.entries.Entry.{Entry}
use Rattle.hp_model.specs.Hosting.{owner_of}
use Rattle.hp_model.specs.Runs.{run}
use Rattle.hp_model.specs.State.{State}
use Rattle.hp_platform.specs.Agents.{HasNone}
use Rattle.hp_platform.specs.World.{World, idle_place_of}
use Rattle.hp_threads.specs.Shares.{share}

-- two actors are one
abbrev pub same_actor : Actor → Actor → Bool
same_actor (Insert k) (Insert j) = k == j
same_actor (Insert k) (Remove j) = false
same_actor (Insert k) (Cpu j) = false
same_actor (Insert k) (Smi j) = false
same_actor (Remove k) (Insert j) = false
same_actor (Remove k) (Remove j) = k == j
same_actor (Remove k) (Cpu j) = false
same_actor (Remove k) (Smi j) = false
same_actor (Cpu k) (Insert j) = false
same_actor (Cpu k) (Remove j) = false
same_actor (Cpu k) (Cpu j) = k == j
same_actor (Cpu k) (Smi j) = false
same_actor (Smi k) (Insert j) = false
same_actor (Smi k) (Remove j) = false
same_actor (Smi k) (Cpu j) = false
same_actor (Smi k) (Smi j) = k == j

-- how many of the entries belong to an actor
abbrev pub owned_by : Platform → Actor → List Entry → ℕ
owned_by p a es = count_by (λ e. same_actor (owner_of p e.event) a) es

-- an actor of a possible processor: the processor itself, or its SMI where that may come late
abbrev pub IsOfProcessor : Platform → Actor → Type 0
IsOfProcessor p a = IsSome (idle_place_of p a)

-- an actor had no step after some first entries, at least so many
pub record HadNone (p : Platform) (es : List Entry) (from : ℕ) (a : Actor) : Type 0 where
  pub after : ℕ
  pub since : from ≤ after
  pub within : after ≤ length es
  pub none : (s : State) → run p (take after es) ≡ Some s → HasNone p s a

-- the last turn that an actor had without a step came after at least so many entries
pub record IsIdleSince (p : Platform) (w : World) (from : ℕ) (a : Actor) : Type 0 where
  pub place : ℕ
  pub after : ℕ
  pub is_place : idle_place_of p a ≡ Some place
  pub idle : slice_index_or w.idle place None ≡ Some after
  pub since : from ≤ after

-- of the entries added those of an actor are at most its share of its processor's turns; where they are fewer, it was idle since
pub record KeepsShare (entry w : World) (added : List Entry) (a : Actor) (rose : ℕ) : Type 0 where
  pub most : owned_by entry.platform a added ≤ share entry.platform.delivery a rose
  pub fewer : owned_by entry.platform a added < share entry.platform.delivery a rose → IsIdleSince entry.platform w (length entry.entries) a

-- what processor k and its SMI made of its turns since the world at entry
pub record IsShared (entry w : World) (turns : ℕ) (added : List Entry) (k : ℕ) : Type 0 where
  pub rose : ℕ
  pub asked : slice_index_or w.asked k 0 ≡ slice_index_or entry.asked k 0 + rose
  pub within : rose ≤ turns
  pub own : KeepsShare entry w added (Cpu k) rose
  pub smi : KeepsShare entry w added (Smi k) rose
