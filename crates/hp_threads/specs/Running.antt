-- What stood at entry, and what is kept from then on.
use Rattle.std.specs.Prelude.{◌≡◌, ◌≤◌, ◌<◌, ◌+◌, ◌^◌, ℕ, true, false, List, [], ◌++◌, length, map, take, Some, slice_get, slice_index_or}
use Rattle.hp_model.specs.declared.platforms.Delivery.TheVariants.{Prompt}
use Rattle.hp_model.specs.declared.entries.Actor.{Actor}
use Rattle.hp_model.specs.declared.entries.Entry.{Entry}
use Rattle.hp_model.specs.declared.files.HostEvent.{HostEvent}
use Rattle.hp_model.specs.Boot.{is_handed}
use Rattle.hp_model.specs.Following.{Follows, carried_all}
use Rattle.hp_model.specs.Hosting.{IsHosted, is_host}
use Rattle.hp_model.specs.Platform.{count_of}
use Rattle.hp_model.specs.Runs.{run}
use Rattle.hp_model.specs.State.{State}
use Rattle.hp_platform.specs.World.{World}
use Rattle.hp_threads.specs.Sharing.{IsShared}
use Rattle.hp_threads.specs.Voicing.{IsCarried, carried_from}

-- the actors of host events, in their order
abbrev pub host_actors : List HostEvent → List Actor
host_actors hosts = map (λ h. h.actor) hosts

-- a world with nothing in it
abbrev pub no_world : World
no_world =
    record {
      platform = record {
        apic = [];
        boot = [];
        low_memory = 0;
        tseg_mib = 0;
        features = 0;
        polls = 0;
        turns = 0;
        modern = false;
        default_smram = false;
        delivery = Prompt;
        x2apic = false;
        ext_tseg = false;
      };
      entries = [];
      voices = [];
      heard = [];
      last = [];
      asked = [];
      idle = [];
    }

-- what is under the lock: the world, and how many entries it had before each host event that was made
pub record Running : Type 0 where
  pub world : World
  pub marks : List ℕ

-- what a call asks of the world at entry, its turns and its host events
pub record IsReady (entry : World) (turns : ℕ) (hosts : List HostEvent) : Type 0 where
  pub handed : (s : State) → run entry.platform entry.entries ≡ Some s → is_handed s.stage ≡ true
  pub small : (place : ℕ) → slice_index_or entry.asked place 0 < 2 ^ 63
  pub few : turns < 2 ^ 32
  pub fits : length hosts < 2 ^ 63
  pub host : (i : ℕ) (a : Actor) → slice_get (host_actors hosts) i ≡ Some a → is_host a ≡ true

-- What is kept since the world at entry: the platform; its entries, with those added behind them; of each processor what it made of its turns; how many of
-- the host's events were made; that the entries added follow the voices at entry, with what is carried of them; that all entries are hosted.
pub record IsKept (entry : World) (turns : ℕ) (hosts : List HostEvent) (r : Running) : Type 0 where
  pub ready : IsReady entry turns hosts
  pub state : State
  pub added : List Entry
  pub start : run entry.platform entry.entries ≡ Some state
  pub places : length entry.asked ≡ count_of entry.platform + 1
  pub platform : r.world.platform ≡ entry.platform
  pub entries : r.world.entries ≡ entry.entries ++ added
  pub handed : is_handed (carried_all entry.platform (carried_from entry state) added).state.stage ≡ true
  pub cpus : (k : ℕ) → k < count_of entry.platform → IsShared entry r.world turns added k
  pub host : slice_index_or r.world.asked (count_of entry.platform) 0 ≡ slice_index_or entry.asked (count_of entry.platform) 0 + length r.marks
  pub marked : length r.marks ≤ length hosts
  pub follows : Follows entry.platform (carried_from entry state) added
  pub carried : IsCarried entry.platform (carried_all entry.platform (carried_from entry state) added) r.world
  pub hosted : IsHosted entry.platform r.world.entries (length entry.entries) (take (length r.marks) (host_actors hosts)) r.marks
