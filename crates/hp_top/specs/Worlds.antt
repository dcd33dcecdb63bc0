-- A world that boots, and what becomes of it.
use Rattle.std.specs.Prelude.{◌≡◌, ℕ, List, Option, Some, None, IsSome}
use Rattle.hp_model.specs.declared.platforms.Platform.{Platform}
use Rattle.hp_model.specs.declared.entries.Actor.{Actor}
use Rattle.hp_model.specs.declared.entries.Entry.{Entry}
use Rattle.hp_model.specs.declared.files.File.{File}
use Rattle.hp_model.specs.declared.outcomes.BootFact.{BootFact}
use Rattle.hp_model.specs.Following.{Follows, carried_all}
use Rattle.hp_model.specs.Runs.{run}
use Rattle.hp_model.specs.Schedule.{booted, boot_fact}
use Rattle.hp_model.specs.State.{State}
use Rattle.hp_model.specs.Voices.{Voice, Agree}
use Rattle.hp_platform.specs.Live.{Live}
use Rattle.hp_platform.specs.World.{World}
use Rattle.hp_threads.specs.Voicing.{IsCarried}
use Rattle.hp_top.specs.Doing.{Did}
use Rattle.hp_top.specs.Threaded.{IsThreaded}
use Rattle.hp_top.specs.Turns.{carried_start}

-- the machine of a world of this platform, in a state
abbrev pub machine_of : Platform → World → State → Live
machine_of p w s = record { platform = p; state = s; voices = w.voices; heard = w.heard; last = w.last }

-- the world after some of these actors acted: its entries are theirs, and follow what was told at the start
pub record IsBooting (p : Platform) (told : List (Option Voice)) (all rest : List Actor) (w : World) : Type 0 where
  pub platform : w.platform ≡ p
  pub entries : List Entry
  pub are : w.entries ≡ entries
  pub follows : Follows p (carried_start p told) entries
  pub carried : IsCarried p (carried_all p (carried_start p told) entries) w
  pub did : Did p (carried_start p told) all rest (machine_of p w (carried_all p (carried_start p told) entries).state) (λ es. es ≡ entries)

-- the world after its boot, by voices that agree with what was told at the start
pub record IsBooted (p : Platform) (told : List (Option Voice)) (w : World) : Type 0 where
  pub platform : w.platform ≡ p
  pub voices : List Voice
  pub agree : Agree told voices
  pub entries : w.entries ≡ (booted p voices).entries
  pub state : run p w.entries ≡ Some (booted p voices).scene.state
  pub follows : Follows p (carried_start p told) w.entries
  pub carried : IsCarried p (carried_all p (carried_start p told) w.entries) w

-- the entries of a boot that this value refused
pub record IsStopped (file : File) (told : List (Option Voice)) (fact : BootFact) (es : List Entry) : Type 0 where
  pub voices : List Voice
  pub agree : Agree told voices
  pub refused : boot_fact file.platform voices ≡ Some fact
  pub entries : es ≡ (booted file.platform voices).entries

-- what became of a file's machine, by the value that refused its boot, if one did
abbrev pub HasEntries : Option BootFact → File → List (Option Voice) → List Entry → Type 0
HasEntries None file told es = IsThreaded file told es
HasEntries (Some fact) file told es = IsStopped file told fact es
