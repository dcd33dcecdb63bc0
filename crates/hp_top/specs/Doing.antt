-- Parts of the schedule, by whatever is said of the entries that they make.
use Rattle.std.specs.Prelude.{◌≡◌, ℕ, List, ◌++◌, length, Option}
use Rattle.std.specs.Io.KnownBytes.{Appends}
use Rattle.hp_model.specs.declared.platforms.Platform.{Platform}
use Rattle.hp_model.specs.declared.entries.Actor.{Actor}
use Rattle.hp_model.specs.declared.entries.Entry.{Entry}
use Rattle.hp_model.specs.Following.{Carried}
use Rattle.hp_model.specs.Schedule.{Scene, Made, act_all}
use Rattle.hp_model.specs.Text.{lines_text}
use Rattle.hp_platform.specs.Carrying.{Leads}
use Rattle.hp_platform.specs.Live.{Live}
use Rattle.hp_trace.specs.declared.summaries.Summary.{Summary}
use Rattle.hp_trace.specs.Summary.{summary}
use Rattle.hp_top.specs.Lives.{StandsFor}

-- entries were made as a part of the schedule does, and this is so of them: what the machine then stands for
pub record Does (p : Platform) (live : Live) (c : Carried) (part : Scene → Made) (So : List Entry → Type 0) : Type 0 where
  pub entries : List Entry
  pub left : Carried
  pub leads : Leads c part entries left
  pub shows : StandsFor p live left
  pub so : So entries

-- these actors acted, as far as they did
pub record Did (p : Platform) (c : Carried) (all rest : List Actor) (live : Live) (So : List Entry → Type 0) : Type 0 where
  pub front : List Actor
  pub actors : front ++ rest ≡ all
  pub does : Does p live c (λ w. act_all p w front) So

-- a summary counted them behind those before them
abbrev pub Counted : Summary → Summary → List Entry → Type 0
Counted old new es = (before : List Entry) → old ≡ summary before → new ≡ summary (before ++ es)

abbrev pub Sums : Platform → Live → Carried → (Scene → Made) → Summary → Summary → Type 0
Sums p live c part old new = Does p live c part (Counted old new)

-- so many there are, and their lines were appended
pub record HasSent (made : ℕ) (old new : Option (List ℕ)) (es : List Entry) : Type 0 where
  pub count : length es ≡ made
  pub lines : Appends old new (lines_text es)

abbrev pub Sends : Platform → Live → Carried → (Scene → Made) → ℕ → Option (List ℕ) → Option (List ℕ) → Type 0
Sends p live c part made old new = Does p live c part (HasSent made old new)

abbrev pub DoneActors : Platform → Carried → List Actor → List Actor → Live → ℕ → Option (List ℕ) → Option (List ℕ) → Type 0
DoneActors p c all rest live made old new = Did p c all rest live (HasSent made old new)
