-- The rule of a gate (own rule): what holds of its four words and of the views of all seats, between any two steps.
use Rattle.std.specs.Prelude.{◌≡◌, ◌≢◌, ◌⊎◌, ℕ, ◌^◌, ◌<◌, ◌≤◌, true, List, [], ◌∷◌, map, length}
use mathlib.Core.Option.{some}
use lib.ListN.{get_elem?}
use Rattle.atomic_table.specs.Table.{State}
use Rattle.hp_model.specs.Block.{is_in}
use Rattle.hp_model.specs.SharedBytes.{closed}
use Rattle.hp_gate.specs.Openings.{apics_of, base_of, IsListedBase, IsDistinct, opened, IsOpening, word_of, Above, Falls, behind}
use Rattle.hp_gate.specs.declared.views.Named.{Named}
use Rattle.hp_gate.specs.declared.views.Stage.{Stage}
use Rattle.hp_gate.specs.declared.views.Stage.TheVariants.{Idle, Stored, Open, Shut}
use Rattle.hp_gate.specs.declared.views.Work.{Work}
use Rattle.hp_gate.specs.declared.views.Work.TheVariants.{Free, Passed, Flagged}
use Rattle.hp_gate.specs.declared.views.MonarchView.{MonarchView}
use Rattle.hp_gate.specs.declared.views.CpuView.{CpuView}
use Rattle.hp_gate.specs.declared.views.View.{View}
use Rattle.hp_gate.specs.declared.views.View.TheVariants.{Monarch, Cpu}

-- the words, and the views of the monarch and of the processors, those in the order of their seats
pub record Words : Type 0 where
  pub gate : ℕ
  pub base : ℕ
  pub flag : ℕ
  pub arrived : ℕ
  pub monarch : MonarchView
  pub cpus : List CpuView

-- the places of the words
abbrev pub gate_word : ℕ
gate_word = 0

abbrev pub base_word : ℕ
base_word = 1

abbrev pub flag_word : ℕ
flag_word = 2

abbrev pub arrived_word : ℕ
arrived_word = 3

abbrev pub words_of : Words → List ℕ
words_of d = d.gate ∷ d.base ∷ d.flag ∷ d.arrived ∷ []

abbrev pub views_of : Words → List View
views_of d = Monarch d.monarch ∷ map Cpu d.cpus

-- the last opening is of this APIC ID, and isn't finished
abbrev pub IsUnfinished : Stage → ℕ → Type 0
IsUnfinished Idle apic = ⊥
IsUnfinished (Stored base) apic = ⊥
IsUnfinished (Open a) apic = a ≡ apic
IsUnfinished (Shut a) apic = a ≡ apic

-- while a base is stored for the next opening the word is that one, of a listed APIC ID; while an opening isn't finished it is that opening's
abbrev pub HoldsBase : List Named → ℕ → Stage → Type 0
HoldsBase list word Idle = Unit {0}
HoldsBase list word (Stored base) = (word ≡ base) × IsListedBase list base
HoldsBase list word (Open apic) = word ≡ base_of list apic
HoldsBase list word (Shut apic) = word ≡ base_of list apic

-- the number of the last opening says that it is of this APIC ID, and its word isn't that of a closed gate
pub record IsLast (m : MonarchView) (apic : ℕ) : Type 0 where
  pub opening : IsOpening m.named (opened m) apic
  pub small : apic < 2 ^ 32
  pub not_closed : word_of (opened m) apic ≢ closed

abbrev pub passes_of : CpuView → List ℕ
passes_of c = c.passes

-- of a processor's passes those that it has flagged, and those that have arrived: all but the last one, and that one by where it stands
abbrev pub flagged_by : Work → List ℕ → List ℕ
flagged_by Free ns = ns
flagged_by Passed ns = behind ns
flagged_by Flagged ns = ns

abbrev pub arrived_by : Work → List ℕ → List ℕ
arrived_by Free ns = ns
arrived_by Passed ns = behind ns
arrived_by Flagged ns = behind ns

abbrev pub flagged_of : CpuView → List ℕ
flagged_of c = flagged_by c.work c.passes

abbrev pub arrived_of : CpuView → List ℕ
arrived_of c = arrived_by c.work c.passes

-- n is one of some processor's
pub record IsSomeones (numbers : CpuView → List ℕ) (cpus : List CpuView) (n : ℕ) : Type 0 where
  pub place : ℕ
  pub cpu : CpuView
  pub there : get_elem? cpus place ≡ some cpu
  pub has : is_in n (numbers cpu) ≡ true

-- n is the greatest of all processors', 0 where there is none
pub record IsGreatest (numbers : CpuView → List ℕ) (cpus : List CpuView) (n : ℕ) : Type 0 where
  pub one : (n ≡ 0) ⊎ IsSomeones numbers cpus n
  pub none_above : (place : ℕ) (c : CpuView) → get_elem? cpus place ≡ some c → (k : ℕ) → is_in k (numbers c) ≡ true → k ≤ n

-- a processor whose last pass hasn't arrived: it is of the last opening, which isn't finished
pub record IsBusy (m : MonarchView) (c : CpuView) : Type 0 where
  pub before : List ℕ
  pub last : c.passes ≡ opened m ∷ before
  pub unfinished : IsUnfinished m.stage c.own.apic

-- a processor in this place has the APIC ID and base that stand there in the list; each of its passes is of an opening of this APIC ID, and above those before
pub record IsSeated (m : MonarchView) (place : ℕ) (c : CpuView) : Type 0 where
  pub listed : get_elem? m.list place ≡ some c.own
  pub passed : (n : ℕ) → is_in n c.passes ≡ true → IsOpening m.named n c.own.apic
  pub falls : Falls c.passes
  pub busy : c.work ≢ Free → IsBusy m c

-- the gate holds the last opening, which isn't closed and which nobody has passed
pub record IsOpened (d : Words) : Type 0 where
  pub apic : ℕ
  pub stage : d.monarch.stage ≡ Open apic
  pub word : d.gate ≡ word_of (opened d.monarch) apic
  pub unpassed : (place : ℕ) (c : CpuView) → get_elem? d.cpus place ≡ some c → Above (opened d.monarch) c.passes

-- what holds of words and views
pub record Holds (d : Words) : Type 0 where
  pub distinct : IsDistinct d.monarch.list
  pub seats : length d.cpus ≡ d.monarch.seats
  -- each opening is of a listed APIC ID
  pub named : (n apic : ℕ) → IsOpening d.monarch.named n apic → is_in apic (apics_of d.monarch.list) ≡ true
  pub last : (apic : ℕ) → IsUnfinished d.monarch.stage apic → IsLast d.monarch apic
  pub base : HoldsBase d.monarch.list d.base d.monarch.stage
  pub gate : (d.gate ≡ closed) ⊎ IsOpened d
  -- where an opening isn't finished and the gate is closed, it was passed
  pub passed : (apic : ℕ) → IsUnfinished d.monarch.stage apic → d.gate ≡ closed → IsSomeones passes_of d.cpus (opened d.monarch)
  -- flag and arrived are the last passes that were flagged and that have arrived
  pub flag : IsGreatest flagged_of d.cpus d.flag
  pub arrived : IsGreatest arrived_of d.cpus d.arrived
  pub seat : (place : ℕ) (c : CpuView) → get_elem? d.cpus place ≡ some c → IsSeated d.monarch place c

-- the same of a table of words
pub record Kept (s : State (Unit {0}) View) : Type 0 where
  pub parts : Words
  pub words : s.words ≡ words_of parts
  pub views : s.views ≡ views_of parts
  pub holds : Holds parts
