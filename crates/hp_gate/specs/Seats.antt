-- What contracts see of the seats at a gate, and what the calls say by them.
use Rattle.std.specs.Prelude.{◌≡◌, ◌≢◌, ℕ, ◌^◌, ◌<◌, Bool, true, false, List, [], ◌∷◌, ◌++◌}
use Rattle.atomic_table.specs.Seated.{TableId}
use Rattle.hp_model.specs.SharedBytes.{closed}
use Rattle.hp_gate.specs.Openings.{opened, word_of, names, Above, first_of}
use Rattle.hp_gate.specs.Steps.{monarch_of, cpu_of, after_load, after_pass}
use Rattle.hp_gate.specs.declared.answers.Closed as closed_answer
use Rattle.hp_gate.specs.declared.answers.Closed.TheVariants as close
use Rattle.hp_gate.specs.declared.answers.Look.{Look}
use Rattle.hp_gate.specs.declared.answers.Look.TheVariants as look
use Rattle.hp_gate.specs.declared.answers.Pass.{Pass}
use Rattle.hp_gate.specs.declared.answers.Pass.TheVariants as pass
use Rattle.hp_gate.specs.declared.views.Named.{Named}
use Rattle.hp_gate.specs.declared.views.Stage.{Stage}
use Rattle.hp_gate.specs.declared.views.Stage.TheVariants.{Idle, Stored, Open, Shut}
use Rattle.hp_gate.specs.declared.views.MonarchView.{MonarchView}
use Rattle.hp_gate.specs.declared.views.CpuView.{CpuView}
use Rattle.hp_gate.specs.declared.views.View.{View}
use Rattle.hp_gate.specs.declared.views.View.TheVariants.{Monarch, Cpu}

-- a seat: the gate that it belongs to, and its view
pub record MonarchSeen : Type 0 where
  pub gate : TableId
  pub view : MonarchView

pub record CpuSeen : Type 0 where
  pub gate : TableId
  pub view : CpuView

abbrev pub monarch_at : TableId → MonarchView → MonarchSeen
monarch_at gate view = record { gate = gate; view = view }

abbrev pub cpu_at : TableId → CpuView → CpuSeen
cpu_at gate view = record { gate = gate; view = view }

-- what the monarch's seat keeps in code is what its view has
pub record MonarchKnows (v : View) (list : List Named) (seats number : ℕ) (stage : Stage) : Type 0 where
  pub is : v ≡ Monarch (monarch_of v)
  pub list_is : (monarch_of v).list ≡ list
  pub seats_is : (monarch_of v).seats ≡ seats
  pub number_is : opened (monarch_of v) ≡ number
  pub stage_is : (monarch_of v).stage ≡ stage

-- likewise a processor's. Its base isn't kept, so it is known once it is loaded
pub record CpuKnows (v : View) (apic passed : ℕ) : Type 0 where
  pub is : v ≡ Cpu (cpu_of v)
  pub apic_is : (cpu_of v).own.apic ≡ apic
  pub passed_is : first_of (cpu_of v).passes ≡ passed
  pub small : (cpu_of v).own.base < 2 ^ 32

abbrev pub is_idle : Stage → Bool
is_idle Idle = true
is_idle (Stored base) = false
is_idle (Open apic) = false
is_idle (Shut apic) = false

abbrev pub IsOpen : Stage → Type 0
IsOpen Idle = ⊥
IsOpen (Stored base) = ⊥
IsOpen (Open apic) = Unit {0}
IsOpen (Shut apic) = ⊥

abbrev pub IsShut : Stage → Type 0
IsShut Idle = ⊥
IsShut (Stored base) = ⊥
IsShut (Open apic) = ⊥
IsShut (Shut apic) = Unit {0}

-- the APIC ID of an opening that isn't finished
abbrev pub aim : Stage → ℕ
aim Idle = 0
aim (Stored base) = 0
aim (Open apic) = apic
aim (Shut apic) = apic

-- one swap closed the gate, and found the last opening, which is finished by that; or else that it was closed
abbrev pub ClosesAs : MonarchSeen → MonarchSeen → closed_answer.Closed → Type 0
ClosesAs old new close.Unpassed = new ≡ monarch_at old.gate (record old.view { stage = Idle; closings = old.view.closings ++ word_of (opened old.view) (aim old.view.stage) ∷ [] })
ClosesAs old new close.Passed = new ≡ monarch_at old.gate (record old.view { stage = Shut (aim old.view.stage); closings = old.view.closings ++ closed ∷ [] })

-- one load of arrived found the number of the last opening, which is finished by that; or else another word, which is the answer's
abbrev pub LooksAs : MonarchSeen → MonarchSeen → Look → Type 0
LooksAs old new look.Arrived = new ≡ monarch_at old.gate (record old.view { stage = Idle; looks = old.view.looks ++ opened old.view ∷ [] })
LooksAs old new (look.NotYet word) = (word ≢ opened old.view) × (new ≡ monarch_at old.gate (record old.view { looks = old.view.looks ++ word ∷ [] }))

-- the processor found these two words in the gate, one after the other
abbrev pub finds_two : ℕ → ℕ → CpuView → CpuView
finds_two first second c = after_load second (after_load first c)

-- one load of the gate found no opening of its APIC ID; or it found one, and the exchange another word; or both found opening n, which is above its passes
-- and is passed by that
abbrev pub PassesAs : CpuSeen → CpuSeen → Pass → Type 0
PassesAs old new (pass.Closed word) = (names old.view.own.apic word ≡ false) × (new ≡ cpu_at old.gate (after_load word old.view))
PassesAs old new (pass.Moved word) = (first : ℕ) × (names old.view.own.apic first ≡ true) × (word ≢ first) × (new ≡ cpu_at old.gate (finds_two first word old.view))
PassesAs old new (pass.Through n) = (names old.view.own.apic (word_of n old.view.own.apic) ≡ true) × Above n (0 ∷ old.view.passes)
    × (new ≡ cpu_at old.gate (after_pass n (finds_two (word_of n old.view.own.apic) (word_of n old.view.own.apic) old.view)))
