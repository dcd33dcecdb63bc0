-- The kinds of step at a gate (own rule): the word of each, and what it notes in the view of the seat that makes it.
use Rattle.std.specs.Prelude.{◌≡◌, ◌≢◌, ℕ, ◌+◌, ◌/◌, ◌%◌, ◌^◌, List, [], ◌∷◌, ◌++◌, if◌then◌else◌, ◌==◌}
use Rattle.atomic_table.specs.Table.{Me, Step}
use Rattle.hp_model.specs.SharedBytes.{closed}
use Rattle.hp_gate.specs.Openings.{named_at, opened, word_of, Above}
use Rattle.hp_gate.specs.Rule.{gate_word, base_word, flag_word, arrived_word}
use Rattle.hp_gate.specs.declared.views.Named.{Named}
use Rattle.hp_gate.specs.declared.views.Stage.{Stage}
use Rattle.hp_gate.specs.declared.views.Stage.TheVariants.{Idle, Stored, Open, Shut}
use Rattle.hp_gate.specs.declared.views.Work.TheVariants.{Free, Passed, Flagged}
use Rattle.hp_gate.specs.declared.views.MonarchView.{MonarchView}
use Rattle.hp_gate.specs.declared.views.CpuView.{CpuView}
use Rattle.hp_gate.specs.declared.views.View.{View}
use Rattle.hp_gate.specs.declared.views.View.TheVariants.{Monarch, Cpu}

-- the monarch's view at the start
abbrev pub monarch_start : List Named → MonarchView
monarch_start list = record { list = list; seats = 0; named = []; stage = Idle; closings = []; looks = [] }

abbrev pub view_start : List Named → View
view_start list = Monarch (monarch_start list)

-- a processor's view at the start
abbrev pub cpu_start : Named → CpuView
cpu_start own = record { own = own; passes = []; work = Free; looks = [] }

abbrev pub on_monarch : (MonarchView → MonarchView) → View → View
on_monarch f (Monarch m) = Monarch (f m)
on_monarch f (Cpu c) = Cpu c

abbrev pub on_cpu : (CpuView → CpuView) → View → View
on_cpu f (Monarch m) = Monarch m
on_cpu f (Cpu c) = Cpu (f c)

-- the monarch's view, of the monarch's seat
abbrev pub monarch_of : View → MonarchView
monarch_of (Monarch m) = m
monarch_of (Cpu c) = monarch_start []

-- a processor's view, of its seat
abbrev pub cpu_of : View → CpuView
cpu_of (Monarch m) = cpu_start (record { apic = 0; base = 0 })
cpu_of (Cpu c) = c

-- a base was stored
abbrev pub after_store : ℕ → MonarchView → MonarchView
after_store base m = record m { stage = Stored base }

-- the gate was opened for an APIC ID
abbrev pub after_open : ℕ → MonarchView → MonarchView
after_open apic m = record m { named = m.named ++ apic ∷ []; stage = Open apic }

-- the gate was closed, and held a word: opening n is finished where that was its own
abbrev pub stage_closed : ℕ → ℕ → Stage → Stage
stage_closed word n Idle = Idle
stage_closed word n (Stored base) = Stored base
stage_closed word n (Open apic) = if word == word_of n apic then Idle else Shut apic
stage_closed word n (Shut apic) = Shut apic

abbrev pub after_close : ℕ → MonarchView → MonarchView
after_close word m = record m { stage = stage_closed word (opened m) m.stage; closings = m.closings ++ word ∷ [] }

-- arrived was read: opening n is finished where it is closed and arrived is n
abbrev pub stage_looked : ℕ → ℕ → Stage → Stage
stage_looked word n Idle = Idle
stage_looked word n (Stored base) = Stored base
stage_looked word n (Open apic) = Open apic
stage_looked word n (Shut apic) = if word == n then Idle else Shut apic

abbrev pub after_look : ℕ → MonarchView → MonarchView
after_look word m = record m { stage = stage_looked word (opened m) m.stage; looks = m.looks ++ word ∷ [] }

-- a processor got its seat, the next one of the list
abbrev pub after_seat : MonarchView → MonarchView
after_seat m = record m { seats = m.seats + 1 }

-- a word was found in the gate
abbrev pub after_load : ℕ → CpuView → CpuView
after_load word c = record c { looks = c.looks ++ word ∷ [] }

-- opening n was passed
abbrev pub after_pass : ℕ → CpuView → CpuView
after_pass n c = record c { passes = n ∷ c.passes; work = Passed }

-- a word was found in the gate, where another one was expected or this one
abbrev pub after_exchange : ℕ → ℕ → CpuView → CpuView
after_exchange expected word c = if word == expected then after_pass (expected / 2 ^ 32) (after_load word c) else after_load word c

abbrev pub after_flag : CpuView → CpuView
after_flag c = record c { work = Flagged }

abbrev pub after_arrive : CpuView → CpuView
after_arrive c = record c { work = Free }

-- a step, the seat before it, the word found or stored, and the seat after it
abbrev pub Kind : Type 1
Kind = Step (Unit {0}) → Me (Unit {0}) View → ℕ → Me (Unit {0}) View → Type 0

-- the monarch stores the base of the next opening
abbrev pub stores_base : Kind
stores_base step me word new = (step.word ≡ base_word) × (new.0 ≡ on_monarch (after_store step.first) me.0)

-- the monarch opens the gate: the low half of what it stores is the APIC ID
abbrev pub opens : Kind
opens step me word new = (step.word ≡ gate_word) × (new.0 ≡ on_monarch (after_open (step.first % 2 ^ 32)) me.0)

-- the monarch closes the gate, and learns what was in it: the last opening, or that it was closed
abbrev pub closes : Kind
closes step me word new = (step.word ≡ gate_word) × (new.0 ≡ on_monarch (after_close word) me.0)
    × ((apic : ℕ) → (monarch_of me.0).stage ≡ Open apic → word ≢ word_of (opened (monarch_of me.0)) apic → word ≡ closed)

-- the monarch reads arrived
abbrev pub looks : Kind
looks step me word new = (step.word ≡ arrived_word) × (new.0 ≡ on_monarch (after_look word) me.0)

-- a processor reads the gate
abbrev pub loads_gate : Kind
loads_gate step me word new = (step.word ≡ gate_word) × (new.0 ≡ on_cpu (after_load word) me.0)

-- a processor exchanges an opening that it expects in the gate for closed; where it was there, it has passed that opening, which is above its passes before
abbrev pub exchanges : Kind
exchanges step me word new = (step.word ≡ gate_word) × (step.second ≡ closed) × (new.0 ≡ on_cpu (after_exchange step.first word) me.0)
    × (word ≡ step.first → Above (step.first / 2 ^ 32) (0 ∷ (cpu_of me.0).passes))

-- a processor that has passed and not arrived reads base, and finds its own
abbrev pub loads_base : Kind
loads_base step me word new = (step.word ≡ base_word) × (new.0 ≡ me.0) × (word ≡ (cpu_of me.0).own.base)

-- a processor stores the number of its pass in flag
abbrev pub flags : Kind
flags step me word new = (step.word ≡ flag_word) × (new.0 ≡ on_cpu after_flag me.0)

-- a processor stores the number of its pass in arrived
abbrev pub arrives : Kind
arrives step me word new = (step.word ≡ arrived_word) × (new.0 ≡ on_cpu after_arrive me.0)

-- the monarch's view is cut in two: it counts a seat more, and the new seat is of the next processor of the list
abbrev pub seats_monarch : View → View
seats_monarch v = on_monarch after_seat v

abbrev pub seats_cpu : View → View
seats_cpu (Monarch m) = Cpu (cpu_start (named_at m.list m.seats))
seats_cpu (Cpu c) = Cpu c
