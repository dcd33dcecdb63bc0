-- What each label needs of the state in which a processor stands there.
use Rattle.std.specs.Prelude.{ℕ, ◌≡◌, ◌<◌, ◌≤◌, Bool, true, false}
use Rattle.hp_model.specs.declared.labels.Label.{Label}
use Rattle.hp_model.specs.declared.labels.Label.TheVariants.{F1, F2, F3, F4, F5, F6, R1, R2, R3, R4, R5, R6, S0, S1, S2, S3, S4, C1, C2, C3, C4, C5, C6, NB, N0, N1, N2, N3, N4, N5, N6, N7, N8a, N8b, N9, N10, N11, E0, E1, E2, E3, E4a, E4b, E4c, E4d, E4e, E4f, E4g, E4h, T, E5, E6, E7}
use Rattle.hp_model.specs.declared.labels.Handler.{Handler}
use Rattle.hp_model.specs.declared.labels.Handler.TheVariants.{First, Relocated, Monarch}

pub data Need : Type 0 where
  Nothing : Need
  Passing : Need  -- its APIC ID is held, and the new SMBASE in memory is the tile of the held one's slot: it is loaded next
  Loaded : Need  -- its APIC ID is held, and the base that was loaded is that tile: it is saved next, where RSM reads it
  Saved : Need  -- its APIC ID is held, and what RSM reads there is that tile, or the default SMBASE again
  Adding : Need  -- the add is of the held APIC ID, to its slot
  Opening : Need  -- it is, and the new SMBASE is the tile of this slot
  Open : Need  -- likewise; here alone the gate may be open
  Looking : Need  -- as Adding, and once the slot's arrived byte is 1, nobody is past the gate
  Ejecting : Need  -- the slot of the eject is one that a processor may get
  Telling : Need  -- where an add is complete, nobody is past the gate

abbrev pub need_of : Label → Need
need_of F1 = Nothing
need_of F2 = Passing
need_of F3 = Loaded
need_of F4 = Saved
need_of F5 = Saved
need_of F6 = Saved
need_of R1 = Nothing
need_of R2 = Nothing
need_of R3 = Nothing
need_of R4 = Nothing
need_of R5 = Nothing
need_of R6 = Nothing
need_of S0 = Nothing
need_of S1 = Nothing
need_of S2 = Nothing
need_of S3 = Nothing
need_of S4 = Nothing
need_of C1 = Nothing
need_of C2 = Nothing
need_of C3 = Nothing
need_of C4 = Nothing
need_of C5 = Nothing
need_of C6 = Nothing
need_of NB = Adding
need_of N0 = Adding
need_of N1 = Adding
need_of N2 = Adding
need_of N3 = Opening
need_of N4 = Opening
need_of N5 = Opening
need_of N6 = Opening
need_of N7 = Opening
need_of N8a = Open
need_of N8b = Open
need_of N9 = Open
need_of N10 = Adding
need_of N11 = Looking
need_of E0 = Ejecting
need_of E1 = Ejecting
need_of E2 = Ejecting
need_of E3 = Ejecting
need_of E4a = Ejecting
need_of E4b = Ejecting
need_of E4c = Ejecting
need_of E4d = Ejecting
need_of E4e = Ejecting
need_of E4f = Ejecting
need_of E4g = Ejecting
need_of E4h = Ejecting
need_of T = Telling
need_of E5 = Nothing
need_of E6 = Nothing
need_of E7 = Nothing

-- a slot other than slot 0 that a processor may get
abbrev pub IsSlot : ℕ → ℕ → Type 0
IsSlot count slot = (1 ≤ slot) × (slot < count)

-- whether whoever needs this is past the gate, and still at the default SMBASE
abbrev pub is_aloft : Need → Bool
is_aloft Ejecting = false
is_aloft Nothing = false
is_aloft Passing = true
is_aloft Loaded = true
is_aloft Saved = true
is_aloft Adding = false
is_aloft Opening = false
is_aloft Open = false
is_aloft Looking = false
is_aloft Telling = false

-- whether the gate may be open
abbrev pub is_open : Need → Bool
is_open Ejecting = false
is_open Nothing = false
is_open Passing = false
is_open Loaded = false
is_open Saved = false
is_open Adding = false
is_open Opening = false
is_open Open = true
is_open Looking = false
is_open Telling = false

-- whether nobody is past the gate: by whether the slot's arrived byte is 1, and whether an add is told to be complete
abbrev pub settles : Bool → Bool → Need → Bool
settles arrived added Ejecting = false
settles arrived added Nothing = false
settles arrived added Passing = false
settles arrived added Loaded = false
settles arrived added Saved = false
settles arrived added Adding = false
settles arrived added Opening = false
settles arrived added Open = false
settles arrived added Looking = arrived
settles arrived added Telling = added

-- what needs speak of
pub record Facts : Type 0 where
  pub count : ℕ  -- how many processors are possible
  pub held : Bool  -- whether the processor's APIC ID is the one that is held
  pub ready : Bool  -- whether the new SMBASE in memory is the tile of the held one's slot
  pub tiled : Bool  -- whether the base that was loaded is
  pub returns : Bool  -- whether what RSM reads at the default SMBASE is, or is the default SMBASE
  pub adds : Bool  -- whether the add is of the held APIC ID, to its slot
  pub slot : ℕ  -- the slot of the add
  pub ejects : Bool  -- whether the slot of the eject is one that a processor may get

abbrev pub FirstNeeds : Facts → Need → Type 0
FirstNeeds f Ejecting = Unit {0}
FirstNeeds f Nothing = Unit {0}
FirstNeeds f Passing = (f.held ≡ true) × (f.ready ≡ true)
FirstNeeds f Loaded = (f.held ≡ true) × (f.tiled ≡ true)
FirstNeeds f Saved = (f.held ≡ true) × (f.returns ≡ true)
FirstNeeds f Adding = Unit {0}
FirstNeeds f Opening = Unit {0}
FirstNeeds f Open = Unit {0}
FirstNeeds f Looking = Unit {0}
FirstNeeds f Telling = Unit {0}

abbrev pub MonarchNeeds : Facts → Need → Type 0
MonarchNeeds f Ejecting = f.ejects ≡ true
MonarchNeeds f Nothing = Unit {0}
MonarchNeeds f Passing = Unit {0}
MonarchNeeds f Loaded = Unit {0}
MonarchNeeds f Saved = Unit {0}
MonarchNeeds f Adding = IsSlot f.count f.slot × (f.adds ≡ true)
MonarchNeeds f Opening = IsSlot f.count f.slot × (f.adds ≡ true) × (f.ready ≡ true)
MonarchNeeds f Open = IsSlot f.count f.slot × (f.adds ≡ true) × (f.ready ≡ true)
MonarchNeeds f Looking = IsSlot f.count f.slot × (f.adds ≡ true)
MonarchNeeds f Telling = Unit {0}

abbrev pub Needs : Facts → Handler → Need → Type 0
Needs f First n = FirstNeeds f n
Needs f Relocated n = Unit {0}
Needs f Monarch n = MonarchNeeds f n
