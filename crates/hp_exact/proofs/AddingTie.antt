-- What the entries of a running add have shown, label by label: attempts, looks, the bytes that are looked at, and its slot.
use Rattle.std.proofs.Common.{ℕ, ◌≡◌, ◌+◌, ◌≤◌, ◌==◌, ◌⊎◌, Bool, true, false, ◌||◌, List, ◌∷◌, replicate, Some}
use Rattle.hp_model.specs.declared.outcomes.Outcome.{Outcome}
use Rattle.hp_model.specs.declared.outcomes.Outcome.TheVariants as outcome
use Rattle.hp_model.specs.declared.outcomes.Refusal.{Refusal}
use Rattle.hp_model.specs.declared.outcomes.Refusal.TheVariants.{Foreign, Disabled, Both, AlreadyKnown, GateHeld, NoUnplug, NotKnown, NotArrived, NotAtGate, NotCheckedIn, NotParked, StillPending}
use Rattle.hp_model.specs.declared.labels.Label.{Label}
use Rattle.hp_model.specs.declared.labels.Label.TheVariants.{NB, N0, N1, N2, N3, N4, N5, N6, N7, N8a, N8b, N9, N10, N11, T}
use Rattle.hp_model.specs.Memory.{Write, byte_at}
use Rattle.hp_model.specs.Block.{is_in}
use Rattle.hp_model.specs.Labels.{index_of}
use Rattle.hp_model.specs.SharedBytes.{Layout, flag, arrived_byte}
use Rattle.hp_model.specs.Slots.{slot_among}
use Rattle.hp_model.specs.Add.{Add}
use Rattle.hp_model.specs.Monarch.{Monarch}
use Rattle.hp_model.specs.Account.{with_bound}
use Rattle.hp_exact.proofs.AddingTrail.{Trail}

-- a byte is 0 or 1
abbrev pub IsBit : List Write → ℕ → Type 0
IsBit ws x = (byte_at ws x ≡ 0) ⊎ (byte_at ws x ≡ 1)

-- an add runs: so many of its attempts have opened the gate, or will have with this one, and its slot is its APIC ID's slot among those that were bound
-- before its entries, or the next one
pub record Runs (opened : ℕ) (old now : List ℕ) (attempt apic slot : ℕ) : Type 0 where
  pub tries : opened ≡ attempt
  pub few : attempt ≤ 3
  pub grown : now ≡ with_bound (Some apic) old
  pub is_place : slot ≡ slot_among now apic

abbrev pub RunsBy : ℕ → List ℕ → Monarch → Type 0
RunsBy n old r = Runs n old r.slots.bound r.add.attempt r.add.apic r.add.slot

-- of so many looks some are left, and those taken have read 0
pub record Left (all left : ℕ) (read : List ℕ) : Type 0 where
  pub taken : ℕ
  pub sum : taken + left ≡ all
  pub some : 1 ≤ left
  pub zeros : read ≡ replicate taken 0

abbrev pub was_one : Trail → Bool
was_one t = is_in 1 t.flags || is_in 1 t.pairs

-- what an outcome of the add says
pub record CompleteAdd (t : Trail) (old now : List ℕ) (home : ℕ → ℕ → Type 0) (add : Add) (cpu apic slot : ℕ) : Type 0 where
  pub same_cpu : cpu ≡ add.cpu
  pub same_apic : apic ≡ add.apic
  pub same_slot : slot ≡ add.slot
  pub grown : now ≡ with_bound (Some add.apic) old
  pub is_place : add.slot ≡ slot_among now add.apic
  pub arrived : t.arrived ≡ true
  pub entered : t.entered ≡ true
  pub there : home cpu slot

pub record Unseen (polls : ℕ) (t : Trail) (add : Add) (apic : ℕ) : Type 0 where
  pub same_apic : apic ≡ add.apic
  pub three : t.opened ≡ 3
  pub flags : t.flags ≡ replicate polls 0
  pub pairs : t.pairs ≡ replicate polls 0

pub record Unarrived (polls : ℕ) (t : Trail) (add : Add) (apic : ℕ) : Type 0 where
  pub same_apic : apic ≡ add.apic
  pub three : t.opened ≡ 3
  pub seen : t.seen ≡ true
  pub arrivals : t.arrivals ≡ replicate polls 0

abbrev pub ToldNot : ℕ → Trail → Add → Refusal → Type 0
ToldNot polls t a (Disabled cpu status) = Unit {0}
ToldNot polls t a (Both cpu status) = Unit {0}
ToldNot polls t a (AlreadyKnown cpu apic slot) = Unit {0}
ToldNot polls t a (GateHeld cpu apic other) = Unit {0}
ToldNot polls t a (NotAtGate cpu apic) = Unseen polls t a apic
ToldNot polls t a (NotCheckedIn cpu apic) = Unarrived polls t a apic
ToldNot polls t a (NoUnplug cpu features) = Unit {0}
ToldNot polls t a (NotKnown cpu apic) = Unit {0}
ToldNot polls t a (NotArrived cpu apic) = Unit {0}
ToldNot polls t a (NotParked cpu apic) = Unit {0}
ToldNot polls t a (Foreign cpu apic) = Unit {0}
ToldNot polls t a (StillPending cpu status) = Unit {0}

abbrev pub Told : ℕ → Trail → List ℕ → List ℕ → (ℕ → ℕ → Type 0) → Add → Outcome → Type 0
Told polls t old now home a (outcome.Added cpu apic slot) = CompleteAdd t old now home a cpu apic slot
Told polls t old now home a (outcome.Ejected cpu apic slot) = Unit {0}
Told polls t old now home a (outcome.Refused why) = ToldNot polls t a why

-- at each label, with these APIC IDs bound before the entries of the outcome, this memory, and this said of a processor that is at home in a slot
abbrev pub AddAt : Layout → Trail → List ℕ → List Write → (ℕ → ℕ → Type 0) → Monarch → Label → Type 0
AddAt y t old ws home r NB = (t.opened ≡ 0) × (r.slots.bound ≡ with_bound (Some r.add.apic) old) × (r.add.slot ≡ slot_among r.slots.bound r.add.apic)
AddAt y t old ws home r N0 = RunsBy (t.opened + 1) old r
AddAt y t old ws home r N1 = RunsBy (t.opened + 1) old r × IsBit ws (arrived_byte y r.add.slot)
AddAt y t old ws home r N2 = RunsBy (t.opened + 1) old r × IsBit ws (arrived_byte y r.add.slot) × IsBit ws flag
AddAt y t old ws home r N3 = RunsBy (t.opened + 1) old r × IsBit ws (arrived_byte y r.add.slot) × IsBit ws flag
AddAt y t old ws home r N4 = RunsBy (t.opened + 1) old r × IsBit ws (arrived_byte y r.add.slot) × IsBit ws flag
AddAt y t old ws home r N5 = RunsBy (t.opened + 1) old r × IsBit ws (arrived_byte y r.add.slot) × IsBit ws flag
AddAt y t old ws home r N6 = RunsBy (t.opened + 1) old r × IsBit ws (arrived_byte y r.add.slot) × IsBit ws flag
AddAt y t old ws home r N7 = RunsBy (t.opened + 1) old r × IsBit ws (arrived_byte y r.add.slot) × IsBit ws flag
AddAt y t old ws home r N8a = RunsBy t.opened old r × IsBit ws (arrived_byte y r.add.slot) × IsBit ws flag × (t.any ≡ true) × Left y.polls r.add.polls t.flags × (t.pairs ≡ t.flags)
AddAt y t old ws home r N8b = RunsBy t.opened old r × IsBit ws (arrived_byte y r.add.slot) × IsBit ws flag × (t.any ≡ true) × Left y.polls r.add.polls t.pairs × (t.flags ≡ 0 ∷ t.pairs)
AddAt y t old ws home r N9 = RunsBy t.opened old r × IsBit ws (arrived_byte y r.add.slot) × (t.any ≡ true) × (r.add.seen ≡ true → was_one t ≡ true) × (r.add.seen ≡ false → (t.flags ≡ replicate y.polls 0) × (t.pairs ≡ replicate y.polls 0))
AddAt y t old ws home r N10 = RunsBy t.opened old r × IsBit ws (arrived_byte y r.add.slot) × (t.shut ≡ true) × (was_one t ≡ true)
AddAt y t old ws home r N11 = RunsBy t.opened old r × IsBit ws (arrived_byte y r.add.slot) × (t.entered ≡ true) × (t.seen ≡ true) × Left y.polls r.add.polls t.arrivals × (byte_at ws (arrived_byte y r.add.slot) ≡ 1 → home r.add.cpu r.add.slot)
AddAt y t old ws home r T = Told y.polls t old r.slots.bound home r.add r.outcome
AddAt y t old ws home r _ = Unit {0}

abbrev pub AddTied : Layout → Trail → List ℕ → List Write → (ℕ → ℕ → Type 0) → Monarch → Type 0
AddTied y t old ws home r = AddAt y t old ws home r r.label

-- whether a row is of the collection, and whether it ends the entries of an outcome
abbrev pub is_collecting : Label → Bool
is_collecting l = (index_of l == 5) || ((index_of l == 6) || ((index_of l == 7) || ((index_of l == 8) || ((index_of l == 9) || ((index_of l == 10) || false)))))

abbrev pub is_ending : Label → Bool
is_ending l = is_collecting l || (index_of l == 34)
