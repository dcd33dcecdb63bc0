-- The SMI handlers' tables (own rule): what each label wants, and where its answer leads.
use Rattle.std.specs.Prelude.{ℕ, Bool, true, ◌&&◌, not, ◌==◌, nat_lt, ◌+◌, ◌-◌, ◌*◌, ◌/◌, Option, Some, None, option_and_then, if◌then◌else◌}
use Rattle.hp_model.specs.declared.accesses.Access.{Access}
use Rattle.hp_model.specs.declared.accesses.Access.TheVariants.{Load, Store, Swap, In, Out, Icr}
use Rattle.hp_model.specs.declared.accesses.Want.{Want}
use Rattle.hp_model.specs.declared.accesses.Want.TheVariants as want
use Rattle.hp_model.specs.declared.labels.Label.{Label}
use Rattle.hp_model.specs.declared.labels.Label.TheVariants.{F1, F2, F3, F4, F5, F6, R1, R2, R3, R4, R5, R6, S0, S1, S2, S3, S4, C1, C2, C3, C4, C5, C6, NB, N0, N1, N2, N3, N4, N5, N6, N7, N8a, N8b, N9, N10, N11, E0, E1, E2, E3, E4a, E4b, E4c, E4d, E4e, E4f, E4g, E4h, T, E5, E6, E7}
use Rattle.hp_model.specs.Platform.{high_half}
use Rattle.hp_model.specs.declared.labels.Handler.{Handler}
use Rattle.hp_model.specs.declared.labels.Handler.TheVariants.{First, Relocated, Monarch as Monarchs}
use Rattle.hp_model.specs.Labels.{handler_of, index_of, same_label, label_with}
use Rattle.hp_model.specs.SharedBytes.{Layout, tile_in, arrived_byte, release_byte, map_byte, parked_byte, session_byte, gate, closed, new_smbase, flag, default_smbase_field}
use Rattle.hp_model.specs.Slots.{known_from}
use Rattle.hp_model.specs.Collection.{found, judged, reported}
use Rattle.hp_model.specs.Add.{begun, looks, saw_flag, saw_pair, shut, saw_arrival}
use Rattle.hp_model.specs.Eject.{awaits, saw_parked, unparked, handed_to_block, saw_status, given_up, gone}
use Rattle.hp_model.specs.Monarch.{Monarch, at_label, first_slot, next_slot, look_at, looked, noted, commanded, after_collection, after_add, after_eject, after_tell, next_report}

-- who stands at a label: its APIC ID, the slot of its tile, and the base that the first handler has loaded
pub record Seat : Type 0 where
  pub apic : ℕ
  pub slot : ℕ
  pub base : ℕ

abbrev pub access : Access → Option Want
access a = Some (want.Do a)

abbrev pub store_byte : ℕ → ℕ → Option Want
store_byte addr value = access (Store addr 1 value)

-- interrupt commands to one APIC ID: an SMI, an INIT, and a SIPI that names the pen's page, 9f
abbrev pub smi_to : Layout → ℕ → Option Want
smi_to y apic = access (Icr (high_half y.x2apic apic) 0x200)

abbrev pub init_to : Layout → ℕ → Option Want
init_to y apic = access (Icr (high_half y.x2apic apic) 0x500)

abbrev pub sipi_to : Layout → ℕ → Option Want
sipi_to y apic = access (Icr (high_half y.x2apic apic) 0x69f)

-- where the answer leads: the next label, the base, and the monarch's record
pub record Next : Type 0 where
  pub label : Label
  pub base : ℕ
  pub monarch : Monarch

-- another handler's label
abbrev pub stays : Label → Seat → Monarch → Next
stays l x r = record { label = l; base = x.base; monarch = r }

-- the monarch's label is its record's
abbrev pub by_record : Seat → Monarch → Next
by_record x r = record { label = r.label; base = x.base; monarch = r }

-- a row of a handler: what it wants, and where the value of the answer leads, 0 where it has none
pub record Row : Type 0 where
  pub want : Option Want
  pub next : ℕ → Next

infixl 10 ◌⇒◌
abbrev pub ◌⇒◌ : Option Want → (ℕ → Next) → Row
want ⇒ next = record { want = want; next = next }

-- the handlers' table: a line a label, and behind it why it stands where it does
module _ (layout : Layout) (me : Seat) (monarch : Monarch) where
  abbrev to : Label → Next
  to label = stays label me monarch

  abbrev by : Monarch → Next
  by gone_on = by_record me gone_on

  abbrev pub row : Label → Row
  -- the first handler, at the default SMBASE
  row F1 = access (Swap gate me.apic closed) ⇒ λ v. to (if v == me.apic then F2 else F1)  -- waits until the gate names it, and closes it behind itself in the same step
  row F2 = access (Load new_smbase 4) ⇒ λ v. record { label = F3; base = v; monarch = monarch }  -- past the gate: the SMBASE that is meant for it
  row F3 = access (Store default_smbase_field 4 me.base) ⇒ λ v. to F4  -- RSM alone changes SMBASE, and takes it from there
  row F4 = store_byte flag 1 ⇒ λ v. to F5  -- after F3: tells that the new SMBASE is stored
  row F5 = smi_to layout me.apic ⇒ λ v. to F6  -- before RSM: latched, and with prompt SMIs taken before it runs anything outside
  row F6 = Some want.Resume ⇒ λ v. to F6  -- last: what F3 stored becomes its SMBASE
  -- the relocated handler, in the tile of a slot from 1
  row R1 = store_byte (arrived_byte layout me.slot) 1 ⇒ λ v. to R2
  row R2 = access (Load (map_byte layout me.slot) 1) ⇒ λ v. to (if v == 1 then R6 else R3)  -- one that is to park doesn't look at release
  row R3 = access (Load (release_byte layout me.slot) 1) ⇒ λ v. to (if v == 1 then R4 else R1)  -- stays in SMM until it is released
  row R4 = store_byte (arrived_byte layout me.slot) 0 ⇒ λ v. to R5  -- before RSM: past it it can't
  row R5 = Some want.Resume ⇒ λ v. to R5
  row R6 = store_byte (parked_byte layout me.slot) 1 ⇒ λ v. to R2  -- and R2 again: parked until the map says otherwise
  -- the monarch: start of a session
  row S0 = store_byte (session_byte layout) 1 ⇒ λ v. by (first_slot S1 S2 monarch)  -- before the first release byte is cleared
  row S1 = store_byte (release_byte layout monarch.slot) 0 ⇒ λ v. by (next_slot S1 S2 monarch)  -- before S2: whoever comes by that SMI stays
  row S2 = access (Icr 0 0xc0200) ⇒ λ v. by (look_at layout.polls (known_from monarch.slots 1) monarch)  -- before S4: calls all others into SMM, without broadcast too
  row S3 = access (Load (arrived_byte layout monarch.slot) 1) ⇒ λ v. by (looked layout.polls v (noted monarch.slot v monarch))
  row S4 = access (In 0xb2 1) ⇒ λ v. by (commanded v monarch)  -- after all others are called: the SMI command
  -- the monarch: collection of reports
  row C1 = access (Out 0xcd8 4 monarch.collection.cpu) ⇒ λ v. by (at_label C2 monarch)  -- before C2: the search begins at the selector, and others write it too
  row C2 = access (Out 0xcdd 1 0) ⇒ λ v. by (at_label C3 monarch)
  row C3 = access (In 0xce0 4) ⇒ λ v. by (after_collection layout.apics (found layout.count v monarch.collection) monarch)
  row C4 = access (In 0xcdc 1) ⇒ λ v. by (after_collection layout.apics (judged layout.count v monarch.collection) monarch)  -- after C3: the status of the one that was found
  row C5 = access (Out 0xcdd 1 3) ⇒ λ v. by (at_label C6 monarch)  -- after C4, for one that is reported: command data reads the APIC ID after it
  row C6 = access (In 0xce0 4) ⇒ λ v. by (after_collection layout.apics (reported layout.count v monarch.collection) monarch)
  -- the monarch: an add
  row NB = store_byte (release_byte layout monarch.add.slot) 0 ⇒ λ v. by (after_add (begun monarch.add) monarch)  -- once an add, before the gate opens: who comes to the tile of the slot stays in SMM until E6
  row N0 = store_byte (arrived_byte layout monarch.add.slot) 0 ⇒ λ v. by (at_label N1 monarch)  -- first in each attempt: what N8b and N11 read as 1 was stored since
  row N1 = store_byte flag 0 ⇒ λ v. by (at_label N2 monarch)  -- the same for N8a
  row N2 = access (Store new_smbase 4 (tile_in layout monarch.add.slot)) ⇒ λ v. by (at_label N3 monarch)  -- before N7: whoever passes loads it
  row N3 = smi_to layout monarch.add.apic ⇒ λ v. by (at_label N4 monarch)  -- before N5: latched by one that waits for SIPI, and taken before it runs
  row N4 = init_to layout monarch.add.apic ⇒ λ v. by (at_label N5 monarch)  -- before N5: one that was started elsewhere waits for SIPI after it
  row N5 = sipi_to layout monarch.add.apic ⇒ λ v. by (at_label N6 monarch)
  row N6 = sipi_to layout monarch.add.apic ⇒ λ v. by (at_label N7 monarch)
  row N7 = access (Store gate 8 monarch.add.apic) ⇒ λ v. by (after_add (looks N8a layout.polls monarch.add) monarch)  -- after N2: all that whoever passes will find is in place
  row N8a = access (Load flag 1) ⇒ λ v. by (after_add (saw_flag v monarch.add) monarch)
  row N8b = access (Load (arrived_byte layout monarch.add.slot) 1) ⇒ λ v. by (after_add (saw_pair v monarch.add) (noted monarch.add.slot v monarch))
  row N9 = access (Store gate 8 closed) ⇒ λ v. by (after_add (shut monarch.add) monarch)  -- always, and before anything else is stored: after it nobody passes
  row N10 = store_byte (arrived_byte layout monarch.add.slot) 0 ⇒ λ v. by (after_add (looks N11 layout.polls monarch.add) monarch)  -- after N9: who is at its own handler stores 1 anew at R1
  row N11 = access (Load (arrived_byte layout monarch.add.slot) 1) ⇒ λ v. by (after_add (saw_arrival v monarch.add) (noted monarch.add.slot v monarch))  -- after N10: a 1 tells that it is there
  -- the monarch: an eject
  row E0 = store_byte (parked_byte layout monarch.eject.slot) 0 ⇒ λ v. by (at_label E1 monarch)  -- before E1: what E2 reads as 1 was stored since
  row E1 = store_byte (map_byte layout monarch.eject.slot) 1 ⇒ λ v. by (after_eject (awaits layout.polls monarch.eject) monarch)
  row E2 = access (Load (parked_byte layout monarch.eject.slot) 1) ⇒ λ v. by (after_eject (saw_parked v monarch.eject) monarch)  -- before E4b: one that has parked stays in SMM until the map says otherwise
  row E3 = store_byte (map_byte layout monarch.eject.slot) 0 ⇒ λ v. by (after_eject (unparked monarch.eject) monarch)
  row E4a = access (Out 0xcd8 4 monarch.eject.cpu) ⇒ λ v. by (at_label E4b monarch)  -- before E4b: control acts on the processor that is selected
  row E4b = access (Out 0xcdc 1 8) ⇒ λ v. by (at_label (handed_to_block layout.late) monarch)  -- after E2 read 1: the eject, once it has parked
  row E4c = store_byte (arrived_byte layout monarch.eject.slot) 0 ⇒ λ v. by (at_label E4d monarch)  -- to E4e: the bytes of the slot are as before its first SMI
  row E4d = store_byte (map_byte layout monarch.eject.slot) 0 ⇒ λ v. by (at_label E4e monarch)
  row E4e = store_byte (parked_byte layout monarch.eject.slot) 0 ⇒ λ v. by (after_eject (gone monarch.eject) monarch)
  row E4f = access (Out 0xcd8 4 monarch.eject.cpu) ⇒ λ v. by (at_label E4g monarch)  -- another processor may have moved the selector before E4b
  row E4g = access (In 0xcdc 1) ⇒ λ v. by (after_eject (saw_status v monarch.eject) monarch)
  row E4h = store_byte (map_byte layout monarch.eject.slot) 0 ⇒ λ v. by (after_eject (given_up monarch.eject) monarch)
  -- the monarch: an outcome is told; end of the session
  row T = Some (want.Tell monarch.outcome) ⇒ λ v. by (next_report layout.apics (after_tell monarch.outcome monarch))  -- after all that the outcome speaks of
  row E5 = store_byte (session_byte layout) 0 ⇒ λ v. by (first_slot E6 E7 monarch)  -- before E6: cleared while all that the session holds are in SMM
  row E6 = store_byte (release_byte layout monarch.slot) 1 ⇒ λ v. by (next_slot E6 E7 monarch)
  row E7 = Some want.Resume ⇒ λ v. by monarch  -- last: its next SMI entry begins anew

  abbrev pub want_at : Label → Option Want
  want_at l = (row l).want

  abbrev pub next_at : Label → ℕ → Next
  next_at l v = (row l).next v

-- the slot whose tile this SMBASE is, if it is one of a possible slot
abbrev pub slot_at : Layout → ℕ → ℕ
slot_at y smbase = (smbase - tile_in y 0) / 0x10000

abbrev pub is_tile : Layout → ℕ → Bool
is_tile y smbase = nat_lt (slot_at y smbase) y.count && (smbase == tile_in y (slot_at y smbase))

-- whose handler runs at this SMBASE on this processor: processor 0 runs the monarch alone, in the tile of slot 0
abbrev pub runs_at : Layout → Handler → ℕ → ℕ → Bool
runs_at y First cpu smbase = not (cpu == 0) && (smbase == 0x30000)
runs_at y Relocated cpu smbase = not (cpu == 0) && (not (slot_at y smbase == 0) && is_tile y smbase)
runs_at y Monarchs cpu smbase = (cpu == 0) && (smbase == tile_in y 0)

-- the monarch's row is the one of the label where its record stands
abbrev pub is_current : Monarch → Handler → Label → Bool
is_current r First l = true
is_current r Relocated l = true
is_current r Monarchs l = same_label l r.label

-- the label, where its handler runs and its row is due
abbrev pub current_label : Layout → Monarch → ℕ → ℕ → Label → Option Label
current_label y r cpu smbase l = if runs_at y (handler_of l) cpu smbase && is_current r (handler_of l) l then Some l else None

-- the label whose mark this is, likewise
unfoldable pub label_of_mark : Layout → Monarch → ℕ → ℕ → ℕ → Option Label
label_of_mark y r cpu smbase mark = option_and_then (current_label y r cpu smbase) (label_with mark)

-- who stands there
abbrev pub seat_of : Layout → ℕ → ℕ → ℕ → Seat
seat_of y apic smbase base = record { apic = apic; slot = slot_at y smbase; base = base }

-- what a processor wants that stands at this label; none where it has no row
abbrev pub wanted_at : Layout → Monarch → Seat → Option Label → Option Want
wanted_at y r x None = None
wanted_at y r x (Some l) = want_at y x r l

-- the instruction address of a label, in the handler that runs at this SMBASE
abbrev pub address_of_label : ℕ → Label → ℕ
address_of_label smbase l = smbase + 0x8000 + 4 * index_of l
