-- Two laws on SMBASEs (own rules): no two processors hold one tile, and an SMBASE changes only once its processor has passed the gate that was opened for it.
use Rattle.std.specs.Prelude.{◌≡◌, ℕ, Bool, true, false, ◌&&◌, ◌||◌, not, ◌==◌, ◌+◌, List, Option, Some, None, bit_and}
use Rattle.std.specs.List.{list_all, list_any}
use Rattle.hp_model.specs.declared.platforms.Platform.{Platform}
use Rattle.hp_model.specs.declared.processors.Cpu.{Cpu}
use Rattle.hp_model.specs.declared.labels.Label.TheVariants.{F1, F6}
use Rattle.hp_model.specs.declared.entries.Entry.{Entry}
use Rattle.hp_model.specs.Platform.{count_of, tile, apic_of}
use Rattle.hp_model.specs.Memory.{touched}
use Rattle.hp_model.specs.Block.{is_in}
use Rattle.hp_model.specs.SharedBytes.{gate}
use Rattle.hp_model.specs.Slots.{slot_among}
use Rattle.hp_model.specs.declared.reports.Report.{Report}
use Rattle.hp_model.specs.Monarch.{is_that}
use Rattle.hp_model.specs.State.{State, at}
use Rattle.hp_model.specs.Boot.{value_in}
use Rattle.hp_model.specs.Events.{is_access_of, is_entry_of, is_resume_of}
use Rattle.hp_model.specs.Transitions.{Transition, transitions, entries_of, at_each, at_each_state, newest, older_than, places, moved_in}
use Rattle.hp_model.specs.Account.{is_at, opened_for, bound}
use Rattle.hp_model.specs.Sessions.{session, triples}

-- with these APIC IDs bound: a present processor has the default SMBASE, or the tile of its APIC ID's slot
abbrev pub has_own_smbase : Platform → List ℕ → ℕ → Cpu → Bool
has_own_smbase p ids apic c = not c.present || ((c.smbase == 0x30000) || (is_in apic ids && (c.smbase == tile p (slot_among ids apic))))

abbrev pub have_own_smbases : Platform → List Entry → State → Bool
have_own_smbases p es s = list_all (λ k. has_own_smbase p (bound p es) (apic_of p k) (at s k)) (places (count_of p))

-- two processors don't share an SMBASE other than the default one
abbrev pub are_apart : Cpu → Cpu → Bool
are_apart c d = not (c.present && d.present) || (not (c.smbase == d.smbase) || (c.smbase == 0x30000))

abbrev pub are_all_apart : Platform → State → Bool
are_all_apart p s = list_all (λ j. list_all (λ k. (j == k) || are_apart (at s j) (at s k)) (places (count_of p))) (places (count_of p))

-- the same as a test of a state with the entries that led to it
abbrev pub have_smbases_apart : Platform → List Entry → State → Bool
have_smbases_apart p es s = are_all_apart p s

-- no two processors hold one relocated SMBASE
pub record IsDistinct (p : Platform) (es : List Entry) : Type 0 where
  pub own : at_each_state p (have_own_smbases p) (transitions p es) ≡ true
  pub apart : at_each_state p (have_smbases_apart p) (transitions p es) ≡ true

-- it passes the gate: its exchange at F1 found its own APIC ID there
abbrev pub passes : Platform → ℕ → Entry → Bool
passes p k e = is_access_of k e.event && (is_at p F1 e && (value_in e.answer == apic_of p k))

-- a transition writes the gate where more writes cover one of its bytes after it
abbrev pub writes_gate : Transition → Bool
writes_gate x = list_any (λ i. not (touched x.after.writes (gate + i) == touched x.before.writes (gate + i))) (places 8)

-- a report names the APIC ID of a processor that is enabled, with an insert event and no firmware eject
abbrev pub is_insert_of : ℕ → Report → Bool
is_insert_of apic t = (t.apic == apic) && (bit_and t.status 0x13 == 3)

-- the gate was opened for an APIC ID at N7, after a report of the same session had named it
abbrev pub is_opened : Platform → ℕ → Option Transition → List Transition → Bool
is_opened p apic None older = false
is_opened p apic (Some x) older =
    is_that (opened_for p x.entry) apic && list_any (is_insert_of apic) (triples p (session (entries_of older)))

-- what last wrote the gate before the processor passed it, and since its SMI entry it has passed it
abbrev pub is_let_through : Platform → ℕ → Option Transition → List Transition → Bool
is_let_through p k None older = false
is_let_through p k (Some x) older =
    passes p k x.entry && is_opened p (apic_of p k) (newest writes_gate older) (older_than writes_gate older)

abbrev pub comes_or_passes : Platform → ℕ → Transition → Bool
comes_or_passes p k x = is_entry_of k x.entry.event || passes p k x.entry

abbrev pub is_named : Platform → List Transition → Transition → ℕ → Bool
is_named p older x k =
    is_resume_of k x.entry.event
    && (is_at p F6 x.entry && is_let_through p k (newest (comes_or_passes p k) older) (older_than (comes_or_passes p k) older))

abbrev pub moves_named : Platform → List Transition → Transition → Bool
moves_named p older x = list_all (is_named p older x) (moved_in p x)

-- an SMBASE changes only by its processor's own RSM at F6, after it has passed the gate while the monarch had named its APIC ID
pub record IsNamed (p : Platform) (es : List Entry) : Type 0 where
  pub named : at_each (moves_named p) (transitions p es) ≡ true
