-- What the rule of a gate says of its words and of the views of all seats.
use Rattle.std.specs.Prelude.{◌≡◌, ◌≢◌, ◌⊎◌, ℕ, ◌≤◌, true, slice_index, List}
use mathlib.Core.Option.{some}
use lib.ListN.{get_elem?}
use Rattle.atomic_table.specs.Table.{State}
use Rattle.hp_model.specs.Block.{is_in}
use Rattle.hp_model.specs.SharedBytes.{closed}
use Rattle.hp_gate.specs.Openings.{apics_of, base_of, opened, IsOpening, word_of, Above, Falls, first_of, names}
use Rattle.hp_gate.specs.Rule.{gate_word, base_word, flag_word, arrived_word, IsUnfinished, HoldsBase, passes_of, flagged_of, arrived_of}
use Rattle.hp_gate.specs.declared.views.Named.{Named}
use Rattle.hp_gate.specs.declared.views.Stage.TheVariants.{Idle, Open}
use Rattle.hp_gate.specs.declared.views.Work.TheVariants.{Free}
use Rattle.hp_gate.specs.declared.views.MonarchView.{MonarchView}
use Rattle.hp_gate.specs.declared.views.CpuView.{CpuView}
use Rattle.hp_gate.specs.declared.views.View.{View}
use Rattle.hp_gate.specs.declared.views.View.TheVariants.{Monarch, Cpu}

-- seat i is a processor's, with this view
abbrev pub Sees : State (Unit {0}) View → ℕ → CpuView → Type 0
Sees s i c = get_elem? s.views i ≡ some (Cpu c)

-- n is one of some processor's: of its passes, or of those that it flagged or that have arrived
pub record IsOfSeat (s : State (Unit {0}) View) (numbers : CpuView → List ℕ) (n : ℕ) : Type 0 where
  pub seat : ℕ
  pub cpu : CpuView
  pub sees : Sees s seat cpu
  pub has : is_in n (numbers cpu) ≡ true

-- n is the greatest of all processors'; 0 where there is none
pub record IsLastOf (s : State (Unit {0}) View) (numbers : CpuView → List ℕ) (n : ℕ) : Type 0 where
  pub one : (n ≡ 0) ⊎ IsOfSeat s numbers n
  pub none_above : (i k : ℕ) (c : CpuView) → Sees s i c → is_in k (numbers c) ≡ true → k ≤ n

-- the gate holds the last opening, which isn't closed and which nobody has passed
pub record HoldsOpening (s : State (Unit {0}) View) (m : MonarchView) : Type 0 where
  pub apic : ℕ
  pub word : slice_index s.words gate_word ≡ word_of (opened m) apic
  pub unclosed : m.stage ≡ Open apic
  pub names : IsOpening m.named (opened m) apic
  pub unpassed : (i : ℕ) (c : CpuView) → Sees s i c → Above (opened m) c.passes

pub record IsSound (s : State (Unit {0}) View) : Type 0 where
  pub monarch : MonarchView
  pub first : get_elem? s.views 0 ≡ some (Monarch monarch)
  -- each opening is of an APIC ID of the list
  pub openings : (n apic : ℕ) → IsOpening monarch.named n apic → is_in apic (apics_of monarch.list) ≡ true
  -- no two seats have one APIC ID, and one past the monarch's count has no seat
  pub one_seat : (i j : ℕ) (b c : CpuView) → Sees s i b → Sees s j c → b.own.apic ≡ c.own.apic → i ≡ j
  pub counted : (i k : ℕ) (c : CpuView) (x : Named) → Sees s i c → get_elem? monarch.list k ≡ some x → monarch.seats ≤ k → c.own.apic ≢ x.apic
  -- the gate is closed, or holds the last opening; and where that is not finished and the gate is closed, it was passed
  pub gate : (slice_index s.words gate_word ≡ closed) ⊎ HoldsOpening s monarch
  pub passed : (apic : ℕ) → IsUnfinished monarch.stage apic → slice_index s.words gate_word ≡ closed → IsOfSeat s passes_of (opened monarch)
  -- a word in the gate that names a processor's APIC ID is an opening of it
  pub named : (i : ℕ) (c : CpuView) → Sees s i c → names c.own.apic (slice_index s.words gate_word) ≡ true → IsOpening monarch.named (opened monarch) c.own.apic
  -- passes are distinct, and each is by the seat of that opening's APIC ID
  pub passed_once : (i j n : ℕ) (b c : CpuView) → Sees s i b → Sees s j c → is_in n b.passes ≡ true → is_in n c.passes ≡ true → i ≡ j
  pub falls : (i : ℕ) (c : CpuView) → Sees s i c → Falls c.passes
  pub by_its_seat : (i n : ℕ) (c : CpuView) → Sees s i c → is_in n c.passes ≡ true → IsOpening monarch.named n c.own.apic
  -- a pass that hasn't arrived is the last opening's, which isn't finished; and base is then the processor's own
  pub in_flight : (i : ℕ) (c : CpuView) → Sees s i c → c.work ≢ Free → (first_of c.passes ≡ opened monarch) × IsUnfinished monarch.stage c.own.apic
  pub its_base : (i : ℕ) (c : CpuView) → Sees s i c → c.work ≢ Free → slice_index s.words base_word ≡ c.own.base
  -- each has the base that the list gives its APIC ID; and the word of base is that of the opening while it matters
  pub bases : (i : ℕ) (c : CpuView) → Sees s i c → c.own.base ≡ base_of monarch.list c.own.apic
  pub base : HoldsBase monarch.list (slice_index s.words base_word) monarch.stage
  -- flag and arrived are the last passes that were flagged and that have arrived
  pub flag : IsLastOf s flagged_of (slice_index s.words flag_word)
  pub arrived : IsLastOf s arrived_of (slice_index s.words arrived_word)

-- gate, flag and arrived are the same in both, and base is while the monarch isn't idle
pub record SameWords (s t : State (Unit {0}) View) : Type 0 where
  pub gate : slice_index s.words gate_word ≡ slice_index t.words gate_word
  pub flag : slice_index s.words flag_word ≡ slice_index t.words flag_word
  pub arrived : slice_index s.words arrived_word ≡ slice_index t.words arrived_word
  pub base : (m : MonarchView) → get_elem? s.views 0 ≡ some (Monarch m) → m.stage ≢ Idle → slice_index s.words base_word ≡ slice_index t.words base_word
