-- Openings of a gate (own rule): their numbers, the words that say them, and the processors that may be named.
use Rattle.std.specs.Prelude.{◌≡◌, ℕ, zero, suc, ◌+◌, ◌*◌, ◌%◌, ◌^◌, ◌<◌, Bool, true, not, ◌&&◌, List, [], ◌∷◌, map, length, if◌then◌else◌, ◌==◌}
use mathlib.Core.Option.{some}
use lib.ListN.{get_elem?}
use Rattle.hp_model.specs.Block.{is_in}
use Rattle.hp_model.specs.SharedBytes.{closed}
use Rattle.hp_gate.specs.declared.views.Named.{Named}
use Rattle.hp_gate.specs.declared.views.MonarchView.{MonarchView}

-- the APIC IDs of a list
abbrev pub apics_of : List Named → List ℕ
apics_of list = map (λ (x : Named). x.apic) list

-- the base that a list gives an APIC ID; 0 where it isn't in it
abbrev pub base_of : List Named → ℕ → ℕ
base_of [] apic = 0
base_of (x ∷ xs) apic = if x.apic == apic then x.base else base_of xs apic

-- the k-th of a list, from 0 on
abbrev pub named_at : List Named → ℕ → Named
named_at [] k = record { apic = 0; base = 0 }
named_at (x ∷ xs) zero = x
named_at (x ∷ xs) (suc k) = named_at xs k

-- the base that a list gives some APIC ID of it
pub record IsListedBase (list : List Named) (base : ℕ) : Type 0 where
  pub apic : ℕ
  pub listed : is_in apic (apics_of list) ≡ true
  pub is : base ≡ base_of list apic

-- no two have one APIC ID
abbrev pub IsDistinct : List Named → Type 0
IsDistinct list = (i j : ℕ) (x y : Named) → get_elem? list i ≡ some x → get_elem? list j ≡ some y → x.apic ≡ y.apic → i ≡ j

-- how many openings were made, which is the number of the last one
abbrev pub opened : MonarchView → ℕ
opened m = length m.named

-- n is the number of an opening, of this APIC ID: they are numbered from 1 on, in their order
pub record IsOpening (named : List ℕ) (n apic : ℕ) : Type 0 where
  pub place : ℕ
  pub number : n ≡ place + 1
  pub names : get_elem? named place ≡ some apic

-- what the gate holds while opening n of an APIC ID is neither passed nor closed
abbrev pub word_of : ℕ → ℕ → ℕ
word_of n apic = n * 2 ^ 32 + apic

-- a word of an opening of this APIC ID. In a gate no other word is
abbrev pub names : ℕ → ℕ → Bool
names apic word = not (word == closed) && (word % 2 ^ 32 == apic)

-- n is above each of these
abbrev pub Above : ℕ → List ℕ → Type 0
Above n ns = (k : ℕ) → is_in k ns ≡ true → k < n

-- each is above those behind it
abbrev pub Falls : List ℕ → Type 0
Falls [] = Unit {0}
Falls (n ∷ ns) = Above n ns × Falls ns

-- the first one; 0 where there is none
abbrev pub first_of : List ℕ → ℕ
first_of [] = 0
first_of (n ∷ ns) = n

-- all but the first one
abbrev pub behind : List ℕ → List ℕ
behind [] = []
behind (n ∷ ns) = ns
