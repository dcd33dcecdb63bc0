-- What contracts see of the slots: the rules' slots, and the APIC IDs that may get one.
use Rattle.std.specs.Prelude.{◌≡◌, ◌⊎◌, ◌≤◌, ℕ, Bool, true, Option, Some, None, List, length}
use Rattle.std.specs.List.{list_all}
use Rattle.hp_model.specs.Block.{is_in}
use Rattle.hp_model.specs.Platform.{all_distinct}
use Rattle.hp_model.specs.Slots.{Slots}

pub record Roster : Type 0 where
  pub slots : Slots
  pub possible : List ℕ  -- the possible APIC IDs, by place; they never change

-- no add is underway but one of this APIC ID
abbrev pub IsFree : Option ℕ → ℕ → Type 0
IsFree held apic = (held ≡ None) ⊎ (held ≡ Some apic)

-- as many known as bound, distinct and possible APIC IDs, and room for all possible ones
pub record IsSound (bound : List ℕ) (known : List Bool) (possible : List ℕ) (room room_known : ℕ) : Type 0 where
  pub same : length known ≡ length bound
  pub distinct : all_distinct bound ≡ true
  pub among : list_all (λ a. is_in a possible) bound ≡ true
  pub few : length bound ≤ length possible
  pub at_most : length possible ≤ 512
  pub fits : length possible ≤ room
  pub fits_known : length possible ≤ room_known
