-- What stands at a key of a TOML table (own rules): whole numbers of 32 bits, truths, texts, and arrays of one sort of value.
use Rattle.std.specs.Prelude.{ℕ, ◌^◌, nat_lt, ℤ, pos, negsuc, Bool, List, [], ◌∷◌, Option, Some, None, if◌then◌else◌, option_map, option_and_then}
use Rattle.std.specs.Borrow.{Bor}
use Rattle.toml.specs.View.{view}
use Rattle.toml.specs.declared.value.Value.{Value}
use Rattle.toml.specs.Data.{Data, Items, no_items, item, Members, get_member, as_integer, as_bool, as_str, as_array}

-- what a look-up found, as data
abbrev pub seen : Option (Bor Value) → Option Data
seen found = option_map (λ v. view v.now) found

-- what follows from a value, if it is there
abbrev pub given : {A B : Type 0} → Option A → (A → Option B) → Option B
given None f = None
given (Some x) f = f x

-- a number of 32 bits
abbrev pub u32_of : ℤ → Option ℕ
u32_of (pos n) = if nat_lt n (2 ^ 32) then Some n else None
u32_of (negsuc n) = None

abbrev pub u32_in : Data → Option ℕ
u32_in d = option_and_then u32_of (as_integer d)

-- the number at a key
unfoldable pub u32_at : List ℕ → Members → Option ℕ
u32_at key ms = option_and_then u32_in (get_member key ms)

-- the text at a key
unfoldable pub text_at : List ℕ → Members → Option (List ℕ)
text_at key ms = option_and_then as_str (get_member key ms)

-- a truth, the first one if absent
abbrev pub truth_or : Bool → Option Data → Option Bool
truth_or absent None = Some absent
truth_or absent (Some d) = as_bool d

unfoldable pub truth_at : Bool → List ℕ → Members → Option Bool
truth_at absent key ms = truth_or absent (get_member key ms)

module _ {X : Type 0} (one : Data → Option X) where
  -- each item, read as one
  abbrev pub all_in : Items → Option (List X)
  all_in no_items = Some []
  all_in (item d ds) = option_and_then (λ x. option_map (λ xs. x ∷ xs) (all_in ds)) (one d)

  -- an array of them, empty if absent
  abbrev pub rows_in : Option Data → Option (List X)
  rows_in None = Some []
  rows_in (Some d) = option_and_then all_in (as_array d)

-- the numbers of the array at a key
unfoldable pub numbers_at : List ℕ → Members → Option (List ℕ)
numbers_at key ms = option_and_then (all_in u32_in) (option_and_then as_array (get_member key ms))
