-- The bytes of an access, one by one.
use Rattle.std.specs.Prelude.{◌≡◌, ℕ, zero, suc, Bool, true, false, ◌||◌, ◌+◌, ◌<◌, ◌≤◌}
use Rattle.hp_model.specs.View.{Locks, is_hidden}

-- some byte of the access is out of reach
pub record HidesSome (l : Locks) (in_smm : Bool) (addr width : ℕ) : Type 0 where
  pub byte : ℕ
  pub from : addr ≤ byte
  pub to : byte < addr + width
  pub hidden : is_hidden l in_smm byte ≡ true

-- one of so many bytes from x on is such a byte
unfoldable pub has_byte : (ℕ → Bool) → ℕ → ℕ → Bool
has_byte test x zero = false
has_byte test x (suc n) = test x || has_byte test (x + 1) n
