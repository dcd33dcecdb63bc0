-- Memory: the writes that were let through, newest first (own rule: bytes that nothing wrote are 0).
use Rattle.std.specs.Prelude.{ℕ, zero, suc, Bool, ◌&&◌, nat_lt, nat_le, ◌+◌, ◌-◌, ◌*◌, ◌/◌, ◌%◌, List, [], ◌∷◌, length, slice_index_or, if◌then◌else◌}

pub record Write : Type 0 where
  pub first : ℕ
  pub bytes : List ℕ

abbrev pub covers : Write → ℕ → Bool
covers w x = nat_le w.first x && nat_lt x (w.first + length w.bytes)

-- the byte at x after a write over these bytes
abbrev pub byte_over : Write → (ℕ → ℕ) → ℕ → ℕ
byte_over w under x = if covers w x then slice_index_or w.bytes (x - w.first) 0 else under x

-- the byte that the newest write of this place gives, else 0
abbrev pub byte_at : List Write → ℕ → ℕ
byte_at [] x = 0
byte_at (w ∷ ws) x = byte_over w (byte_at ws) x

-- a value as so many bytes, and so many bytes from x as a value: the lowest byte first
unfoldable pub bytes_of : ℕ → ℕ → List ℕ
bytes_of zero value = []
bytes_of (suc n) value = value % 256 ∷ bytes_of n (value / 256)

unfoldable pub value_from : (ℕ → ℕ) → ℕ → ℕ → ℕ
value_from bytes x zero = 0
value_from bytes x (suc n) = bytes x + 256 * value_from bytes (x + 1) n

-- a store of a value
abbrev pub write_of : ℕ → ℕ → ℕ → Write
write_of addr width value = record { first = addr; bytes = bytes_of width value }

-- how many writes have covered a byte
abbrev pub touched : List Write → ℕ → ℕ
touched [] x = 0
touched (w ∷ ws) x = if covers w x then touched ws x + 1 else touched ws x
