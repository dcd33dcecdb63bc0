-- Where the registers answer, in one list (own rule).
use Rattle.std.specs.Prelude.{ℕ, Bool, ◌&&◌, ◌==◌, List, [], ◌∷◌}
use Rattle.std.specs.List.{list_any}

-- each register's port, and its width in bytes
abbrev pub registers : List (ℕ × ℕ)
registers = (0xb2, 1) ∷ (0xb3, 1) ∷ (0x620, 1) ∷ (0x630, 4) ∷ []

abbrev pub is_register : ℕ → ℕ → Bool
is_register port width = list_any (λ r. (r.0 == port) && (r.1 == width)) registers
