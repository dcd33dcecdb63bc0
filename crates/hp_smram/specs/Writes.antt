-- Lists of register writes.
use Rattle.std.specs.Prelude.{ℕ, List, [], ◌∷◌}
use Rattle.hp_model.specs.View.{Locks, lock_write}

-- the registers after writes of values to registers, the first one first
unfoldable pub written_all : Locks → List (ℕ × ℕ) → Locks
written_all l [] = l
written_all l (w ∷ ws) = written_all (lock_write l w.0 w.1) ws
