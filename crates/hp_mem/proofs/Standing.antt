-- A memory that stands for writes, for the crates above: what a load of it answers, and what it stands for after a store.
use Rattle.std.proofs.Common.{◌≡◌, ℕ, List, [], ◌∷◌, refl, ◌∙◌}
use Rattle.hp_model.specs.Memory.{Write, byte_over, byte_at, value_from}
use Rattle.hp_mem.specs.Kept.{Kept, kept_at, StandsFor}
use Rattle.hp_mem.proofs.Values.{value_same}

pub stands_loaded : (kept : Kept) (ws : List Write) (addr width : ℕ) → StandsFor kept ws → value_from (kept_at kept) addr width ≡ value_from (byte_at ws) addr width
stands_loaded kept ws addr width stands = value_same (kept_at kept) (byte_at ws) addr width stands.each

pub stands_same : (old new : Kept) (ws : List Write) → ((x : ℕ) → kept_at new x ≡ kept_at old x) → StandsFor old ws → StandsFor new ws
stands_same old new ws same stands = record { each = λ x. same x ∙ stands.each x }

pub stands_stored : (old new : Kept) (w : Write) (ws : List Write) → ((x : ℕ) → kept_at new x ≡ byte_over w (kept_at old) x) → StandsFor old ws → StandsFor new (w ∷ ws)
stands_stored old new w ws written stands = record { each = λ x. written x ∙ rw (stands.each x) refl }

-- a memory of zeros stands for no writes
pub stands_zeros : (kept : Kept) → ((x : ℕ) → kept_at kept x ≡ 0) → StandsFor kept []
stands_zeros kept zeros = record { each = zeros }

pub ruleset standing = (stands_loaded, stands_same, stands_stored, stands_zeros)
