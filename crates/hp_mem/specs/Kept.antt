-- What contracts see of a memory, and which writes it stands for.
use Rattle.std.specs.Prelude.{◌≡◌, ℕ, List}
use Rattle.hp_model.specs.Memory.{Write, byte_at}
use Rattle.hp_mem.specs.Pages.{byte_in}

-- contracts speak of kept_at and of the room alone, so that the bytes can be kept in another form
pub record Kept : Type 0 where
  pub directory : List ℕ
  pub bytes : List ℕ
  pub spare : ℕ  -- room for so many more bytes, wherever they are stored

-- the byte at each address, 0 where nothing was written (own rule)
abbrev pub kept_at : Kept → ℕ → ℕ
kept_at kept x = byte_in kept.directory kept.bytes x

-- a memory that holds, at each address, what these writes left there
pub record StandsFor (kept : Kept) (ws : List Write) : Type 0 where
  pub each : (x : ℕ) → kept_at kept x ≡ byte_at ws x
