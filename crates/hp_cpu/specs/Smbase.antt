-- Which numbers are a processor's SMBASE.
use Rattle.std.specs.Prelude.{◌≡◌, ◌≤◌, ℕ, ◌%◌}

-- a multiple of 64 KiB whose 64 KiB lie below 2^32 (own rule)
pub record IsSmbase (smbase : ℕ) : Type 0 where
  pub aligned : smbase % 0x10000 ≡ 0
  pub below : smbase ≤ 0xffff0000
