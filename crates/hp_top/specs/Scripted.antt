-- What contracts see of a source and a sink in memory that fail at the calls that they were told.
use Rattle.std.specs.Prelude.{ℕ, Bool, ◌==◌, ◌+◌, ◌-◌, ◌^◌, min, List}
use Rattle.std.specs.List.{list_any}

pub record Scripted : Type 0 where
  pub bytes : List ℕ  -- what is left, or what is held
  pub calls : ℕ  -- how many calls there were
  pub fails : List ℕ  -- the numbers, from 1, of the calls that fail
  pub faults : ℕ

-- the number of the next call; a count stands still at its type's end
abbrev pub next_call : Scripted → ℕ
next_call s = min (s.calls + 1) (2 ^ 64 - 1)

-- the next call is one of those that fail
abbrev pub is_due : Scripted → Bool
is_due s = list_any (λ number. number == next_call s) s.fails
