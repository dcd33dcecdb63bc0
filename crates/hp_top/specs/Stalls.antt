-- Stalls, turn after turn.
use Rattle.std.specs.Prelude.{◌≡◌, ℕ, ◌+◌, ◌<◌, ◌≤◌, ◌||◌, nat_lt, nat_le, List, length, slice_index_or, slice_set, if◌then◌else◌}
use Rattle.hp_model.specs.declared.files.Stall.{Stall}
use Rattle.hp_model.specs.declared.files.File.{File}
use Rattle.hp_model.specs.Platform.{count_of}
use Rattle.hp_model.specs.Schedule.{is_stalled}
use Rattle.hp_top.specs.Turns.{Rises, start_of}

-- the stalls that haven't begun, and for each processor the turn after the last that a begun one keeps from it
pub record Stalled : Type 0 where
  pub rest : List Stall
  pub until : List ℕ

-- from this turn on they say of each processor what all these stalls say
abbrev pub Tracks : List Stall → ℕ → Stalled → Type 0
Tracks all turn s = (k t : ℕ) → k < length s.until → turn ≤ t → is_stalled all k t ≡ (nat_lt t (slice_index_or s.until k 0) || is_stalled s.rest k t)

-- a stall has begun
abbrev pub begun : Stall → List ℕ → List ℕ
begun s until = if nat_le (slice_index_or until s.cpu 0) s.to then slice_set until s.cpu (s.to + 1) else until

-- they say what the file says, from this turn on
pub record IsTracking (f : File) (turn : ℕ) (s : Stalled) : Type 0 where
  pub tracks : Tracks f.stalls turn s
  pub rises : Rises start_of 0 s.rest
  pub count : length s.until ≡ count_of f.platform
