-- A text that is sent piece by piece.
use Rattle.std.specs.Prelude.{◌≡◌, ℕ, List, ◌++◌, Option}
use Rattle.std.specs.Io.KnownBytes.{Appends}

-- the sink grew by the front of this text, and this is still to come
pub record IsSent (old new : Option (List ℕ)) (rest whole : List ℕ) : Type 0 where
  pub front : List ℕ
  pub text : front ++ rest ≡ whole
  pub grown : Appends old new front

-- the sink grew by a front of this text: what a fault leaves
pub record HoldsFront (old new : Option (List ℕ)) (whole : List ℕ) : Type 0 where
  pub rest : List ℕ
  pub sent : IsSent old new rest whole
