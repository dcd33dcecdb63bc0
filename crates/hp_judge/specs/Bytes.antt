-- How far a text has led, byte by byte (own rules).
use Rattle.std.specs.Prelude.{◌≡◌, ℕ, Bool, true, false, not, ◌&&◌, ◌+◌, ◌==◌, ◌<◌, nat_lt, List, [], ◌∷◌, ◌++◌, length, take, drop, Result, if◌then◌else◌}
use Rattle.hp_reading.specs.Fault.{Fault, Line, End}
use Rattle.hp_reading.specs.Trace.{cut}
use Rattle.hp_judge.specs.Standing.{Standing, heading, going, ended, refused, refusing, is_refused, after_line, after_lines, verdict}

-- the lines that have ended, and the bytes behind them
pub record Judged : Type 0 where
  pub standing : Standing
  pub rest : List ℕ

abbrev pub nothing_judged : Judged
nothing_judged = record { standing = heading; rest = [] }

-- no line of the grammar has so many bytes
abbrev pub longest : ℕ
longest = 12288

-- a line that is longer, whatever follows
abbrev pub overlong : Standing → Standing
overlong heading = refusing 1 Line
overlong (going p s n) = refusing (n + 2) Line
overlong (ended n) = refusing (n + 2) End
overlong (refused f) = refused f

abbrev pub lengthened : Judged → ℕ → Bool → Judged
lengthened j c true = record { standing = j.standing; rest = j.rest ++ c ∷ [] }
lengthened j c false = record { standing = overlong j.standing; rest = [] }

-- behind a refusal no byte counts
unfoldable pub after_byte : Judged → ℕ → Judged
after_byte j c =
    if is_refused j.standing then j
    else if c == 10 then record { standing = after_line j.standing j.rest; rest = [] }
    else lengthened j c (nat_lt (length j.rest) longest)

unfoldable pub after_bytes : Judged → List ℕ → Judged
after_bytes j [] = j
after_bytes j (c ∷ text) = after_bytes (after_byte j c) text

-- no line feed is among these bytes
abbrev pub has_no_feed : List ℕ → Bool
has_no_feed [] = true
has_no_feed (c ∷ text) = not (c == 10) && has_no_feed text

-- the first line feed of the text stands there
pub record IsFeed (text : List ℕ) (at : ℕ) : Type 0 where
  pub inside : at < length text
  pub free : has_no_feed (take at text) ≡ true
  pub feed : drop at text ≡ 10 ∷ drop (at + 1) text

-- what is judged where this text follows
unfoldable pub verdict_behind : Judged → List ℕ → Result ℕ Fault
verdict_behind j more = verdict (after_lines j.standing (cut (j.rest ++ more)).lines) (cut (j.rest ++ more)).rest
