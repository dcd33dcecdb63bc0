-- What a reader has read of a trace, and what a line says to it (own rules).
use Rattle.std.specs.Prelude.{◌≡◌, ℕ, Bool, true, false, ◌+◌, ◌-◌, ◌^◌, min, List, Option, Some, None, Result, Ok, Err, if◌then◌else◌}
use Rattle.hp_model.specs.declared.platforms.Platform.{Platform}
use Rattle.hp_model.specs.declared.entries.Entry.{Entry}
use Rattle.hp_model.specs.Platform.{IsFit}
use Rattle.hp_reading.specs.declared.readers.Piece.{Piece}
use Rattle.hp_reading.specs.declared.readers.Piece.TheVariants as piece
use Rattle.hp_reading.specs.declared.faults.LineFault.{LineFault}
use Rattle.hp_reading.specs.declared.faults.LineFault.TheVariants.{BadLine, NoMemory}
use Rattle.hp_reading.specs.Lines.{entry_of, end_of}
use Rattle.hp_reading.specs.Header.{head_of}

-- the platform once the header was read, how many lines were fed, and whether the last of them was refused
pub record Reading : Type 0 where
  pub platform : Option Platform
  pub lines : ℕ
  pub refused : Bool

abbrev pub nothing_read : Reading
nothing_read = record { platform = None; lines = 0; refused = false }

-- the number of the line that is fed, or of the one that was refused
abbrev pub number_of : Reading → ℕ
number_of r = if r.refused then r.lines else min (r.lines + 1) (2 ^ 64 - 1)

-- a line behind the header is an entry or the end
abbrev pub said : Option Entry → Option ℕ → Option Piece
said (Some e) end = Some (piece.Entry e)
said None (Some entries) = Some (piece.End entries)
said None None = None

unfoldable pub line_piece : List ℕ → Option Piece
line_piece text = said (entry_of text) (end_of text)

abbrev pub head_piece : Option Platform → Option Piece
head_piece None = None
head_piece (Some p) = Some piece.Head

abbrev pub piece_by : Option Platform → List ℕ → Option Piece
piece_by None text = head_piece (head_of text)
piece_by (Some p) text = line_piece text

-- what a line says, None where it isn't in the grammar in its place, or one before it wasn't
abbrev pub piece_of : Reading → List ℕ → Option Piece
piece_of r text = if r.refused then None else piece_by r.platform text

abbrev pub platform_after : Option Platform → List ℕ → Option Platform
platform_after None text = head_of text
platform_after (Some p) text = Some p

-- after a line that says something, and after one that doesn't
abbrev pub fed : Reading → List ℕ → Reading
fed r text = record { platform = platform_after r.platform text; lines = number_of r; refused = false }

abbrev pub stopped : Reading → Reading
stopped r = record r { lines = number_of r; refused = true }

abbrev pub Fed : Reading → List ℕ → Reading → Result Piece LineFault → Type 0
Fed old text new (Ok piece) = (piece_of old text ≡ Some piece) × (new ≡ fed old text)
Fed old text new (Err (BadLine number)) = (piece_of old text ≡ None) × ((number ≡ number_of old) × (new ≡ stopped old))
Fed old text new (Err NoMemory) = new ≡ old

-- a platform that was read fits
abbrev pub IsRead : Option Platform → Type 0
IsRead None = Unit {0}
IsRead (Some p) = IsFit p
