-- So many bytes are noted.
use Rattle.std.proofs.Common.{◌≡◌, ◌++◌, take}
use Rattle.hp_judge.specs.Stages.{text_of}
use Rattle.hp_judge.proofs.pieces.note.Given as goal

abbrev pub invariant-loop-byte : goal.invariant-loop-byte
invariant-loop-byte l = text_of l.taken.items ≡ text_of l.fn.taken.items ++ take l.byte-index l.bytes
