use Rattle.std.proofs.Common.{drop}
use Rattle.hp_trace.proofs.Texts.{IsOnTheWay}
use Rattle.hp_trace.proofs.pieces.put_word.Given as goal

abbrev pub invariant-loop-byte : goal.invariant-loop-byte
invariant-loop-byte l = IsOnTheWay l.fn.out.items l.out.items (drop l.byte-index l.text) l.text
