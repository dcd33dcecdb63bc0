-- One byte more is noted.
use Rattle.hp_judge.proofs.Verdicts.{byte_noted}
use Rattle.hp_judge.proofs.pieces.note.Goals as goal

pub loop-byte-preserved : goal.loop-byte-preserved
loop-byte-preserved c =
    byte_noted c.loop-byte.taken.items c.and.result.items c.args.taken.now.items c.args.bytes.now c.loop-byte.byte-index _ _ c.and.ensures c.loop-byte-test.true c.loop-byte.invariant
