-- What is read of an arrived byte is a byte.
use Rattle.std.proofs.Common.{ap, arith}
use Rattle.hp_monarch.specs.Session.{label_of}
use Rattle.hp_monarch.proofs.Looks.{byte_at_S3}
use Rattle.hp_monarch.proofs.sessions.Monarch.feed_in.Goals as goal

pub overflow_cast-value : goal.overflow_cast-value
overflow_cast-value c =
    let s = c.args.self.now in
    let byte = byte_at_S3 s.layout s.monarch c.args.answer (label_of c.args.row) (ap label_of c.in-S3.is) c.requires.fits in
    omega (arith, c.value.ensures, byte)
