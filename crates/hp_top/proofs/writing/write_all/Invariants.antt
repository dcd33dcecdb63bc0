-- What is left is still to come, and the count stayed.
use Rattle.std.proofs.Common.{◌≡◌, length}
use Rattle.hp_top.specs.Sent.{IsSent}
use Rattle.hp_top.proofs.writing.write_all.Given as goal

abbrev pub invariant-text : goal.invariant-text
invariant-text g l = record {
  sent : IsSent (g.K.Sink.held l.fn.out) (g.K.Sink.held l.out) l.rest l.text;
  calm : g.K.Sink.faults l.out ≡ g.K.Sink.faults l.fn.out;
}

abbrev pub decreases-text : goal.decreases-text
decreases-text g l = length l.rest
