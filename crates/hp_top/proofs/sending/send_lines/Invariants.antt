-- The lines that are left are still to come, and the count stayed.
use Rattle.std.proofs.Common.{◌≡◌, length}
use Rattle.hp_model.specs.Text.{lines_text}
use Rattle.hp_top.specs.Sent.{IsSent}
use Rattle.hp_top.proofs.sending.send_lines.Given as goal

abbrev pub invariant-lines : goal.invariant-lines
invariant-lines g l = record {
  sent : IsSent (g.K.Sink.held l.fn.out) (g.K.Sink.held l.out) (lines_text l.rest) (lines_text l.entries);
  calm : g.K.Sink.faults l.out ≡ g.K.Sink.faults l.fn.out;
}

abbrev pub decreases-lines : goal.decreases-lines
decreases-lines g l = length l.rest
