-- The line that was sent in part is the first of those that were left.
use Rattle.hp_top.proofs.Sends.{front_line}
use Rattle.hp_top.proofs.sending.send_lines.Goals as goal

pub returns-in-Err-clause-part : goal.returns-in-Err-clause-part
returns-in-Err-clause-part g c = front_line _ _ _ _ _ _ _ c.lines.invariant.sent c.in-Some.ensures.some c.in-Err.ensures.part
