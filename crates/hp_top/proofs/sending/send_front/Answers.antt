-- The header, and a front of the lines.
use Rattle.std.proofs.lemmas.Result.{on_err_weaker}
use Rattle.hp_top.proofs.Sends.{front_then}
use Rattle.hp_top.proofs.sending.send_front.Goals as goal

pub returns-in-Ok-clause-part : goal.returns-in-Ok-clause-part
returns-in-Ok-clause-part g c = on_err_weaker c.send_lines.result (front_then _ _ _ _ _ c.in-Ok.ensures.all) c.send_lines.ensures.part
