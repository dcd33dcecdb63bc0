-- The header and the lines, and then the end line, each whole or in part.
use Rattle.std.proofs.lemmas.Result.{on_err_weaker}
use Rattle.hp_top.proofs.Sends.{trace_front, trace_part}
use Rattle.hp_top.proofs.sending.send_trace.Goals as goal

pub returns-in-Ok-clause-part : goal.returns-in-Ok-clause-part
returns-in-Ok-clause-part g c = on_err_weaker c.send_end.result (trace_part c.args.p.now c.args.entries.now _ _ _ c.in-Ok.ensures.all) c.send_end.ensures.part

pub returns-in-Err-clause-part : goal.returns-in-Err-clause-part
returns-in-Err-clause-part g c = trace_front c.args.p.now c.args.entries.now _ _ c.in-Err.ensures.part
