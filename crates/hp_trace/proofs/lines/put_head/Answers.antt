-- The header is written part by part.
use Rattle.std.proofs.lemmas.Result.{on_ok_weaker}
use Rattle.hp_trace.proofs.Heads.{head_written}
use Rattle.hp_trace.proofs.lines.put_head.Goals as goal

pub returns-clause-text : goal.returns-clause-text
returns-clause-text c = on_ok_weaker c.end_line.result (λ done. head_written c.args.p.now c.args.out.now.items _ _ _ _ _
    c.in_ok-put_front.ensures.text c.in_ok-put_delivery.ensures.text c.in_ok-put_all.ensures.text c.x2apic_word.ensures done) c.end_line.ensures.text
