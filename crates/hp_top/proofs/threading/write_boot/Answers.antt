-- The text of a boot that a value refused, or a front of it.
use Rattle.std.proofs.Common.{List, ◌++◌, inr, subst}
use Rattle.std.specs.Io.KnownBytes.{Appends}
use Rattle.hp_model.specs.declared.entries.Entry.{Entry}
use Rattle.hp_model.specs.Text.{head_text, lines_text}
use Rattle.hp_top.specs.Sent.{HoldsFront}
use Rattle.hp_top.proofs.Threaded.{boot_front, boot_written}
use Rattle.hp_top.proofs.threading.write_boot.Goals as goal

pub returns-in-Ok-clause-ends : goal.returns-in-Ok-clause-ends
returns-in-Ok-clause-ends g c = λ told stop.
    let f = c.args.file.now in
    let old = g.K.Sink.held c.args.out.now in
    let new = g.K.Sink.held c.send_front.new.out in
    boot_written f told c.args.fact _ old new stop
    (subst (λ (es : List Entry). Appends old new (head_text f.platform ++ lines_text es)) c.entries.ensures.entries c.in-Ok.ensures.all)

pub returns-in-Err-Failed-clause-ends : goal.returns-in-Err-Failed-clause-ends
returns-in-Err-Failed-clause-ends g c = λ told stop.
    let f = c.args.file.now in
    let old = g.K.Sink.held c.args.out.now in
    let new = g.K.Sink.held c.send_front.new.out in
    boot_front f told c.args.fact _ old new stop
    (subst (λ (es : List Entry). HoldsFront old new (head_text f.platform ++ lines_text es)) c.entries.ensures.entries c.in-Err-Failed.ensures.part)

pub returns-clause-ends : goal.returns-clause-ends
returns-clause-ends g c = λ told stop.
    let f = c.args.file.now in
    let old = g.K.Sink.held c.args.out.now in
    let new = g.K.Sink.held c.send_front.new.out in
    inr (boot_front f told c.args.fact _ old new stop
    (subst (λ (es : List Entry). HoldsFront old new (head_text f.platform ++ lines_text es)) c.entries.ensures.entries c.in-Err-NoMemory.ensures.part))
