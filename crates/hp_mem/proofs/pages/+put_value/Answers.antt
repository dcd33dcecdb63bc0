use Rattle.std.proofs.Common.{arith, sym, ◌<◌}
use Rattle.hp_mem.specs.Pages.{byte_in}
use Rattle.hp_mem.proofs.Storing.{stored_in_page, stored_none, stored_then}
use Rattle.hp_mem.proofs.pages.+put_value.Goals as goal

pub returns-then-width-gt0-clause-written : goal.returns-then-width-gt0-clause-written
returns-then-width-gt0-clause-written t c =
    let e = c.entry_of-entry.result in
    let some : 0 < e = rw c.entry_of-entry.ensures (c.requires.covers.each c.args.addr (omega arith) (omega (arith, c.if-width-gt0.true))) in
    let first = stored_in_page c.args.directory.now c.args.bytes.now c.put_word.new.bytes c.args.addr 1 c.args.value e c.requires.pages c.entry_of-entry.ensures some (omega arith) c.put_word.ensures.written in
    stored_then (byte_in c.args.directory.now c.args.bytes.now) (byte_in c.args.directory.now c.put_word.new.bytes) (byte_in c.args.directory.now c.put_value.new.bytes) c.args.addr c.args.width c.args.value c.if-width-gt0.true first c.put_value.ensures.written

pub returns-else-width-gt0-clause-written : goal.returns-else-width-gt0-clause-written
returns-else-width-gt0-clause-written t c = λ x. sym (stored_none (byte_in c.args.directory.now c.args.bytes.now) c.args.addr c.args.width c.args.value x (omega (arith, c.if-width-gt0.false)))
