use Rattle.std.proofs.Common.{◌≡◌, arith}
use Rattle.hp_mem.proofs.Slices.{put_1, put_2, put_4, put_8}
use Rattle.hp_mem.proofs.words.put_word.Goals as goal

pub returns-in-1-clause-written : goal.returns-in-1-clause-written
returns-in-1-clause-written c = rw c.in-1.is (put_1 c.args.bytes.now c.args.at c.args.value (rw (← c.in-1.is) c.requires.end))

pub returns-in-2-clause-written : goal.returns-in-2-clause-written
returns-in-2-clause-written c = rw c.in-2.is (put_2 c.args.bytes.now c.write_u16.new.buf c.args.at c.args.value (rw (← c.in-2.is) c.requires.end) c.write_u16.ensures)

pub returns-in-4-clause-written : goal.returns-in-4-clause-written
returns-in-4-clause-written c = rw c.in-4.is (put_4 c.args.bytes.now c.write_u32.new.buf c.args.at c.args.value (rw (← c.in-4.is) c.requires.end) c.write_u32.ensures)

pub returns-in_default-clause-written : goal.returns-in_default-clause-written
returns-in_default-clause-written c =
    let is : c.args.width ≡ 8 = grind (arith, c.requires.width, c.in_default) in
    rw is (put_8 c.args.bytes.now c.write_u64.new.buf c.args.at c.args.value (rw (← is) c.requires.end) c.write_u64.ensures)
