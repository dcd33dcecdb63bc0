-- A line was taken, or there is no memory for it.
use Rattle.std.proofs.Common.{drop, refl}
use Rattle.hp_judge.proofs.Feeds.{line_and_more}
use Rattle.hp_judge.proofs.Taking.{front_taken, line_more}
use Rattle.hp_judge.proofs.judges.Judge.feed.Goals as goal

pub returns-in-Err : goal.returns-in-Err
returns-in-Err c =
    front_taken c.args.self.now c.args.bytes.now c.lines.self c.take_line.new.self c.lines.left.now c.split_at.result.0.now (drop 1 c.split_at.result.1.now) c.lines.invariant
    (line_and_more c.lines.left.now c.split_at.result.0.now c.split_at.result.1.now _ c.in-Some.at c.in-Some.ensures.some c.split_at.ensures.front c.split_at.ensures.back refl)
    c.in-Err.ensures.no_memory

pub lines-preserved : goal.lines-preserved
lines-preserved c =
    line_more c.args.self.now c.args.bytes.now c.lines.self c.take_line.new.self c.lines.left.now c.split_at.result.0.now c.split_at-in-Some.result.1.now c.lines.invariant
    (line_and_more c.lines.left.now c.split_at.result.0.now c.split_at.result.1.now _ c.in-Some.at c.in-Some.ensures.some c.split_at.ensures.front c.split_at.ensures.back c.split_at-in-Some.ensures.back)
    c.in-Ok.ensures.taken
