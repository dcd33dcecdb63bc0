-- No entry, or one that is counted.
use Rattle.std.proofs.Common.{subst}
use Rattle.hp_model.specs.Schedule.{act}
use Rattle.hp_platform.specs.declared.worlds.Turn.{Turn}
use Rattle.hp_platform.specs.declared.worlds.Turn.TheVariants.{Made, Idle}
use Rattle.hp_top.specs.Doing.{Counted}
use Rattle.hp_top.specs.Lives.{Takes}
use Rattle.hp_top.proofs.Counting.{one_more, still_sums}
use Rattle.hp_top.proofs.Doing.{counted_none, does_one}
use Rattle.hp_top.proofs.summing.sum_turn.Goals as goal

pub returns-in-Ok-Idle-clause-done : goal.returns-in-Ok-Idle-clause-done
returns-in-Ok-Idle-clause-done g c = λ p v shows.
    does_one p _ v (λ w. act p w c.args.actor) (Counted c.args.sum.now c.args.sum.now) Idle
    (subst (λ (turn : Turn). Takes p c.take_turn.new.live v (λ w. act p w c.args.actor) turn) c.in-Ok-Idle.field-0-is (c.in-Ok-Idle.ensures p v shows)) (counted_none c.args.sum.now)

pub returns-in-Ok-Made-clause-done : goal.returns-in-Ok-Made-clause-done
returns-in-Ok-Made-clause-done g c = λ p v shows.
    does_one p _ v (λ w. act p w c.args.actor) (Counted c.args.sum.now c.count.new.self) (Made c.in-Ok-Made.entry)
    (subst (λ (turn : Turn). Takes p c.take_turn.new.live v (λ w. act p w c.args.actor) turn) c.in-Ok-Made.field-0-is (c.in-Ok-Made.ensures p v shows)) (λ before is. c.count.ensures before is)

pub returns-in-Ok-Made-clause-sums : goal.returns-in-Ok-Made-clause-sums
returns-in-Ok-Made-clause-sums g c = still_sums c.args.sum.now c.count.new.self c.in-Ok-Made.entry (λ before is. c.count.ensures before is) c.requires.sums

pub returns-in-Ok-Made-clause-most : goal.returns-in-Ok-Made-clause-most
returns-in-Ok-Made-clause-most g c = one_more c.args.sum.now c.count.new.self c.in-Ok-Made.entry (λ before is. c.count.ensures before is) c.requires.sums
