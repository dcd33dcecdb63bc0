-- The boot is counted, and then the turns.
use Rattle.hp_top.specs.Turns.{carried_start}
use Rattle.hp_top.proofs.Counting.{summed}
use Rattle.hp_top.proofs.summing.sum_live.Goals as goal

pub returns-in-Ok-sum_turns : goal.returns-in-Ok-sum_turns
returns-in-Ok-sum_turns g c = λ told shows.
    let f = c.args.file.now in
    summed f told c.boot_turns.result c.boot_turns.ensures.value _ c.requires.all c.sum_boot.new.live c.sum_turns.new.live c.new-sum.result c.sum_boot.new.sum c.sum_turns.new.sum c.new-sum.ensures
    (c.in-Ok.ensures.done f.platform (carried_start f.platform told) shows) (λ v seen. c.in-Ok-sum_turns.ensures.done f.platform v seen)
