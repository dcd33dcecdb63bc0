-- The lines of the turns, and the end line.
use Rattle.std.proofs.lemmas.Result.{on_ok_weaker, on_err_weaker}
use Rattle.hp_model.specs.Schedule.{turns_from}
use Rattle.hp_top.specs.Actors.{to_come}
use Rattle.hp_top.proofs.Booting.{part_cuts, end_writes, end_cuts}
use Rattle.hp_top.proofs.Coming.{all_cuts, all_sends}
use Rattle.hp_top.proofs.running.run_turns.Goals as goal

pub returns-in-Err-clause-part : goal.returns-in-Err-clause-part
returns-in-Err-clause-part g c = λ v shows.
    let f = c.args.file.now in
    part_cuts f.platform v (λ w. turns_from f f.platform.turns 0 w) c.args.booted _ _ (all_cuts f (to_come c.args.actors.now) c.requires.all v _ _ (c.in-Err.ensures.part f.platform v shows))

pub returns-clause-all : goal.returns-clause-all
returns-clause-all g c = λ v shows.
    let f = c.args.file.now in
    on_ok_weaker c.send_end.result
    (λ end. end_writes f.platform v (λ w. turns_from f f.platform.turns 0 w) c.args.booted _ _ _ c.in-Ok.made _
    (all_sends f (to_come c.args.actors.now) c.requires.all _ v c.in-Ok.made _ _ (c.in-Ok.ensures.made f.platform v shows)) end)
    c.send_end.ensures.all

pub returns-clause-part : goal.returns-clause-part
returns-clause-part g c = λ v shows.
    let f = c.args.file.now in
    on_err_weaker c.send_end.result
    (λ cut. end_cuts f.platform v (λ w. turns_from f f.platform.turns 0 w) c.args.booted _ _ _ c.in-Ok.made _
    (all_sends f (to_come c.args.actors.now) c.requires.all _ v c.in-Ok.made _ _ (c.in-Ok.ensures.made f.platform v shows)) cut)
    c.send_end.ensures.part
