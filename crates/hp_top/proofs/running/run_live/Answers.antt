-- What each part of the text adds to what was sent, and what a part that stopped leaves.
use Rattle.std.proofs.Common.{None, Some, refl, sym, ◌∙◌}
use Rattle.hp_top.specs.Turns.{carried_start}
use Rattle.hp_top.proofs.Booting.{head_cuts, boot_cuts, refused_writes, turns_write, turns_cut}
use Rattle.hp_top.proofs.running.run_live.Goals as goal

pub returns-in-Err-clause-part : goal.returns-in-Err-clause-part
returns-in-Err-clause-part g c = λ told shows. head_cuts c.args.file.now told _ _ c.in-Err.ensures.part

pub returns-in-Err-make_boot-clause-part : goal.returns-in-Err-make_boot-clause-part
returns-in-Err-make_boot-clause-part g c = λ told shows.
    let f = c.args.file.now in
    boot_cuts f told _ _ _ c.in_default.ensures.all c.boot_turns.result c.boot_turns.ensures.value (c.in-Err-make_boot.ensures.part f.platform (carried_start f.platform told) shows)

pub returns-in-Some-clause-all : goal.returns-in-Some-clause-all
returns-in-Some-clause-all g c = λ told shows.
    let f = c.args.file.now in
    refused_writes f told _ _ _ c.in_default.ensures.all c.boot_turns.result c.boot_turns.ensures.value c.make_boot.new.live c.in-Ok.booted
    (c.in-Ok.ensures.made f.platform (carried_start f.platform told) shows) (Some c.in-Some.fact) (sym c.in-Some.is ∙ c.boot_fact.ensures) c.in-Some.fact refl

pub returns-in-Ok-run_turns-clause-all : goal.returns-in-Ok-run_turns-clause-all
returns-in-Ok-run_turns-clause-all g c = λ told shows.
    let f = c.args.file.now in
    let boot = c.in-Ok.ensures.made f.platform (carried_start f.platform told) shows in
    turns_write f told _ _ _ c.in_default.ensures.all c.boot_turns.result c.boot_turns.ensures.value c.make_boot.new.live c.in-Ok.booted
    boot None (sym c.in-None.is ∙ c.boot_fact.ensures) refl _ (c.in-Ok-run_turns.ensures.all boot.left boot.shows)

pub returns-in-Err-run_turns-clause-part : goal.returns-in-Err-run_turns-clause-part
returns-in-Err-run_turns-clause-part g c = λ told shows.
    let f = c.args.file.now in
    let boot = c.in-Ok.ensures.made f.platform (carried_start f.platform told) shows in
    turns_cut f told _ _ _ c.in_default.ensures.all c.boot_turns.result c.boot_turns.ensures.value c.make_boot.new.live c.in-Ok.booted
    boot None (sym c.in-None.is ∙ c.boot_fact.ensures) refl _ (c.in-Err-run_turns.ensures.part boot.left boot.shows)
