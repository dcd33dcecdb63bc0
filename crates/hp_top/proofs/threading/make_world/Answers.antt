-- The boot is over: a value refused it, or the machine is handed over and threads make the turns.
use Rattle.std.proofs.Common.{map, sym, ◌∙◌}
use Rattle.hp_model.specs.Voices.{told_by}
use Rattle.hp_top.proofs.Threaded.{handed_on, stopped_at}
use Rattle.hp_top.proofs.threading.make_world.Goals as goal

pub run_booted-requires-clause-handed : goal.run_booted-requires-clause-handed
run_booted-requires-clause-handed g c = λ _ _ s is.
    let p = c.args.file.now.platform in
    let told = told_by p c.args.kinds.items (map g.A.Agent.voice c.args.handed.items) in
    let b = c.in_ok-world.ensures.booted in
    handed_on p told c.in_ok-world.world b (c.boot_ends.ensures.over p b.voices c.requires.fit) (λ t found. sym c.in-None.is ∙ c.boot_fact.ensures t found) s is

pub returns-in-Some-clause-entries : goal.returns-in-Some-clause-entries
returns-in-Some-clause-entries g c =
    stopped_at c.args.file.now _ c.in_ok-world.world c.in_ok-world.ensures.booted c.in-Some.fact (λ s is. sym c.in-Some.is ∙ c.boot_fact.ensures s is)

pub returns-in_ok-ran-in-None-clause-entries : goal.returns-in_ok-ran-in-None-clause-entries
returns-in_ok-ran-in-None-clause-entries g c = c.in_ok-ran-in-None.ensures.threaded _ c.in_ok-world.ensures.booted
