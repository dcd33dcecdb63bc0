-- The world before its first turn tells what its agents do, and its boot is over after so many turns.
use Rattle.std.proofs.Common.{map, length, ap, arith, ◌∙◌, ℕ, List}
use Rattle.std.specs.Prelude.{slice_index_or}
use Rattle.hp_model.specs.Voices.{told_by}
use Rattle.hp_threads.proofs.Counting.{zero_at}
use Rattle.hp_top.specs.Turns.{boot_left}
use Rattle.hp_top.proofs.Starting.{length-told}
use Rattle.hp_top.proofs.Worlds.{booted_of, booting_first}
use Rattle.hp_top.proofs.threading.booted_world.Goals as goal

pub new-requires-clause-places : goal.new-requires-clause-places
new-requires-clause-places g c = ap length c.in_ok-agents.ensures ∙ length-told c.args.p.now c.args.kinds.items _ ∙ c.requires.voices

pub returns-clause-booted : goal.returns-clause-booted
returns-clause-booted g c =
    let told = told_by c.args.p.now c.args.kinds.items (map g.A.Agent.voice c.args.handed.items) in
    booted_of c.args.p.now told c.boot_turns.result c.boot.new.world c.boot_turns.ensures.value
    (c.in_ok-boot.ensures.boots c.args.p.now told
    (booting_first c.args.p.now told (boot_left c.boot_turns.result) c.in_ok-world.world c.in_ok-world.ensures.platform c.in_ok-world.ensures.entries
    (c.in_ok-world.ensures.voices ∙ c.in_ok-agents.ensures) c.in_ok-world.ensures.last (length-told c.args.p.now c.args.kinds.items _ ∙ c.requires.voices)))

pub returns-clause-small : goal.returns-clause-small
returns-clause-small g c = λ place.
    let none = λ (j : ℕ). ap (λ (xs : List ℕ). slice_index_or xs j 0) c.in_ok-world.ensures.asked ∙ zero_at _ j in
    let less = c.in_ok-boot.ensures.small 1 (λ j. let is = none j in omega (arith, is)) place in
    omega (arith, less, c.boot_turns.ensures.most)
