-- The events so far are those of the rounds so far, and the generator is the one after them.
use Rattle.std.proofs.Common.{◌≡◌}
use Rattle.hp_model.specs.Seeded.{generator_of}
use Rattle.hp_config.specs.Generated.{rounds}
use Rattle.hp_config.proofs.generating.hosts.Given as goal

abbrev pub invariant-loop-before : goal.invariant-loop-before
invariant-loop-before l = record {
  events : l.events.items ≡ (rounds l.before (generator_of l.seed)).events;
  generator : l.generator ≡ (rounds l.before (generator_of l.seed)).generator;
}
