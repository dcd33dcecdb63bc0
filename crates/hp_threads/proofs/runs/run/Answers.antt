-- What the call asks is what is kept from then on.
use Rattle.hp_threads.proofs.Leaving.{hosts_are}
use Rattle.hp_threads.proofs.runs.run.Goals as goal

pub run_named-requires-clause-ready : goal.run_named-requires-clause-ready
run_named-requires-clause-ready g c κs within = record {
  handed = c.requires.handed;
  small = c.requires.asked;
  few = c.ranges.turns.fits;
  fits = c.few.ensures;
  host = hosts_are c.args.hosts.now c.requires.hosts;
}
