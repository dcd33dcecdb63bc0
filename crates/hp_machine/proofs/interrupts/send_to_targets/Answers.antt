-- The next place is hit, or passed over.
use Rattle.std.proofs.Common.{◌∙◌}
use Rattle.hp_model.specs.Interrupts.{is_target}
use Rattle.hp_machine.proofs.Sending.{hit_next, length-hit_at}
use Rattle.hp_machine.proofs.interrupts.send_to_targets.Goals as goal

pub loop-place-preserved : goal.loop-place-preserved
loop-place-preserved c = record {
  rest = rw c.hit_target.ensures
      (hit_next (is_target c.args.ipi.now.to c.args.sender) c.args.ipi.now.kind c.hits-is_aimed.result c.args.apic.now c.loop-place.cpus c.loop-place.place
      c.loop-place-test.true c.loop-place.invariant.same c.hits-is_aimed.ensures ∙ c.loop-place.invariant.rest);
  same = rw c.hit_target.ensures (length-hit_at c.hits-is_aimed.result c.args.ipi.now.kind c.loop-place.place c.loop-place.cpus ∙ c.loop-place.invariant.same);
}
