-- The next place is hit.
use Rattle.std.proofs.Common.{true, refl, ◌∙◌}
use Rattle.hp_model.specs.declared.processors.Kind.TheVariants.{Smi}
use Rattle.hp_machine.proofs.Sending.{hit_next, length-hit_at}
use Rattle.hp_machine.proofs.interrupts.hit_all.Goals as goal

pub loop-place-preserved : goal.loop-place-preserved
loop-place-preserved c = record {
  rest = rw c.hit_target.ensures
      (hit_next (λ id. true) Smi true c.args.apic.now c.loop-place.cpus c.loop-place.place c.loop-place-test.true c.loop-place.invariant.same refl ∙ c.loop-place.invariant.rest);
  same = rw c.hit_target.ensures (length-hit_at true Smi c.loop-place.place c.loop-place.cpus ∙ c.loop-place.invariant.same);
}
