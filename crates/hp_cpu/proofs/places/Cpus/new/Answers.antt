-- One boot processor after another, until none is to come.
use Rattle.std.proofs.Common.{rules, ◌≡◌, sym, ◌∙◌, length-set}
use Rattle.hp_cpu.proofs.Start.{boot_more, boot_done}
use Rattle.hp_cpu.proofs.places.Cpus.new.Goals as goal

pub loop-slot-preserved : goal.loop-slot-preserved
loop-slot-preserved c =
    let places : c.deref-place-items.result.now ≡ c.args.p.now.boot = search rules in
    let more = boot_more c.args.p.now c.loop-slot.slot c.args.p.now.boot c.loop-slot.cpus.items (search rules) in
    record {
      count = length-set _ _ _ ∙ c.loop-slot.invariant.count;
      rest = rw (c.booted.ensures, c.tile.ensures, places) (sym more ∙ c.loop-slot.invariant.rest);
    }

pub returns-clause-value : goal.returns-clause-value
returns-clause-value c = sym (boot_done c.args.p.now c.loop-slot.slot c.args.p.now.boot c.loop-slot.cpus.items (search rules)) ∙ c.loop-slot.invariant.rest
