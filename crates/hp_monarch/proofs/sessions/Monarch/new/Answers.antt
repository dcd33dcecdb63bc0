-- No session has begun: the slots are those of the boot processors, and all parts go by the platform.
use Rattle.std.proofs.Common.{rules}
use Rattle.hp_model.proofs.FitPlatforms.{apic_few, tseg_below}
use Rattle.hp_monarch.proofs.Start.{boot_bound, ids_as}
use Rattle.hp_monarch.proofs.sessions.Monarch.new.Goals as goal

pub invariant_of-result-2 : goal.invariant_of-result-2
invariant_of-result-2 c =
    let p = c.args.p.now in
    let some = boot_bound p c.requires in
    let low = tseg_below p c.requires in
    let all = apic_few p c.requires in
    record {
      bound = search rules;
      read = search rules;
      at_most = search rules;
      below = search rules;
      few = search rules;
      ids = search (rules, ids_as);
      fits = search rules;
      parts = record {
        counts = search rules;
        adds = search rules;
        looks_at = search rules;
        wide = search rules;
        ejects = search rules;
        awaits = search rules;
        looks_late = search rules;
      };
      inside = tt;
    }
