-- All turns are to come, with the host's events of each.
use Rattle.std.proofs.Common.{length, ap, sym, subst, ◌≤◌, ◌+◌, ℕ}
use Rattle.hp_top.proofs.Coming.{all_come, few_come}
use Rattle.hp_top.proofs.acting.Actors.new.Goals as goal

pub returns-clause-all : goal.returns-clause-all
returns-clause-all c = all_come c.args.file.now c.args.hosts.now c.args.stalled c.requires.rises (c.requires.same 0)

pub returns-clause-few : goal.returns-clause-few
returns-clause-few c =
    subst (λ (n : ℕ). n ≤ c.args.file.now.platform.turns + length c.args.hosts.now) (sym (ap length (all_come c.args.file.now c.args.hosts.now c.args.stalled c.requires.rises (c.requires.same 0))))
    (few_come c.args.file.now c.args.file.now.platform.turns 0 c.args.hosts.now c.requires.rises (λ t later. c.requires.same t))
