-- A read that fails takes nothing.
use Rattle.std.proofs.Common.{ℕ, arith, subst}
use Rattle.std.proofs.KnownBytes.{Consumes-kept}
use Rattle.hp_top.specs.Faults.{Rose}
use Rattle.hp_top.proofs.checking.judge_all.Goals as goal

pub returns-in-Err-clause-ends : goal.returns-in-Err-clause-ends
returns-in-Err-clause-ends g c = (
  subst (λ (n : ℕ). Rose n (g.S.Source.faults c.read.new.self)) c.source.invariant.calm c.in-Err.ensures.cause.failed,
  record {
    bytes = c.source.judge;
    consumed = Consumes-kept _ _ _ c.source.judge c.source.invariant.consumed c.in-Err.ensures.bytes;
    within = omega (arith, c.source.invariant.count, c.source-test.true);
  },
)
