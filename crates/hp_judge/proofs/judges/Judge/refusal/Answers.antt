-- What was refused stays so, and what wasn't has no line at fault yet.
use Rattle.std.proofs.Common.{◌≡◌, ℕ, false, List, ◌++◌, Some, subst}
use Rattle.hp_reading.specs.Fault.{fault_of}
use Rattle.hp_judge.specs.Judging.{fault_told}
use Rattle.hp_judge.specs.Standing.{heading, is_refused, after_lines}
use Rattle.hp_judge.specs.Stages.{text_of}
use Rattle.hp_reading.specs.Trace.{cut}
use Rattle.hp_judge.proofs.Verdicts.{settled, unsettled}
use Rattle.hp_judge.proofs.judges.Judge.refusal.Goals as goal

pub returns-in-Refused-clause-fault : goal.returns-in-Refused-clause-fault
returns-in-Refused-clause-fault c =
    subst (λ (text : List ℕ). (more : List ℕ) → fault_of (text ++ more) ≡ Some (fault_told c.in-Refused.refusal)) c.self.view_is
    (settled (text_of c.self.inside.taken.items) c.self.inside.stage c.self.inside.rest.items c.in-Refused.refusal c.self.invariant c.in-Refused.is)

pub returns-in_default-clause-none : goal.returns-in_default-clause-none
returns-in_default-clause-none c none =
    subst (λ (text : List ℕ). is_refused (after_lines heading (cut text).lines) ≡ false) c.self.view_is
    (unsettled (text_of c.self.inside.taken.items) c.self.inside.stage c.self.inside.rest.items c.self.invariant c.in_default.not-Refused)
