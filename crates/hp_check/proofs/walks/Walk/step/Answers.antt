-- What the walk's machine was given is the entry's event.
use Rattle.std.proofs.Common.{not, subst}
use Rattle.hp_check.specs.Walk.{Steps, Walk}
use Rattle.hp_check.proofs.Stepping.{walk, walked}
use Rattle.hp_check.proofs.walks.Walk.step.Goals as goal

pub returns-clause-stepped : goal.returns-clause-stepped
returns-clause-stepped c =
    subst (λ (w : Walk). Steps w (walk c.apply.new.self (not c.is_entry-same.result)) c.args.e.now c.is_entry-same.result) c.self.view_is
    (walked c.self.inside.live c.apply.new.self c.args.e.now c.in_ok-answer.answer c.self.inside.stopped c.is_entry-same.result c.address_of-at.result
    c.address_of-at.ensures c.is_entry-same.ensures c.in_ok-answer.ensures.applied)
