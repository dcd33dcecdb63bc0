-- Each kind of line behind the header.
use Rattle.std.proofs.Common.{Bool, sym, ap, subst, ◌∙◌}
use Rattle.hp_check.specs.Walk.{Steps}
use Rattle.hp_judge.specs.Standing.{by_end}
use Rattle.hp_judge.specs.Stages.{end_by}
use Rattle.hp_judge.proofs.Telling.{no_some, last_told, entry_told, gone}
use Rattle.hp_judge.proofs.stages.tell.Goals as goal

pub returns-in-Some-end_fault-clause-told : goal.returns-in-Some-end_fault-clause-told
returns-in-Some-end_fault-clause-told c =
    last_told c.args.walk.now.platform c.args.walk.now.state c.args.entries c.args.line.now c.end_fault.result (sym c.read_entry.ensures ∙ no_some c.read_entry.result c.in_default.not-Some)
    (c.end_fault.ensures ∙ ap (by_end c.args.entries) c.end_number.ensures)
    ∙ ap (end_by c.args.entries) c.in-Some-end_fault.is

pub returns-in-None-clause-told : goal.returns-in-None-clause-told
returns-in-None-clause-told c =
    last_told c.args.walk.now.platform c.args.walk.now.state c.args.entries c.args.line.now c.end_fault.result (sym c.read_entry.ensures ∙ no_some c.read_entry.result c.in_default.not-Some)
    (c.end_fault.ensures ∙ ap (by_end c.args.entries) c.end_number.ensures)
    ∙ ap (end_by c.args.entries) c.in-None.is

pub returns-in-Ok-true-clause-told : goal.returns-in-Ok-true-clause-told
returns-in-Ok-true-clause-told c =
    gone c.args.walk.now c.step.new.self c.args.entries c.args.line.now c.in-Some.entry (sym c.read_entry.ensures ∙ c.in-Some.is) c.in-Ok-true.ensures.platform
    (subst (λ (b : Bool). Steps c.args.walk.now c.step.new.self c.in-Some.entry b) c.in-Ok-true.field-0-test c.in-Ok-true.ensures.stepped) c.if-entries.false

pub returns-in-Ok-false-clause-told : goal.returns-in-Ok-false-clause-told
returns-in-Ok-false-clause-told c =
    let stopped = subst (λ (b : Bool). Steps c.args.walk.now c.step.new.self c.in-Some.entry b) c.in-Ok-false.field-0-test c.in-Ok-false.ensures.stepped in
    entry_told c.args.walk.now.platform c.args.walk.now.state c.args.entries c.args.line.now c.in-Some.entry _ (sym c.read_entry.ensures ∙ c.in-Some.is) stopped.none
