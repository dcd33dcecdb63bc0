-- An entry more, or the first that is no step.
use Rattle.std.proofs.Common.{◌+◌, Bool, List, length, refl, sym, subst, ap, ◌∙◌, arith}
use Rattle.hp_model.specs.declared.platforms.Platform.{Platform}
use Rattle.hp_model.specs.declared.entries.Entry.{Entry}
use Rattle.hp_check.specs.Checking.{stop_from}
use Rattle.hp_check.specs.Walk.{Steps}
use Rattle.hp_check.proofs.Stopping.{stop_here, stop_later, stop_none}
use Rattle.hp_check.proofs.checking.walk_on.Goals as goal

pub returns-in-Ok-false : goal.returns-in-Ok-false
returns-in-Ok-false c =
    let stops = subst (λ (b : Bool). Steps c.entries.walk c.step.new.self c.in-Some.first.now b) c.in-Ok-false.field-0-test c.in-Ok-false.ensures.stepped in
    c.entries.invariant.stops
    ∙ ap (λ (es : List Entry). stop_from c.entries.walk.platform c.entries.walk.state c.entries.next es) c.in-Some.ensures.some
    ∙ stop_here c.entries.walk.platform c.entries.walk.state c.entries.next c.in-Some.first.now c.in-Some.more.now stops.none

pub entries-preserved : goal.entries-preserved
entries-preserved c =
    let steps = subst (λ (b : Bool). Steps c.entries.walk c.step.new.self c.in-Some.first.now b) c.in-Ok-true.field-0-test c.in-Ok-true.ensures.stepped in
    let longer = ap length c.in-Some.ensures.some in
    record {
      going = steps.going;
      platform = c.in-Ok-true.ensures.platform ∙ c.entries.invariant.platform;
      few = omega (arith, c.entries.invariant.few, longer);
      stops =
          c.entries.invariant.stops
          ∙ ap (λ (es : List Entry). stop_from c.entries.walk.platform c.entries.walk.state c.entries.next es) c.in-Some.ensures.some
          ∙ stop_later c.entries.walk.platform c.entries.walk.state c.step.new.self.state c.entries.next c.in-Some.first.now c.in-Some.more.now steps.step
          ∙ ap (λ (p : Platform). stop_from p c.step.new.self.state (c.entries.next + 1) c.in-Some.more.now) (sym c.in-Ok-true.ensures.platform);
    }

pub returns : goal.returns
returns c =
    c.entries.invariant.stops
    ∙ ap (λ (es : List Entry). stop_from c.entries.walk.platform c.entries.walk.state c.entries.next es) (c.in_default.ensures.none refl)
    ∙ stop_none c.entries.walk.platform c.entries.walk.state c.entries.next
