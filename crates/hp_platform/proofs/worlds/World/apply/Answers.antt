-- The entry of an event that was made leads to the state after it.
use Rattle.std.proofs.Common.{◌∷◌, ◌++◌, [], List, Option, sym, subst, ◌∙◌, ap}
use Rattle.hp_model.specs.declared.accesses.Answer.{Answer}
use Rattle.hp_model.specs.declared.entries.Entry.{Entry}
use Rattle.hp_platform.specs.Live as live
use Rattle.hp_platform.specs.World.{IsKept}
use Rattle.hp_platform.proofs.Turning.{kept_applied}
use Rattle.hp_platform.proofs.worlds.World.apply.Goals as goal

pub invariant_of-self-in-Some : goal.invariant_of-self-in-Some
invariant_of-self-in-Some g c =
    let l = c.self.inside.live in
    let es = c.self.inside.entries.items in
    let entry : Entry = record { event = c.args.e.now; at = c.address_of-at.result; answer = c.in-Some.answer } in
    let made : live.IsApplied l c.apply.new.self c.args.e.now c.in-Some.answer = subst (λ (o : Option Answer). live.Applies l c.apply.new.self c.args.e.now o) c.in-Some.is c.in_ok-answer.ensures.applied in
    subst (λ (fs : List Entry). IsKept c.apply.new.self fs c.self.inside.asked.items c.self.inside.idle.items) (sym (c.push_reserved.ensures.items ∙ ap (λ (fs : List Entry). fs ++ entry ∷ []) c.in_ok-reserve.ensures.items))
    (kept_applied l es c.self.inside.asked.items c.self.inside.idle.items c.self.invariant c.apply.new.self c.args.e.now c.in-Some.answer c.address_of-at.result c.in_ok-answer.ensures.platform made c.address_of-at.ensures)
