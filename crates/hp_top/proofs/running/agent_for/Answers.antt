-- The next of those that are handed in, or one of the kind.
use Rattle.std.proofs.Common.{◌∷◌, Option, Some, None, map, sym, ap, ◌∙◌}
use Rattle.std.proofs.lemmas.Result.{IfOk-weaker}
use Rattle.std.specs.Vec.Iter.{into_iter_items}
use Rattle.hp_model.specs.Voices as model
use Rattle.hp_model.specs.Voices.{told_by}
use Rattle.hp_top.proofs.Starting.{told_given}
use Rattle.hp_top.proofs.running.agent_for.Goals as goal

pub returns-in-Some : goal.returns-in-Some
returns-in-Some g c = λ kinds. told_given g.A.Agent.voice c.args.p.now c.args.kind kinds _ _ (Some c.in-Some.agent) (sym c.in-Some.is ∙ c.next_handed.ensures.next) c.next_handed.ensures.rest

pub returns-in-None : goal.returns-in-None
returns-in-None g c = IfOk-weaker c.voice_for.result _ _
    (λ v tells kinds. told_given g.A.Agent.voice c.args.p.now c.args.kind kinds _ _ None (sym c.in-None.is ∙ c.next_handed.ensures.next) c.next_handed.ensures.rest
    ∙ ap (λ (o : Option model.Voice). o ∷ told_by c.args.p.now kinds (map g.A.Agent.voice (into_iter_items c.next_handed.new.handed))) (sym tells)) c.voice_for.ensures.voice
