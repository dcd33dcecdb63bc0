-- The agents tell what is carried at the start.
use Rattle.std.proofs.Common.{map, length, ap, ◌∙◌}
use Rattle.hp_model.specs.Voices.{told_by}
use Rattle.hp_top.proofs.Starting.{length-told, starts}
use Rattle.hp_top.proofs.running.live_of.Goals as goal

pub new-requires-clause-places : goal.new-requires-clause-places
new-requires-clause-places g c = ap length c.in_ok-agents.ensures ∙ length-told c.args.p.now c.args.kinds.items _ ∙ c.requires.voices

pub returns : goal.returns
returns g c =
    starts c.args.p.now (told_by c.args.p.now c.args.kinds.items (map g.A.Agent.voice c.args.handed.items)) c.in_ok-live.live c.in_ok-live.ensures.platform c.in_ok-live.ensures.state
    (c.in_ok-live.ensures.voices ∙ c.in_ok-agents.ensures) c.in_ok-live.ensures.last (length-told c.args.p.now c.args.kinds.items _ ∙ c.requires.voices)
