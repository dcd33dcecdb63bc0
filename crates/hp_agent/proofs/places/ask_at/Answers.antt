use Rattle.std.proofs.Common.{arith}
use Rattle.hp_model.specs.declared.accesses.Access.TheVariants.{Halt}
use Rattle.hp_agent.specs.Speaking.{asked}
use Rattle.hp_agent.proofs.Told.{heard_asked, heard_nobody, told_asked, told_nobody}
use Rattle.hp_agent.proofs.places.ask_at.Goals as goal

pub returns-then-place-places-clause-says : goal.returns-then-place-places-clause-says
returns-then-place-places-clause-says g c =
    told_asked g.A.Agent.voice c.args.places.now c.args.cpu c.index-places-place.result c.ask.new.place
    (asked c.args.cpu c.args.page c.args.last) c.ask.result c.if-place-places.true c.ask.ensures.says

pub returns-else-place-places-clause-says : goal.returns-else-place-places-clause-says
returns-else-place-places-clause-says g c =
    told_nobody g.A.Agent.voice c.args.places.now c.args.cpu (asked c.args.cpu c.args.page c.args.last) (omega (arith, c.if-place-places.false))

pub returns-then-place-places-clause-hears : goal.returns-then-place-places-clause-hears
returns-then-place-places-clause-hears g c =
    heard_asked g.A.Agent.heard c.args.places.now c.args.cpu c.index-places-place.result c.ask.new.place
    (asked c.args.cpu c.args.page c.args.last) c.ask.result c.if-place-places.true c.ask.ensures.hears

pub returns-else-place-places-clause-hears : goal.returns-else-place-places-clause-hears
returns-else-place-places-clause-hears g c =
    heard_nobody g.A.Agent.heard c.args.places.now c.args.cpu (asked c.args.cpu c.args.page c.args.last) Halt (omega (arith, c.if-place-places.false))
