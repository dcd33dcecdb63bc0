-- The machine starts with the file's agents.
use Rattle.std.proofs.Common.{map}
use Rattle.hp_model.specs.Voices.{told_by}
use Rattle.hp_top.proofs.running.run_voices.Goals as goal

pub returns-clause-all : goal.returns-clause-all
returns-clause-all g c = c.run_live.ensures.all (told_by c.args.file.now.platform c.args.kinds.items (map g.A.Agent.voice c.args.handed.items)) c.in-Ok.ensures

pub returns-clause-part : goal.returns-clause-part
returns-clause-part g c = c.run_live.ensures.part (told_by c.args.file.now.platform c.args.kinds.items (map g.A.Agent.voice c.args.handed.items)) c.in-Ok.ensures
