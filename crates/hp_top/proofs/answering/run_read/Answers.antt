-- All was written, by what the boot read.
use Rattle.std.proofs.Common.{Option, map, subst}
use Rattle.hp_model.specs.declared.outcomes.BootFact.{BootFact}
use Rattle.hp_model.specs.Voices.{told_of}
use Rattle.hp_top.specs.Answers.{IsWritten}
use Rattle.hp_top.proofs.answering.run_read.Goals as goal

pub returns-in-Ok-None-clause-ends : goal.returns-in-Ok-None-clause-ends
returns-in-Ok-None-clause-ends g c =
    subst (λ (o : Option BootFact). IsWritten c.args.file (told_of c.args.file (map g.A.Agent.voice c.args.agents.items)) o (g.K.Sink.held c.args.out.now) (g.K.Sink.held c.run_file.new.out))
    c.in-Ok-None.field-0-is c.in-Ok-None.ensures.all

pub returns-in-Ok-Some-clause-ends : goal.returns-in-Ok-Some-clause-ends
returns-in-Ok-Some-clause-ends g c =
    subst (λ (o : Option BootFact). IsWritten c.args.file (told_of c.args.file (map g.A.Agent.voice c.args.agents.items)) o (g.K.Sink.held c.args.out.now) (g.K.Sink.held c.run_file.new.out))
    c.in-Ok-Some.field-0-is c.in-Ok-Some.ensures.all
