-- Each number is at most that of the entries.
use Rattle.std.proofs.Common.{ap, ◌∙◌}
use Rattle.hp_trace.specs.declared.summaries.Summary.{Summary}
use Rattle.hp_trace.specs.Summary.{is_added, is_ejected, is_refused, with_entry}
use Rattle.hp_trace.proofs.Summing.{few, more}
use Rattle.hp_trace.proofs.summaries.Summary.count.Goals as goal

pub put-requires-clause-added : goal.put-requires-clause-added
put-requires-clause-added c = few is_added c.args.self.now c.requires.summary _ (ap (λ (s : Summary). s.added) c.requires.summary.is)

pub put-requires-clause-ejected : goal.put-requires-clause-ejected
put-requires-clause-ejected c = few is_ejected c.args.self.now c.requires.summary _ (ap (λ (s : Summary). s.ejected) c.requires.summary.is)

pub put-requires-clause-refused : goal.put-requires-clause-refused
put-requires-clause-refused c = few is_refused c.args.self.now c.requires.summary _ (ap (λ (s : Summary). s.refused) c.requires.summary.is)

pub returns : goal.returns
returns c = λ es is. c.put.ensures ∙ ap (with_entry c.args.e.now) is ∙ more es c.args.e.now
