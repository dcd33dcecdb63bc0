use Rattle.hp_trace.proofs.lines.put_front.Goals as goal

pub returns-clause-text : goal.returns-clause-text
returns-clause-text c = rw (← c.ids.ensures, ← c.ids-2.ensures, ← c.ext_word.ensures, ← c.truth.ensures, ← c.truth-2.ensures) c.put_all.ensures.text
