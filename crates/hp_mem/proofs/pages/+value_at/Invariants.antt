use Rattle.hp_mem.proofs.pages.+value_at.Given as goal

abbrev pub decreases-value_at : goal.decreases-value_at
decreases-value_at l = l.width
