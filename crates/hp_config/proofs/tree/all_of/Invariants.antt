-- What was read, and what is still to be read, make the whole.
use Rattle.std.proofs.Common.{◌≡◌, drop}
use Rattle.toml.specs.View.{items_view}
use Rattle.hp_config.specs.Tree.{all_in}
use Rattle.hp_config.proofs.AllIn.{ahead}
use Rattle.hp_config.proofs.tree.all_of.Given as goal

abbrev pub invariant-loop-value : goal.invariant-loop-value
invariant-loop-value g l = ahead l.all.items (all_in g.T.Item.reads (items_view (drop l.value-index l.values))) ≡ all_in g.T.Item.reads (items_view l.values)
