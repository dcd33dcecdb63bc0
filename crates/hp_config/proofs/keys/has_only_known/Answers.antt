-- The keys of the map are those of its members.
use Rattle.std.proofs.Common.{◌∙◌}
use Rattle.hp_config.specs.Keys.{knows}
use Rattle.hp_config.proofs.Known.{only_known}
use Rattle.hp_config.proofs.keys.has_only_known.Goals as goal

pub returns : goal.returns
returns c = c.keys_are_known.ensures ∙ only_known (knows c.args.form) c.args.table.now.entries
