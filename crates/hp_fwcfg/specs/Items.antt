-- The bytes of an item, as the code keeps them.
use Rattle.std.specs.Prelude.{ℕ, List, []}
use Rattle.hp_fwcfg.specs.declared.items.Item.{Item}
use Rattle.hp_fwcfg.specs.declared.items.Item.TheVariants.{Directory, Flag, Features, Empty}

abbrev pub bytes_in : Item → List ℕ
bytes_in (Directory bytes) = bytes
bytes_in (Flag bytes) = bytes
bytes_in (Features bytes) = bytes
bytes_in Empty = []
