-- The rules past the first are looked at before the file is made.
use Rattle.hp_config.proofs.Good.{good_is_sound}
use Rattle.hp_config.proofs.laws.good_files_are_sound.Goals as goal

pub returns : goal.returns
returns c = good_is_sound
