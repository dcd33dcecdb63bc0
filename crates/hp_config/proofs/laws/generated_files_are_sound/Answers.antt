-- Its processors are possible ones, and each has a voice.
use Rattle.hp_config.proofs.Rounds.{generated_is_sound}
use Rattle.hp_config.proofs.laws.generated_files_are_sound.Goals as goal

pub returns : goal.returns
returns c = generated_is_sound
