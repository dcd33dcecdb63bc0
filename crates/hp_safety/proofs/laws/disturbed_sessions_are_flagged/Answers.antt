use Rattle.hp_safety.proofs.Flags.{flag_law}
use Rattle.hp_safety.proofs.laws.disturbed_sessions_are_flagged.Goals as goal

pub returns : goal.returns
returns c = λ p es s fits is. flag_law p es fits
