-- Until the hand-over everybody is outside.
use Rattle.hp_sealed.proofs.HandOver.{outside}
use Rattle.hp_sealed.proofs.laws.boot_seals_smram.Goals as goal

pub returns-clause-outside : goal.returns-clause-outside
returns-clause-outside c = λ p es s fits is not. outside p fits es s is not
