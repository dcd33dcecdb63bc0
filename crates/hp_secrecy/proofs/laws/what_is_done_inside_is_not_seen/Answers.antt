-- A step inside locked memory.
use Rattle.hp_secrecy.proofs.Steps.{inside_alike}
use Rattle.hp_secrecy.proofs.laws.what_is_done_inside_is_not_seen.Goals as goal

pub returns : goal.returns
returns c = inside_alike
