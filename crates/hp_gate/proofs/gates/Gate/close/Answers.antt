use Rattle.std.proofs.Common.{rules, sym, subst}
use Rattle.hp_gate.specs.Seats.{MonarchSeen, IsOpen}
use Rattle.hp_gate.specs.Steps.{monarch_of}
use Rattle.hp_gate.proofs.Knowing.{open_aim}
use Rattle.hp_gate.proofs.Moves.{may_close}
use Rattle.hp_gate.proofs.gates.Gate.close.Goals as goal

pub swap-found-requires : goal.swap-found-requires
swap-found-requires c = (search rules, search rules, may_close _ _ _ _ (monarch_of c.m.inside.place.me.0) c.m.invariant.is (open_aim _ (subst (λ (s : MonarchSeen). IsOpen s.view.stage) (sym c.m.view_is) c.requires.is_open)))
