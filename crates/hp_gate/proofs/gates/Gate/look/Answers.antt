use Rattle.std.proofs.Common.{rules, sym, subst}
use Rattle.hp_gate.specs.Seats.{MonarchSeen, IsShut}
use Rattle.hp_gate.specs.Steps.{monarch_of}
use Rattle.hp_gate.proofs.Knowing.{shut_aim}
use Rattle.hp_gate.proofs.Moves.{may_look}
use Rattle.hp_gate.proofs.gates.Gate.look.Goals as goal

pub load-found-requires : goal.load-found-requires
load-found-requires c = (search rules, search rules, may_look _ _ _ _ (monarch_of c.m.inside.place.me.0) c.m.invariant.is (shut_aim _ (subst (λ (s : MonarchSeen). IsShut s.view.stage) (sym c.m.view_is) c.requires.is_shut)))
