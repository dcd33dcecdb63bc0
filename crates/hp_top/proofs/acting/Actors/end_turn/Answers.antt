-- A platform that fits has few turns.
use Rattle.std.proofs.Common.{ap, arith}
use Rattle.hp_top.specs.Actors.{Actors}
use Rattle.hp_top.proofs.Coming.{turns_few}
use Rattle.hp_top.proofs.acting.Actors.end_turn.Goals as goal

pub overflow_add-self : goal.overflow_add-self
overflow_add-self c = omega (arith, c.requires.within, turns_few c.args.self.now.file.platform c.requires.fit, ap (λ (s : Actors). s.turn) c.self.view_is)
