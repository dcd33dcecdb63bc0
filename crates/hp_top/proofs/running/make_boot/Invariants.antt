-- So many turns of the boot were made.
use Rattle.std.proofs.Common.{◌≡◌, ◌-◌, ◌≤◌}
use Rattle.hp_model.specs.declared.platforms.Platform.{Platform}
use Rattle.hp_model.specs.Following.{Carried}
use Rattle.hp_top.specs.Lives.{StandsFor}
use Rattle.hp_top.specs.Doing.{DoneActors}
use Rattle.hp_top.specs.Turns.{boot_left}
use Rattle.hp_top.proofs.running.make_boot.Given as goal

abbrev pub invariant-turns : goal.invariant-turns
invariant-turns g l = record {
  done : (p : Platform) (v : Carried) → StandsFor p l.fn.live v →
      DoneActors p v (boot_left l.turns) (boot_left (l.turns - l.turn)) l.live l.made (g.K.Sink.held l.fn.out) (g.K.Sink.held l.out);
  bound : l.made ≤ l.turn;
  calm : g.K.Sink.faults l.out ≡ g.K.Sink.faults l.fn.out;
}
