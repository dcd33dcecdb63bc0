-- So many turns of the boot were made.
use Rattle.std.proofs.Common.{◌<◌, ◌+◌, ◌-◌, ℕ, List, Option}
use Rattle.std.specs.Prelude.{slice_index_or}
use Rattle.hp_model.specs.declared.platforms.Platform.{Platform}
use Rattle.hp_model.specs.Voices.{Voice}
use Rattle.hp_top.specs.Turns.{boot_left}
use Rattle.hp_top.specs.Worlds.{IsBooting}
use Rattle.hp_top.proofs.threading.boot.Given as goal

abbrev pub invariant-turns : goal.invariant-turns
invariant-turns g l = record {
  boots : (p : Platform) (told : List (Option Voice)) → IsBooting p told (boot_left l.turns) (boot_left l.turns) l.fn.world →
      IsBooting p told (boot_left l.turns) (boot_left (l.turns - l._turn)) l.world;
  small : (most : ℕ) → ((place : ℕ) → slice_index_or l.fn.world.asked place 0 < most) → (place : ℕ) → slice_index_or l.world.asked place 0 < most + l._turn;
}
