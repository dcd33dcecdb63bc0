-- The laws that each run keeps at every step, together.
use Rattle.std.proofs.Common.{◌≡◌, List, Some}
use Rattle.hp_model.specs.declared.platforms.Platform.{Platform}
use Rattle.hp_model.specs.declared.entries.Entry.{Entry}
use Rattle.hp_model.specs.Platform.{IsFit}
use Rattle.hp_model.specs.Runs.{run}
use Rattle.hp_model.specs.Safety.{IsGuarded}
use Rattle.hp_model.specs.State.{State}
use Rattle.hp_safety.proofs.Law.{law}
use Rattle.hp_safety.proofs.Smbases.{distinct_law, named_law}

pub guarded : (p : Platform) (es : List Entry) (s : State) → IsFit p → run p es ≡ Some s → IsGuarded p es
guarded p es s fits is = record { locked_before = law p es s fits is; distinct = distinct_law p es fits; named = named_law p es fits }
