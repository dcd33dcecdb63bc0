use Rattle.std.proofs.Common.{◌*◌}
use Rattle.hp_mem.specs.Pages.{byte_by}
use Rattle.hp_mem.specs.Same.{SameFrom}
use Rattle.hp_mem.proofs.same.is_same_page.Given as goal

abbrev pub invariant-loop-offset : goal.invariant-loop-offset
invariant-loop-offset l = SameFrom (byte_by l.our_entry l.ours) (byte_by l.their_entry l.theirs) l.hidden (l.page * 4096) l.offset
