use Rattle.std.proofs.Common.{◌*◌}
use Rattle.hp_mem.specs.Pages.{byte_in}
use Rattle.hp_mem.specs.Same.{SameFrom}
use Rattle.hp_mem.proofs.same.are_same_pages.Given as goal

abbrev pub invariant-loop-page : goal.invariant-loop-page
invariant-loop-page l = SameFrom (byte_in l.our_directory l.ours) (byte_in l.their_directory l.theirs) l.hidden 0 (l.page * 4096)
