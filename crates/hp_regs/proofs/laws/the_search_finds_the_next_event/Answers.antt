-- What the search says of blocks without an event.
use Rattle.hp_regs.proofs.Search.{search-none}
use Rattle.hp_regs.proofs.laws.the_search_finds_the_next_event.Goals as goal

pub returns-clause-none : goal.returns-clause-none
returns-clause-none c = search-none
