-- The row of who stands in SMM, what it wants, and where the answer leads: the rules, over what is known of a processor.
use Rattle.std.specs.Prelude.{◌≤◌, Option}
use Rattle.hp_model.specs.declared.accesses.Answer.{Answer}
use Rattle.hp_model.specs.declared.accesses.Want.{Want}
use Rattle.hp_model.specs.declared.labels.Label.{Label}
use Rattle.hp_model.specs.Boot.{value_in}
use Rattle.hp_model.specs.Handlers.{Next, Seat, next_at, label_of_mark, seat_of, wanted_at}
use Rattle.hp_model.specs.SharedBytes.{Layout}
use Rattle.hp_monarch.specs.Session.{Session}
use Rattle.hp_smm.specs.declared.handlers.SmmCpu.{SmmCpu}

-- TSEG begins below 2 GiB, and no more processors are possible than there may be tiles
pub record IsLow (y : Layout) : Type 0 where
  pub tseg : y.tseg ≤ 0x80000000
  pub count : y.count ≤ 512

-- the label whose row is due
abbrev pub row_for : Session → SmmCpu → Option Label
row_for h s = label_of_mark h.layout h.monarch s.cpu s.smbase s.mark

-- who stands there
abbrev pub seat_for : Session → SmmCpu → Seat
seat_for h s = seat_of h.layout s.apic s.smbase s.base

-- what is wanted; none where there is no row
abbrev pub want_for : Session → SmmCpu → Option Want
want_for h s = wanted_at h.layout h.monarch (seat_for h s) (row_for h s)

-- where an answer leads from a label
abbrev pub next_for : Session → SmmCpu → Label → Answer → Next
next_for h s l answer = next_at h.layout (seat_for h s) h.monarch l (value_in answer)
