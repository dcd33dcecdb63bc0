-- Collection (own rule): the monarch asks the register block for one processor after another that has an event, in ascending order.
use Rattle.std.specs.Prelude.{ℕ, ◌||◌, not, ◌==◌, nat_lt, ◌+◌, List, [], ◌∷◌, ◌++◌, bit_and, if◌then◌else◌}
use Rattle.hp_model.specs.declared.labels.Label.{Label}
use Rattle.hp_model.specs.declared.labels.Label.TheVariants.{C1, C4, C5}
use Rattle.hp_model.specs.declared.reports.Report.{Report}

pub record Collection : Type 0 where
  pub cpu : ℕ  -- the processor from which on the next event is looked for, and the one that was found
  pub status : ℕ  -- its status byte, once it has an event
  pub reports : List Report  -- those made so far, in their order

abbrev pub collection_start : Collection
collection_start = record { cpu = 0; status = 0; reports = [] }

-- where an answer leads the collection: on at a label, or to its end
pub data CollectNext : Type 0 where
  CollectsAt : Label → Collection → CollectNext
  CollectEnds : Collection → CollectNext

-- the next processor, and none past the last
abbrev pub next_processor : ℕ → Collection → CollectNext
next_processor count c =
    if nat_lt (c.cpu + 1) count then CollectsAt C1 (record c { cpu = c.cpu + 1 }) else CollectEnds (record c { cpu = c.cpu + 1 })

-- command 0 went on to the next processor with an event: one below is there where it began anew, and none that isn't possible is taken
abbrev pub found : ℕ → ℕ → Collection → CollectNext
found count cpu c = if nat_lt cpu c.cpu || not (nat_lt cpu count) then CollectEnds c else CollectsAt C4 (record c { cpu = cpu })

-- status bit 1, an insert event, and bit 4, a firmware eject: one with neither is passed over
abbrev pub judged : ℕ → ℕ → Collection → CollectNext
judged count status c = if bit_and status 0x12 == 0 then next_processor count c else CollectsAt C5 (record c { status = status })

-- one with an event is reported, with its APIC ID
abbrev pub reported : ℕ → ℕ → Collection → CollectNext
reported count apic c =
    next_processor count (record c { reports = c.reports ++ record { cpu = c.cpu; status = c.status; apic = apic } ∷ [] })
