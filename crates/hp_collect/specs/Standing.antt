-- Where a collection stands: at a row, or past the last one.
use Rattle.std.specs.Prelude.{◌≡◌, ◌<◌, ◌≤◌, ℕ, true, nat_lt, List, length, Option, Some, None}
use Rattle.std.specs.List.{list_all}
use Rattle.hp_model.specs.declared.labels.Label.{Label}
use Rattle.hp_model.specs.declared.labels.Label.TheVariants as label
use Rattle.hp_model.specs.Collection.{Collection, CollectNext, CollectsAt, CollectEnds}
use Rattle.hp_model.specs.declared.reports.Report.{Report}
use Rattle.hp_collect.specs.declared.rows.Row.{Row}
use Rattle.hp_collect.specs.declared.rows.Row.TheVariants as row

abbrev pub label_of : Row → Label
label_of row.C1 = label.C1
label_of row.C2 = label.C2
label_of row.C3 = label.C3
label_of row.C4 = label.C4
label_of row.C5 = label.C5
label_of row.C6 = label.C6

abbrev pub next_of : Option Row → Collection → CollectNext
next_of None c = CollectEnds c
next_of (Some row) c = CollectsAt (label_of row) c

-- while it goes on, the processor it is at is possible; at its end it may be one past the last
abbrev pub IsPlace : Option Row → ℕ → ℕ → Type 0
IsPlace None cpu count = cpu ≤ count
IsPlace (Some row) cpu count = cpu < count

-- each report is of a possible processor, there are no more of them than processors that were passed, and there is room for all
pub record IsSound (count cpu room : ℕ) (at : Option Row) (reports : List Report) : Type 0 where
  pub some : 1 ≤ count
  pub few : count ≤ 512
  pub place : IsPlace at cpu count
  pub made : length reports ≤ cpu
  pub possible : list_all (λ (t : Report). nat_lt t.cpu count) reports ≡ true
  pub fits : count ≤ room
