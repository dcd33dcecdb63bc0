-- What contracts see of a collection: how many processors are possible, and where the last answer led.
use Rattle.std.specs.Prelude.{◌≡◌, ℕ}
use Rattle.hp_model.specs.declared.accesses.Answer.{Answer}
use Rattle.hp_model.specs.declared.labels.Label.{Label}
use Rattle.hp_model.specs.Collection.{Collection, CollectNext, CollectsAt, CollectEnds}
use Rattle.hp_model.specs.Fitting.{FitsWant}
use Rattle.hp_model.specs.Handlers.{Seat, want_at}
use Rattle.hp_model.specs.Monarch.{Monarch}
use Rattle.hp_model.specs.SharedBytes.{Layout}
use Rattle.hp_collect.specs.Standing.{label_of}
use Rattle.hp_collect.specs.declared.rows.Row.{Row}
use Rattle.hp_collect.specs.declared.collects.Stage.{Stage}
use Rattle.hp_collect.specs.declared.collects.Stage.TheVariants.{More, Ended}

pub record Collecting : Type 0 where
  pub count : ℕ
  pub next : CollectNext

-- what it has collected so far
abbrev pub collection_in : CollectNext → Collection
collection_in (CollectsAt l c) = c
collection_in (CollectEnds c) = c

abbrev pub stage_of : CollectNext → Stage
stage_of (CollectsAt l c) = More
stage_of (CollectEnds c) = Ended

-- it stands at a label
abbrev pub IsGoing : CollectNext → Type 0
IsGoing (CollectsAt l c) = Unit {0}
IsGoing (CollectEnds c) = ⊥

-- one of a collection's labels
pub record IsOfCollection (l : Label) : Type 0 where
  pub row : Row
  pub is : l ≡ label_of row

-- the answer fits what it wants: of the monarch's record nothing but the collection matters
abbrev pub Fits : CollectNext → Answer → Type 0
Fits (CollectsAt l c) answer = (y : Layout) (x : Seat) (r : Monarch) → r.collection ≡ c → FitsWant (want_at y x r l) answer
Fits (CollectEnds c) answer = ⊥
