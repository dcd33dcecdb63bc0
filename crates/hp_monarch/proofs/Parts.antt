-- How the monarch goes on by its parts: the collection, an add, and an eject.
use Rattle.std.proofs.Common.{◌≡◌, ◌≢◌, ℕ, List, Some, refl, sym, ap, ◌∙◌}
use Rattle.std.proofs.lemmas.Option.{same_Some}
use Rattle.hp_model.specs.declared.labels.Label.{Label}
use Rattle.hp_model.specs.declared.labels.Label.TheVariants.{T, E5, E7}
use Rattle.hp_model.specs.declared.outcomes.Outcome.{Outcome}
use Rattle.hp_model.specs.Add.{Add, AddNext, AddsAt, Ends}
use Rattle.hp_model.specs.Collection.{CollectNext, CollectsAt, CollectEnds}
use Rattle.hp_model.specs.Eject.{Eject, EjectNext, EjectsAt, EjectEnds}
use Rattle.hp_model.specs.Handlers.{Next, Seat, by_record, next_at}
use Rattle.hp_model.specs.Monarch.{Monarch, after_collection, after_eject, after_add, next_report}
use Rattle.hp_model.specs.SharedBytes.{Layout}
use Rattle.hp_collect.specs.declared.collects.Stage.TheVariants.{Ended}
use Rattle.hp_collect.specs.Collecting.{IsOfCollection, collection_in, stage_of, IsGoing as IsCollecting}
use Rattle.hp_collect.specs.Standing.{label_of as collection_label}
use Rattle.hp_collect.specs.declared.rows.Row.{Row as CollectionRow}
use Rattle.hp_collect.specs.declared.rows.Row.TheVariants as collection
use Rattle.hp_reloc.specs.Relocating.{add_in, outcome_of}
use Rattle.hp_eject.specs.Ejecting.{IsOfEject, eject_in, outcome_of as eject_outcome, label_of as eject_label, IsGoing as IsEjecting}
use Rattle.hp_eject.specs.declared.rows.Row.{Row as EjectRow}
use Rattle.hp_eject.specs.declared.rows.Row.TheVariants as eject
use Rattle.hp_monarch.specs.Session.{collecting_at, ejecting_at}
use Rattle.hp_monarch.proofs.Reports.{report_from}

-- a collection that goes on stands at its label, with what it has collected
pub going_at : (d : CollectNext) → IsCollecting d → d ≡ CollectsAt (collecting_at d) (collection_in d)
going_at (CollectsAt l c) going = refl
going_at (CollectEnds c) going = absurd going

ended_at : (d : CollectNext) → stage_of d ≡ Ended → d ≡ CollectEnds (collection_in d)
ended_at (CollectsAt l c) e = absurd cc
ended_at (CollectEnds c) e = refl

-- none of its labels is the monarch's last
not_left : (w : CollectionRow) → collection_label w ≢ E7
not_left collection.C1 e = cc
not_left collection.C2 e = cc
not_left collection.C3 e = cc
not_left collection.C4 e = cc
not_left collection.C5 e = cc
not_left collection.C6 e = cc

pub collects_on : (l : Label) → IsOfCollection l → l ≢ E7
collects_on l of e = not_left of.row (sym of.is ∙ e)

-- its end leads to the next report
pub collection_ends : (y : Layout) (x : Seat) (r : Monarch) (v : ℕ) (d : CollectNext) → next_at y x r r.label v ≡ by_record x (after_collection y.apics d r) → stage_of d ≡ Ended
    → next_report y.apics (record r { label = E5; collection = collection_in d }) ≡ (next_at y x r r.label v).monarch
collection_ends y x r v d e ended =
    report_from E5 y.apics (record r { collection = collection_in d })
    ∙ ap (λ (c : CollectNext). after_collection y.apics c r) (sym (ended_at d ended))
    ∙ ap (λ (n : Next). n.monarch) (sym e)

-- an add that has ended tells its outcome
ends_at : (d : AddNext) (o : Outcome) → Some o ≡ outcome_of d → d ≡ Ends o
ends_at (AddsAt l a) o e = absurd cc
ends_at (Ends p) o e = ap Ends (sym (same_Some o p e))

pub add_ends : (y : Layout) (x : Seat) (r : Monarch) (v : ℕ) (l : Label) (d : AddNext) (o : Outcome) (last : List ℕ) (a : Add) → (next_at y x r l v).monarch ≡ record (after_add d r) { last = (next_at y x r l v).monarch.last } → (next_at y x r l v).monarch.last ≡ last → Some o ≡ outcome_of d → a ≡ r.add
    → record r { label = T; last = last; add = a; outcome = o } ≡ (next_at y x r l v).monarch
add_ends y x r v l d o last a e bytes is same =
    ap (λ (b : Add). record r { label = T; last = last; add = b; outcome = o }) same
    ∙ ap (λ (bs : List ℕ). record r { label = T; last = bs; outcome = o }) (sym bytes)
    ∙ ap (λ (f : AddNext). record (after_add f r) { last = (next_at y x r l v).monarch.last }) (sym (ends_at d o is))
    ∙ sym e

-- the add's record, as the monarch has it
pub same_add : (l : Label) (d : AddNext) (a : Add) → d ≡ AddsAt l a → add_in d a ≡ a
same_add l d a e = ap (λ (f : AddNext). add_in f a) e

pub ended_add : (d : AddNext) (o : Outcome) (a b : Add) → Some o ≡ outcome_of d → b ≡ add_in d a → add_in d b ≡ a
ended_add d o a b is e = ap (λ (f : AddNext). add_in f b) (ends_at d o is) ∙ e ∙ ap (λ (f : AddNext). add_in f a) (ends_at d o is)

-- an eject that goes on stands at its label, with its record
pub eject_at : (d : EjectNext) (j : Eject) → IsEjecting d → d ≡ EjectsAt (ejecting_at d) (eject_in d j)
eject_at (EjectsAt l k) j going = refl
eject_at (EjectEnds o) j going = absurd going

-- one that has ended tells its outcome
eject_ends_at : (d : EjectNext) (o : Outcome) → Some o ≡ eject_outcome d → d ≡ EjectEnds o
eject_ends_at (EjectsAt l j) o e = absurd cc
eject_ends_at (EjectEnds p) o e = ap EjectEnds (sym (same_Some o p e))

pub eject_ends : (y : Layout) (x : Seat) (r : Monarch) (v : ℕ) (l : Label) (d : EjectNext) (o : Outcome) (j : Eject) → next_at y x r l v ≡ by_record x (after_eject d r) → Some o ≡ eject_outcome d → j ≡ r.eject
    → record r { label = T; eject = j; outcome = o } ≡ (next_at y x r l v).monarch
eject_ends y x r v l d o j e is same =
    ap (λ (k : Eject). record r { label = T; eject = k; outcome = o }) same
    ∙ ap (λ (f : EjectNext). after_eject f r) (sym (eject_ends_at d o is))
    ∙ ap (λ (n : Next). n.monarch) (sym e)

pub ended_eject : (d : EjectNext) (o : Outcome) (j k : Eject) → Some o ≡ eject_outcome d → k ≡ eject_in d j → eject_in d k ≡ j
ended_eject d o j k is e = ap (λ (f : EjectNext). eject_in f k) (eject_ends_at d o is) ∙ e ∙ ap (λ (f : EjectNext). eject_in f j) (eject_ends_at d o is)

-- one that goes on does so in the monarch's record
pub eject_goes : (y : Layout) (x : Seat) (r : Monarch) (v : ℕ) (l : Label) (d : EjectNext) (j : Eject) → next_at y x r l v ≡ by_record x (after_eject d r) → IsEjecting d → eject_in d j ≡ eject_in d r.eject
    → record r { label = ejecting_at d; eject = eject_in d j } ≡ (next_at y x r l v).monarch
eject_goes y x r v l (EjectsAt k i) j e going same = ap (λ (n : Next). n.monarch) (sym e)
eject_goes y x r v l (EjectEnds o) j e going same = absurd going

-- none of its labels is the monarch's last
eject_not_left : (w : EjectRow) → eject_label w ≢ E7
eject_not_left eject.E0 e = cc
eject_not_left _ e = cc

pub ejects_on : (l : Label) → IsOfEject l → l ≢ E7
ejects_on l of e = eject_not_left of.row (sym of.is ∙ e)
