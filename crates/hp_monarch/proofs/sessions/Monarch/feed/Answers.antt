-- The monarch is fed: at a row of its own, in the collection, or in an add.
use Rattle.std.proofs.Common.{◌≡◌, length, slice_set, sym, ap, subst, ◌∙◌}
use Rattle.std.specs.Vec.{with_items}
use Rattle.std.proofs.lemmas.List.{with_items_is}
use Rattle.hp_model.specs.declared.labels.Label.{Label}
use Rattle.hp_model.specs.declared.labels.Label.TheVariants as labels
use Rattle.hp_model.specs.Boot.{value_in}
use Rattle.hp_model.specs.Add.{Add, AddsAt}
use Rattle.hp_model.specs.Collection.{CollectsAt}
use Rattle.hp_model.specs.Fitting.{FitsWant}
use Rattle.hp_model.specs.Handlers.{next_at, want_at}
use Rattle.hp_model.specs.Monarch.{Monarch}
use Rattle.hp_collect.specs.Collecting.{collection_in}
use Rattle.hp_monarch.specs.declared.rows.Standing.{Standing}
use Rattle.hp_reloc.specs.Relocating.{add_in}
use Rattle.hp_eject.specs.Ejecting.{eject_in}
use Rattle.hp_monarch.specs.Session.{Fits, IsIn, Session, adding_at, collecting_at, ejecting_at, label_at, label_of}
use Rattle.hp_monarch.specs.contracts.sessions.Monarch.{the_view}
use Rattle.hp_monarch.proofs.Fits.{fits_add, fits_collection, fits_eject}
use Rattle.hp_monarch.proofs.Looks.{add_noted, byte_of_add}
use Rattle.hp_monarch.proofs.Parts.{add_ends, collection_ends, collects_on, eject_at, ejects_on, ended_add, going_at, same_add}
use Rattle.hp_monarch.proofs.sessions.Monarch.feed.Goals as goal

-- where it stands, by the place that it is in
module _ (now s : Session) (view : s ≡ now) where
  stands : (l : Label) → s.monarch.label ≡ l → now.monarch.label ≡ l
  stands l e = ap (λ (t : Session). t.monarch.label) (sym view) ∙ e

pub feed_in-requires-clause-fits : goal.feed_in-requires-clause-fits
feed_in-requires-clause-fits c =
    let v = c.self.inside in
    let at = ap (λ (p : Standing). label_at p v.collect.next v.add.next v.eject.next) c.in-At.is in
    λ x. subst (λ (l : Label). FitsWant (want_at c.args.self.now.layout x c.args.self.now.monarch l) c.args.answer) (stands c.args.self.now (the_view v) c.self.view_is (label_of c.in-At.row) at) (c.requires x)

-- in the collection
pub feed-requires : goal.feed-requires
feed-requires c =
    let v = c.self.inside in
    fits_collection (the_view v) c.args.answer v.collect.next
    (subst (λ (p : Standing). IsIn p (length v.slots.slots.bound) v.collect.next v.add v.eject.next) c.in-Collects.is c.self.invariant.inside)
    (ap (λ (p : Standing). label_at p v.collect.next v.add.next v.eject.next) c.in-Collects.is)
    (subst (λ (t : Session). Fits t c.args.answer) (sym c.self.view_is) c.requires)

pub returns-in-Ended-clause-monarch : goal.returns-in-Ended-clause-monarch
returns-in-Ended-clause-monarch c = λ x.
    let v = c.self.inside in
    let s : Session = the_view v in
    let n = value_in c.args.answer in
    let going = subst (λ (p : Standing). IsIn p (length v.slots.slots.bound) v.collect.next v.add v.eject.next) c.in-Collects.is c.self.invariant.inside in
    let label : s.monarch.label ≡ collecting_at v.collect.next = ap (λ (p : Standing). label_at p v.collect.next v.add.next v.eject.next) c.in-Collects.is in
    let at : v.collect.next ≡ CollectsAt s.monarch.label s.monarch.collection =
    going_at v.collect.next going ∙ ap (λ (l : Label). CollectsAt l (collection_in v.collect.next)) (sym label) in
    let leads = c.feed.ensures.next s.layout x s.monarch s.monarch.label (sym c.self.invariant.parts.counts) at in
    c.take_next.ensures
    ∙ ap (λ (r : Monarch). record s { monarch = r }) (collection_ends s.layout x s.monarch n c.feed.new.self.next leads (sym c.feed.ensures.stage ∙ c.in-Ended.is))
    ∙ ap (λ (t : Session). record t { monarch = (next_at t.layout x t.monarch t.monarch.label n).monarch }) c.self.view_is

pub returns-in-Ended-clause-left : goal.returns-in-Ended-clause-left
returns-in-Ended-clause-left c =
    let v = c.self.inside in
    let going = subst (λ (p : Standing). IsIn p (length v.slots.slots.bound) v.collect.next v.add v.eject.next) c.in-Collects.is c.self.invariant.inside in
    let label = ap (λ (p : Standing). label_at p v.collect.next v.add.next v.eject.next) c.in-Collects.is in
    let of = c.feed.ensures.collects (collecting_at v.collect.next) (collection_in v.collect.next) (going_at v.collect.next going) in
    (λ e. absurd cc, λ e. absurd (collects_on (collecting_at v.collect.next) of (sym (stands c.args.self.now (the_view v) c.self.view_is (collecting_at v.collect.next) label) ∙ e)))

pub returns-in_default-clause-left : goal.returns-in_default-clause-left
returns-in_default-clause-left c =
    let v = c.self.inside in
    let going = subst (λ (p : Standing). IsIn p (length v.slots.slots.bound) v.collect.next v.add v.eject.next) c.in-Collects.is c.self.invariant.inside in
    let label = ap (λ (p : Standing). label_at p v.collect.next v.add.next v.eject.next) c.in-Collects.is in
    let of = c.feed.ensures.collects (collecting_at v.collect.next) (collection_in v.collect.next) (going_at v.collect.next going) in
    (λ e. absurd cc, λ e. absurd (collects_on (collecting_at v.collect.next) of (sym (stands c.args.self.now (the_view v) c.self.view_is (collecting_at v.collect.next) label) ∙ e)))

-- in an add
pub note-requires-clause-byte : goal.note-requires-clause-byte
note-requires-clause-byte c = λ reads.
    let v = c.self.inside in
    let s : Session = the_view v in
    let label : s.monarch.label ≡ c.label-label.result = ap (λ (p : Standing). label_at p v.collect.next v.add.next v.eject.next) c.in-Adds.is ∙ ap adding_at c.label-label.ensures.value in
    let fits = subst (λ (t : Session). Fits t c.args.answer) (sym c.self.view_is) c.requires in
    byte_of_add s.layout s.monarch c.args.answer c.label-label.result reads (λ x. subst (λ (l : Label). FitsWant (want_at s.layout x s.monarch l) c.args.answer) label (fits x))

pub feed-requires-in-Adds : goal.feed-requires-in-Adds
feed-requires-in-Adds c =
    let v = c.self.inside in
    let inside = subst (λ (p : Standing). IsIn p (length v.slots.slots.bound) v.collect.next v.add v.eject.next) c.in-Adds.is c.self.invariant.inside in
    fits_add (the_view v) c.args.answer v.add.tseg v.add.x2apic v.add.next inside.0
    (ap (λ (p : Standing). label_at p v.collect.next v.add.next v.eject.next) c.in-Adds.is)
    (subst (λ (t : Session). Fits t c.args.answer) (sym c.self.view_is) c.requires)

pub returns-in-Some-clause-monarch : goal.returns-in-Some-clause-monarch
returns-in-Some-clause-monarch c = λ x.
    let v = c.self.inside in
    let s : Session = the_view v in
    let r : Monarch = s.monarch in
    let n = value_in c.args.answer in
    let l = c.label-label.result in
    let add : r.add ≡ v.add.add = same_add l v.add.next v.add.add c.label-label.ensures.value in
    let label : r.label ≡ l = ap (λ (p : Standing). label_at p v.collect.next v.add.next v.eject.next) c.in-Adds.is ∙ ap adding_at c.label-label.ensures.value in
    let at : v.add.next ≡ AddsAt l r.add = c.label-label.ensures.value ∙ ap (AddsAt l) (sym add) in
    let leads = c.feed-in-Adds.ensures.next s.layout x r l (sym c.self.invariant.parts.looks_at) at in
    let slot : c.slot.result ≡ r.add.slot = c.slot.ensures.value ∙ ap (λ (a : Add). a.slot) (sym add) in
    let old : c.as_mut_slice.result.now ≡ r.last = c.as_mut_slice.ensures.value in
    let bytes = add_noted s.layout x r l n c.note.new.last c.label-label.ensures.adds (λ reads. c.note.ensures.read reads ∙ ap (λ bs. slice_set bs c.slot.result n) old ∙ ap (λ k. slice_set r.last k n) slot) (λ a b. c.note.ensures.other a b ∙ old) in
    let kept : (with_items v.last c.note.new.last).items ≡ c.note.new.last = with_items_is v.last c.note.new.last (c.note.ensures.bytes ∙ c.as_mut_slice.ensures.len) in
    ap (λ (m : Monarch). record s { monarch = m })
    (ap (λ bs. record r { label = labels.T; last = bs; add = add_in c.feed-in-Adds.new.self.next c.feed-in-Adds.new.self.add; outcome = c.in-Some.outcome }) kept
    ∙ add_ends s.layout x r n l c.feed-in-Adds.new.self.next c.in-Some.outcome c.note.new.last (add_in c.feed-in-Adds.new.self.next c.feed-in-Adds.new.self.add) leads bytes c.in-Some.ensures.value
    (ended_add c.feed-in-Adds.new.self.next c.in-Some.outcome v.add.add c.feed-in-Adds.new.self.add c.in-Some.ensures.value c.feed-in-Adds.ensures.add ∙ sym add)
    ∙ ap (λ (k : Label). (next_at s.layout x r k n).monarch) (sym label))
    ∙ ap (λ (t : Session). record t { monarch = (next_at t.layout x t.monarch t.monarch.label n).monarch }) c.self.view_is

-- in an eject
pub feed-requires-in-Ejects : goal.feed-requires-in-Ejects
feed-requires-in-Ejects c =
    let v = c.self.inside in
    let inside = subst (λ (p : Standing). IsIn p (length v.slots.slots.bound) v.collect.next v.add v.eject.next) c.in-Ejects.is c.self.invariant.inside in
    fits_eject (the_view v) c.args.answer v.eject.tseg v.eject.next inside
    (ap (λ (p : Standing). label_at p v.collect.next v.add.next v.eject.next) c.in-Ejects.is)
    (subst (λ (t : Session). Fits t c.args.answer) (sym c.self.view_is) c.requires)

pub returns-in-Some-outcome-clause-left : goal.returns-in-Some-outcome-clause-left
returns-in-Some-outcome-clause-left c =
    let v = c.self.inside in
    let inside = subst (λ (p : Standing). IsIn p (length v.slots.slots.bound) v.collect.next v.add v.eject.next) c.in-Ejects.is c.self.invariant.inside in
    let label = ap (λ (p : Standing). label_at p v.collect.next v.add.next v.eject.next) c.in-Ejects.is in
    let of = c.feed-in-Ejects.ensures.ejects (ejecting_at v.eject.next) (eject_in v.eject.next v.eject.eject) (eject_at v.eject.next v.eject.eject inside) in
    (λ e. absurd cc, λ e. absurd (ejects_on (ejecting_at v.eject.next) of (sym (stands c.args.self.now (the_view v) c.self.view_is (ejecting_at v.eject.next) label) ∙ e)))

pub returns-in_default-outcome-2-clause-left : goal.returns-in_default-outcome-2-clause-left
returns-in_default-outcome-2-clause-left c =
    let v = c.self.inside in
    let inside = subst (λ (p : Standing). IsIn p (length v.slots.slots.bound) v.collect.next v.add v.eject.next) c.in-Ejects.is c.self.invariant.inside in
    let label = ap (λ (p : Standing). label_at p v.collect.next v.add.next v.eject.next) c.in-Ejects.is in
    let of = c.feed-in-Ejects.ensures.ejects (ejecting_at v.eject.next) (eject_in v.eject.next v.eject.eject) (eject_at v.eject.next v.eject.eject inside) in
    (λ e. absurd cc, λ e. absurd (ejects_on (ejecting_at v.eject.next) of (sym (stands c.args.self.now (the_view v) c.self.view_is (ejecting_at v.eject.next) label) ∙ e)))
