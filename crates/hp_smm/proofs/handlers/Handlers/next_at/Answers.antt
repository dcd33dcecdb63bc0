-- The monarch's row is the one where its record stands, and goes on where its record does.
use Rattle.std.proofs.Common.{rules, ◌≡◌, ap, sym, subst, ◌∙◌}
use Rattle.hp_model.specs.Boot.{value_in}
use Rattle.hp_model.specs.Handlers.{next_at}
use Rattle.hp_model.specs.declared.labels.Handler.TheVariants.{Monarch as Monarchs}
use Rattle.hp_model.specs.Labels.{handler_of}
use Rattle.hp_monarch.specs.Session.{Fits, Session}
use Rattle.hp_smm.specs.Rows.{IsLow, seat_for}
use Rattle.hp_smm.proofs.Due.{monarch_label, stands_low}
use Rattle.hp_smm.proofs.Going.{fits_all, next_is}
use Rattle.hp_smm.proofs.handlers.Handlers.next_at.Goals as goal

pub feed-requires : goal.feed-requires
feed-requires c =
    let h = c.args.self.now in
    let s = c.args.me.now in
    let its : handler_of c.args.label ≡ Monarchs = sym c.position_of.ensures.handler ∙ c.in-Monarch.is in
    let at : c.args.label ≡ h.monarch.label = monarch_label h.layout h.monarch s.cpu s.smbase s.mark c.args.label c.requires.row its in
    subst (λ (k : Session). Fits k c.args.answer) (sym c.self.view_is) (fits_all h (seat_for h s) c.args.label c.args.answer at its c.requires.fits)

pub returns-in-Monarch-clause-next : goal.returns-in-Monarch-clause-next
returns-in-Monarch-clause-next c =
    let h = c.args.self.now in
    let s = c.args.me.now in
    let its : handler_of c.args.label ≡ Monarchs = sym c.position_of.ensures.handler ∙ c.in-Monarch.is in
    let at : c.args.label ≡ h.monarch.label = monarch_label h.layout h.monarch s.cpu s.smbase s.mark c.args.label c.requires.row its in
    let fed : c.feed.new.self ≡ record h { monarch = (next_at h.layout (seat_for h s) h.monarch h.monarch.label (value_in c.args.answer)).monarch } =
    subst (λ (k : Session). c.feed.new.self ≡ record k { monarch = (next_at k.layout (seat_for h s) k.monarch k.monarch.label (value_in c.args.answer)).monarch }) c.self.view_is (c.feed.ensures.monarch (seat_for h s)) in
    next_is h c.feed.new.self (seat_for h s) c.args.label (value_in c.args.answer) c.label.result at its fed (search rules)

pub returns-in-Monarch-clause-layout : goal.returns-in-Monarch-clause-layout
returns-in-Monarch-clause-layout c =
    ap (λ (k : Session). k.layout) (c.feed.ensures.monarch (seat_for c.args.self.now c.args.me.now)) ∙ ap (λ (k : Session). k.layout) c.self.view_is

pub returns-in-First-clause-low : goal.returns-in-First-clause-low
returns-in-First-clause-low c =
    stands_low c.args.self.now c.args.me.now c.args.label (subst (λ (k : Session). IsLow k.layout) c.self.view_is c.self.invariant) c.requires.row

pub returns-in-Relocated-clause-low : goal.returns-in-Relocated-clause-low
returns-in-Relocated-clause-low c =
    stands_low c.args.self.now c.args.me.now c.args.label (subst (λ (k : Session). IsLow k.layout) c.self.view_is c.self.invariant) c.requires.row

pub returns-in-Monarch-clause-low : goal.returns-in-Monarch-clause-low
returns-in-Monarch-clause-low c =
    stands_low c.args.self.now c.args.me.now c.args.label (subst (λ (k : Session). IsLow k.layout) c.self.view_is c.self.invariant) c.requires.row

pub invariant_of-self : goal.invariant_of-self
invariant_of-self c = subst IsLow (sym (ap (λ (k : Session). k.layout) (c.feed.ensures.monarch (seat_for c.args.self.now c.args.me.now)))) c.self.invariant
