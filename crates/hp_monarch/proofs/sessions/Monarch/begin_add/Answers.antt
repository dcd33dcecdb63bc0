-- An add begins.
use Rattle.std.proofs.Common.{◌≡◌, ◌≤◌, ◌<◌, [], ◌∷◌, ◌++◌, length, nat_lt, vec_capacity, if◌then◌else◌, refl, sym, ap, subst, ◌∙◌, arith}
use Rattle.hp_model.specs.declared.reports.Decision.TheVariants.{Add as ToAdd}
use Rattle.hp_model.specs.Monarch.{decision as decision_at, facts_of, with_byte}
use Rattle.hp_model.specs.Platform.{greatest_id}
use Rattle.hp_model.specs.Slots.{bind}
use Rattle.hp_reloc.specs.Relocating.{Relocating}
use Rattle.hp_reloc.specs.Roster.{Roster}
use Rattle.hp_monarch.specs.Session.{IsSound, Session}
use Rattle.hp_monarch.specs.declared.rows.Standing.TheVariants as standing
use Rattle.hp_monarch.specs.contracts.sessions.Monarch.{the_view}
use Rattle.hp_monarch.proofs.Adds.{bound_grows, bytes_more, bytes_same, slot_below}
use Rattle.hp_monarch.proofs.Deciding.{adds_free, adds_possible, adds_small, adds_unknown}
use Rattle.hp_monarch.proofs.sessions.Monarch.begin_add.Goals as goal

pub bind-slot-requires-clause-free : goal.bind-slot-requires-clause-free
bind-slot-requires-clause-free c =
    let s : Session = the_view c.self.inside in
    let t = c.args.report in
    let e = subst (λ (s : Session). decision_at (facts_of s.layout.apics s.monarch t) t ≡ ToAdd) (sym c.self.view_is) c.requires in
    adds_free (facts_of s.layout.apics s.monarch t) t e

pub bind-slot-requires-clause-unknown : goal.bind-slot-requires-clause-unknown
bind-slot-requires-clause-unknown c =
    let s : Session = the_view c.self.inside in
    let t = c.args.report in
    let e = subst (λ (s : Session). decision_at (facts_of s.layout.apics s.monarch t) t ≡ ToAdd) (sym c.self.view_is) c.requires in
    adds_unknown (facts_of s.layout.apics s.monarch t) t e

pub bind-slot-requires-clause-possible : goal.bind-slot-requires-clause-possible
bind-slot-requires-clause-possible c =
    let s : Session = the_view c.self.inside in
    let t = c.args.report in
    let e = subst (λ (s : Session). decision_at (facts_of s.layout.apics s.monarch t) t ≡ ToAdd) (sym c.self.view_is) c.requires in
    adds_possible s.layout.apics (facts_of s.layout.apics s.monarch t) t refl e

pub restart-requires-clause-apic : goal.restart-requires-clause-apic
restart-requires-clause-apic c =
    let s : Session = the_view c.self.inside in
    let t = c.args.report in
    let e = subst (λ (s : Session). decision_at (facts_of s.layout.apics s.monarch t) t ≡ ToAdd) (sym c.self.view_is) c.requires in
    rw c.self.invariant.parts.wide (adds_small (greatest_id s.layout.x2apic) s.layout.apics (facts_of s.layout.apics s.monarch t) t c.self.invariant.ids refl e)

pub invariant_of-self : goal.invariant_of-self
invariant_of-self c =
    let v = c.self.inside in
    let old = c.self.invariant in
    let a = c.args.report.apic in
    let s = v.slots.slots in
    let slots : c.bind-slot.new.self ≡ record v.slots { slots = bind a s } = c.bind-slot.ensures.slots in
    let count : c.count.result ≡ length (bind a s).bound = c.count.ensures.value ∙ ap (λ (r : Roster). length r.slots.bound) slots in
    let few : length (bind a s).bound ≤ 512 = subst (λ n. n ≤ 512) count c.count.ensures.few in
    let bytes : c.add_unread.new.last.items ≡ with_byte a s v.last.items =
    c.add_unread.ensures.bytes
    ∙ ap (λ n. if nat_lt (length v.last.items) n then v.last.items ++ 2 ∷ [] else v.last.items) count ∙ bytes_more a s v.last.items old.read in
    let grown = bound_grows a s in
    let first = old.bound in
    let slot : c.bind-slot.result < length (bind a s).bound =
    subst (λ (r : Roster). c.bind-slot.result < length r.slots.bound) slots (slot_below c.bind-slot.new.self.slots a c.bind-slot.result c.bind-slot.ensures.slot) in
    subst (λ (r : Roster). IsSound v.tseg v.count v.looks v.x2apic v.late v.slot standing.Adds r c.add_unread.new.last.items (vec_capacity c.add_unread.new.last) v.collect c.restart.new.self v.eject) (sym slots)
    (subst (λ (d : Relocating). IsSound v.tseg v.count v.looks v.x2apic v.late v.slot standing.Adds (record v.slots { slots = bind a s }) c.add_unread.new.last.items (vec_capacity c.add_unread.new.last) v.collect d v.eject) (sym c.restart.ensures)
    (record {
      bound = omega (arith, first, grown);
      read = ap length bytes ∙ bytes_same a s v.last.items old.read;
      at_most = few;
      below = old.below;
      few = old.few;
      ids = old.ids;
      fits = c.add_unread.ensures.room;
      parts = record {
        counts = old.parts.counts;
        adds = old.parts.adds;
        looks_at = old.parts.looks_at;
        wide = old.parts.wide;
        ejects = old.parts.ejects;
        awaits = old.parts.awaits;
        looks_late = old.parts.looks_late;
      };
      inside = (tt, slot);
    }))
