use Rattle.std.proofs.Common.{true, rules, ◌≡◌, ◌+◌, sym, ap, ◌∙◌, subst, ◌<◌}
use Rattle.hp_model.specs.Block.{is_in}
use Rattle.hp_gate.specs.declared.views.Stage.TheVariants.{Stored}
use Rattle.hp_gate.specs.Openings.{apics_of, opened, base_of, word_of}
use Rattle.hp_gate.specs.Seats.{MonarchSeen, is_idle}
use Rattle.hp_gate.specs.Steps.{monarch_of, after_store, on_monarch}
use Rattle.hp_gate.proofs.Knowing.{idle_from}
use Rattle.hp_gate.proofs.Moves.{may_store, may_open}
use Rattle.hp_gate.proofs.gates.Gate.name.Goals as goal

pub store-requires : goal.store-requires
store-requires c =
    let m = monarch_of c.m.inside.place.me.0 in
    let based : c.from.result ≡ base_of m.list c.args.apic = search rules in
    let listed : is_in c.args.apic (apics_of m.list) ≡ true = ap (λ (s : MonarchSeen). is_in c.args.apic (apics_of s.view.list)) c.m.view_is ∙ c.requires.listed in
    (search rules, search rules, may_store _ _ _ _ m c.m.invariant.is (idle_from _ (ap (λ (s : MonarchSeen). is_idle s.view.stage) c.m.view_is ∙ c.requires.idle)) (record { apic = c.args.apic; listed = listed; is = based }))

pub store-requires-2 : goal.store-requires-2
store-requires-2 c =
    let m = monarch_of c.m.inside.place.me.0 in
    let based : c.from.result ≡ base_of m.list c.args.apic = search rules in (
      search rules,
      search rules,
      may_open _ _ _ _ c.args.apic (after_store c.from.result m) (c.store.ensures.2.1 ∙ ap (on_monarch (after_store c.from.result)) c.m.invariant.is) (ap Stored based) c.ranges.apic.fits
          (subst (λ (s : MonarchSeen). opened s.view < 4294967294) (sym c.m.view_is) c.requires.room) (c.word-new.ensures ∙ ap (λ k. word_of (k + 1) c.args.apic) (sym c.m.invariant.number_is))
          (ap (λ (s : MonarchSeen). is_in c.args.apic (apics_of s.view.list)) c.m.view_is ∙ c.requires.listed),
    )
