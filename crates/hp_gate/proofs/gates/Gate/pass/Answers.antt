use Rattle.std.proofs.Common.{rules, ◌≡◌, sym, ap, ◌∙◌}
use Rattle.hp_gate.specs.declared.views.Work.TheVariants.{Free}
use Rattle.hp_gate.specs.Seats.{CpuSeen}
use Rattle.hp_gate.specs.Steps.{cpu_of, after_load, on_cpu}
use Rattle.hp_gate.proofs.Knowing.{names_split, passes_through}
use Rattle.hp_gate.proofs.Moves.{may_load, may_exchange}
use Rattle.hp_gate.proofs.gates.Gate.pass.Goals as goal

pub load-seen-requires : goal.load-seen-requires
load-seen-requires c = (search rules, search rules, may_load _ _ _ (cpu_of c.c.inside.place.me.0) c.c.invariant.is)

pub compare_exchange-found-requires : goal.compare_exchange-found-requires
compare_exchange-found-requires c =
    let k = c.c.invariant in
    let n = names_split c.c.inside.apic c.load-seen.result (sym c.names_apic.ensures ∙ c.if-not-names_apic.false) in
    let free : (cpu_of c.c.inside.place.me.0).work ≡ Free = ap (λ (s : CpuSeen). s.view.work) c.c.view_is ∙ c.requires.free in
    (search rules, search rules, may_exchange _ _ _ _ (after_load c.load-seen.result (cpu_of c.c.inside.place.me.0)) (c.load-seen.ensures.2.1 ∙ ap (on_cpu (after_load c.load-seen.result)) k.is) free n.0 (n.1 ∙ sym k.apic_is))

pub returns : goal.returns
returns c =
    let k = c.c.invariant in
    passes_through _ _ _ _ _ _ c.c.inside.apic c.load-seen.result _ c.c.view_is k.is k.apic_is (sym c.names_apic.ensures ∙ c.if-not-names_apic.false) c.load-seen.ensures.2.1 c.if-found-seen.false
    (c.compare_exchange-found.ensures.0 ∙ c.load-seen.ensures.0) c.compare_exchange-found.ensures.2.2 c.compare_exchange-found.ensures.2.3
