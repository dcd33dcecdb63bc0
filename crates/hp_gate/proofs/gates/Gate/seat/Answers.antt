use Rattle.std.proofs.Common.{rules, ◌≡◌, ◌<◌, length, sym, ap, ◌∙◌, subst}
use Rattle.hp_gate.specs.declared.views.View.TheVariants.{Cpu}
use Rattle.hp_gate.specs.Openings.{named_at}
use Rattle.hp_gate.specs.Seats.{MonarchSeen, cpu_at}
use Rattle.hp_gate.specs.Steps.{monarch_of, seats_cpu, cpu_start}
use Rattle.hp_gate.proofs.Knowing.{named_at_index}
use Rattle.hp_gate.proofs.Moves.{may_seat}
use Rattle.hp_gate.proofs.gates.Gate.seat.Goals as goal

pub split_seat-place-requires : goal.split_seat-place-requires
split_seat-place-requires c = (search rules, search rules, may_seat _ _ (monarch_of c.m.inside.place.me.0) c.m.invariant.is (subst (λ (s : MonarchSeen). s.view.seats < length s.view.list) (sym c.m.view_is) c.requires.room))

pub sit-requires : goal.sit-requires
sit-requires c =
    let k = c.m.invariant in
    let room : c.m.inside.seats < length c.m.inside.list.items = search rules in
    ap (λ z. z.0) c.split_seat-place.ensures.4 ∙ ap seats_cpu k.is ∙ (λ i. Cpu (cpu_start (named_at (k.list_is i) (k.seats_is i)))) ∙ ap (λ x. Cpu (cpu_start x)) (named_at_index _ _ _ room ∙ sym c.index-named.ensures)

pub returns-clause-cpu : goal.returns-clause-cpu
returns-clause-cpu c =
    let k = c.m.invariant in
    let room : c.m.inside.seats < length c.m.inside.list.items = search rules in
    let next : c.index-named.result.now ≡ named_at (monarch_of c.m.inside.place.me.0).list (monarch_of c.m.inside.place.me.0).seats =
    c.index-named.ensures ∙ sym (named_at_index _ _ _ room) ∙ sym (λ i. named_at (k.list_is i) (k.seats_is i)) in
    c.sit.ensures ∙ (λ i. cpu_at (c.split_seat-place.ensures.3 i) (cpu_start (next i))) ∙ ap (λ (s : MonarchSeen). cpu_at s.gate (cpu_start (named_at s.view.list s.view.seats))) c.m.view_is
