-- There are at most 512 slots, and those that are known are some of them.
use Rattle.std.proofs.Common.{◌≡◌, ◌∙◌, arith}
use Rattle.hp_model.specs.Slots.{slot_among}
use Rattle.hp_monarch.proofs.Adds.{slot_or}
use Rattle.hp_monarch.proofs.Deciding.{true_below}
use Rattle.hp_monarch.proofs.decisions.bound_slot.Goals as goal

pub returns-clause-known : goal.returns-clause-known
returns-clause-known c = λ known.
    let s = c.args.slots.now.slots in
    let a = c.args.apic in
    let is : c.unwrap_or.result ≡ slot_among s.bound a = c.unwrap_or.ensures ∙ rw (c.bound.ensures, c.count.ensures.value) (slot_or s a) in
    omega (arith, is, true_below s.known (slot_among s.bound a) known, c.count.ensures.known, c.count.ensures.few)
