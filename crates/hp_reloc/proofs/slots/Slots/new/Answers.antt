-- The boot processors' APIC IDs are distinct and possible.
use Rattle.std.proofs.Common.{rules, ◌≡◌, ◌∙◌, length, replicate, true, vec_capacity, arith}
use Rattle.hp_model.specs.Slots.{boot_ids}
use Rattle.hp_reloc.proofs.Bound.{sound}
use Rattle.hp_reloc.proofs.slots.Slots.new.Goals as goal

pub invariant_of-result : goal.invariant_of-result
invariant_of-result c =
    let apic : c.as_slice.result.now ≡ c.args.p.now.apic = search rules in
    let boot : c.as_slice-2.result.now ≡ c.args.p.now.boot = search rules in
    let bound : c.in_ok-bound.bound.items ≡ boot_ids c.args.p.now = rw (← apic, ← boot) c.in_ok-bound.ensures in
    let known : c.in_ok-known.known.items ≡ replicate (length c.args.p.now.boot) true = search rules in
    let all : c.in_ok-possible.possible.items ≡ c.args.p.now.apic = search rules in
    let count : c.len-count.result ≡ length c.args.p.now.apic = search rules in
    sound c.args.p.now c.reserve.new.self.items c.reserve-2.new.self.items c.in_ok-possible.possible.items (vec_capacity c.reserve.new.self) (vec_capacity c.reserve-2.new.self) c.requires
    (c.in_ok-reserve.ensures.items ∙ bound) (c.in_ok-reserve-2.ensures.items ∙ known) all (omega (arith, count, c.in_ok-reserve.ensures.ok)) (omega (arith, count, c.in_ok-reserve-2.ensures.ok))
