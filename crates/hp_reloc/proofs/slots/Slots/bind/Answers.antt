-- There is room for one more, which is distinct from those that are bound.
use Rattle.std.proofs.Common.{rules, ◌≡◌, ◌++◌, ◌∷◌, [], true, false, vec_capacity, arith, ap}
use Rattle.hp_model.specs.Block.{is_in}
use Rattle.hp_reloc.proofs.Adding.{not_bound, room_for, sound_more}
use Rattle.hp_reloc.proofs.slots.Slots.bind.Goals as goal

pub unwrap-requires : goal.unwrap-requires
unwrap-requires c =
    let out : is_in c.args.apic c.self.inside.bound.items ≡ false = not_bound c.args.apic c.as_slice.result.now c.self.inside.bound.items c.in_default.ensures c.as_slice.ensures.value in
    let possible : is_in c.args.apic c.self.inside.possible.items ≡ true = rw (ap (λ r. r.possible) c.self.view_is) c.requires.possible in
    let few = room_for c.self.inside.bound.items c.self.inside.known.items c.self.inside.possible.items (vec_capacity c.self.inside.bound) (vec_capacity c.self.inside.known) c.args.apic c.self.invariant out possible in
    c.push.ensures.succeeds (omega (arith, few, c.self.invariant.fits, c.self.inside.bound.ok))

pub unwrap-requires-2 : goal.unwrap-requires-2
unwrap-requires-2 c =
    let out : is_in c.args.apic c.self.inside.bound.items ≡ false = not_bound c.args.apic c.as_slice.result.now c.self.inside.bound.items c.in_default.ensures c.as_slice.ensures.value in
    let possible : is_in c.args.apic c.self.inside.possible.items ≡ true = rw (ap (λ r. r.possible) c.self.view_is) c.requires.possible in
    let few = room_for c.self.inside.bound.items c.self.inside.known.items c.self.inside.possible.items (vec_capacity c.self.inside.bound) (vec_capacity c.self.inside.known) c.args.apic c.self.invariant out possible in
    c.push-2.ensures.succeeds (omega (arith, few, c.self.invariant.fits_known, c.self.invariant.same, c.self.inside.known.ok))

pub invariant_of-self-2 : goal.invariant_of-self-2
invariant_of-self-2 c =
    let out : is_in c.args.apic c.self.inside.bound.items ≡ false = not_bound c.args.apic c.as_slice.result.now c.self.inside.bound.items c.in_default.ensures c.as_slice.ensures.value in
    let possible : is_in c.args.apic c.self.inside.possible.items ≡ true = rw (ap (λ r. r.possible) c.self.view_is) c.requires.possible in
    let bound : c.push.new.self.items ≡ c.self.inside.bound.items ++ c.args.apic ∷ [] = search rules in
    let known : c.push-2.new.self.items ≡ c.self.inside.known.items ++ false ∷ [] = search rules in
    rw (bound, known) (sound_more c.self.inside.bound.items c.self.inside.known.items c.self.inside.possible.items (vec_capacity c.self.inside.bound) (vec_capacity c.self.inside.known) (vec_capacity c.push.new.self) (vec_capacity c.push-2.new.self) c.args.apic c.self.invariant out possible c.push.ensures.capacity c.push-2.ensures.capacity)
