-- A place and an APIC ID have 32 bits, a status 8.
use Rattle.std.proofs.Common.{rules, ◌≡◌, arith}
use Rattle.hp_model.specs.declared.labels.Label.TheVariants.{C3, C4, C6}
use Rattle.hp_model.specs.Collection.{CollectsAt}
use Rattle.hp_collect.specs.Collecting.{collection_in}
use Rattle.hp_collect.proofs.Values.{apic_read, place_read, status_read}
use Rattle.hp_collect.proofs.collects.Collect.feed.Goals as goal

pub overflow_cast-value : goal.overflow_cast-value
overflow_cast-value c =
    let at : c.args.self.now.next ≡ CollectsAt C3 (collection_in c.args.self.now.next) = search rules in
    omega (arith, c.value-value.ensures, place_read c.args.self.now.next _ c.args.answer at c.requires)

pub overflow_cast-value-in-Some-C4 : goal.overflow_cast-value-in-Some-C4
overflow_cast-value-in-Some-C4 c =
    let at : c.args.self.now.next ≡ CollectsAt C4 (collection_in c.args.self.now.next) = search rules in
    omega (arith, c.value-value.ensures, status_read c.args.self.now.next _ c.args.answer at c.requires)

pub overflow_cast-value-in-Some-C6 : goal.overflow_cast-value-in-Some-C6
overflow_cast-value-in-Some-C6 c =
    let at : c.args.self.now.next ≡ CollectsAt C6 (collection_in c.args.self.now.next) = search rules in
    omega (arith, c.value-value.ensures, apic_read c.args.self.now.next _ c.args.answer at c.requires)
