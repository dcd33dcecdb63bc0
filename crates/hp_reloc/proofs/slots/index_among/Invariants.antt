-- The APIC ID is among those from here on exactly where it is among all, and so many places further on.
use Rattle.std.proofs.Common.{◌≡◌, ◌+◌, drop}
use Rattle.hp_model.specs.Block.{is_in}
use Rattle.hp_model.specs.Slots.{slot_among}
use Rattle.hp_reloc.proofs.slots.index_among.Given as goal

abbrev pub invariant-loop-index : goal.invariant-loop-index
invariant-loop-index l = record {
  among : is_in l.apic (drop l.index l.ids) ≡ is_in l.apic l.ids;
  slot : slot_among (drop l.index l.ids) l.apic + l.index ≡ slot_among l.ids l.apic;
}
