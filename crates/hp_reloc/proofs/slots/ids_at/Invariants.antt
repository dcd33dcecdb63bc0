-- The APIC IDs of the places so far.
use Rattle.std.proofs.Common.{◌≡◌, get_or, map, take}
use Rattle.hp_model.specs.Platform.{no_id}
use Rattle.hp_reloc.proofs.slots.ids_at.Given as goal

abbrev pub invariant-loop-place : goal.invariant-loop-place
invariant-loop-place l = l.ids.items ≡ map (λ k. get_or l.apic k no_id) (take l.place-index l.places)
