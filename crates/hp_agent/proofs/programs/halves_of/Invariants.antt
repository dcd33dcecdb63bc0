-- The high halves so far are those of the places so far.
use Rattle.std.proofs.Common.{◌≡◌, map, take}
use Rattle.hp_model.specs.Platform.{high_half}
use Rattle.hp_agent.proofs.programs.halves_of.Given as goal

abbrev pub invariant-loop-place : goal.invariant-loop-place
invariant-loop-place l = l.halves.items ≡ map (high_half l.p.x2apic) (take l.place l.ids)
