use Rattle.std.proofs.Common.{◌≡◌, ◌<◌, ◌≤◌, ℕ, true}
use Rattle.std.specs.Arc.{arc_value}
use Rattle.hp_model.specs.Block.{is_in}
use Rattle.hp_gate.specs.Openings.{apics_of}
use Rattle.hp_gate.specs.Seats.{is_idle}
use Rattle.hp_gate_tests.proofs.drills.lead.Given as goal

abbrev pub invariant-openings : goal.invariant-openings
invariant-openings l = record { mine : l.seat.gate ≡ arc_value l.gate; idle : is_idle l.seat.view.stage ≡ true; listed : (a : ℕ) → 0 < a → a ≤ 4 → is_in a (apics_of l.seat.view.list) ≡ true }
