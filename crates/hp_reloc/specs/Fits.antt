-- Answers that fit what the first handler wants.
use Rattle.std.specs.Prelude.{ℕ}
use Rattle.hp_model.specs.declared.accesses.Answer.{Answer}
use Rattle.hp_model.specs.declared.labels.Label.{Label}
use Rattle.hp_model.specs.Fitting.{FitsWant}
use Rattle.hp_model.specs.Handlers.{want_at}
use Rattle.hp_model.specs.Monarch.{Monarch}
use Rattle.hp_model.specs.SharedBytes.{Layout}

-- the answer fits what the first handler wants at this label, for this APIC ID and base: no layout, slot or monarch matters
abbrev pub FitsFirst : Label → ℕ → ℕ → Answer → Type 0
FitsFirst l apic base answer = (y : Layout) (slot : ℕ) (r : Monarch) → FitsWant (want_at y (record { apic = apic; slot = slot; base = base }) r l) answer
