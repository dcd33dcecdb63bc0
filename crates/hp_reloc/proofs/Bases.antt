-- The base that is loaded has 4 bytes.
use Rattle.std.proofs.Common.{◌≡◌, ℕ, ◌^◌, ◌<◌, subst}
use Rattle.hp_model.specs.declared.accesses.Answer.{Answer}
use Rattle.hp_model.specs.declared.accesses.Answer.TheVariants.{Quiet, Value}
use Rattle.hp_model.specs.declared.labels.Label.{Label}
use Rattle.hp_model.specs.declared.labels.Label.TheVariants.{F2}
use Rattle.hp_model.specs.Bare.{bare_monarch, layout_at}
use Rattle.hp_model.specs.Boot.{value_in}
use Rattle.hp_reloc.specs.Fits.{FitsFirst}

base_fits : (apic base : ℕ) (answer : Answer) → FitsFirst F2 apic base answer → value_in answer < 2 ^ 32
base_fits apic base Quiet h = absurd (h (layout_at 0) 0 bare_monarch)
base_fits apic base (Value v) h = h (layout_at 0) 0 bare_monarch

pub base_below : (l : Label) (apic base : ℕ) (answer : Answer) → l ≡ F2 → FitsFirst l apic base answer → value_in answer < 2 ^ 32
base_below l apic base answer e h = base_fits apic base answer (subst (λ (k : Label). FitsFirst k apic base answer) e h)
