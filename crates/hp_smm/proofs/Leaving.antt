-- A relocated processor leaves only once it was released.
use Rattle.std.proofs.Common.{◌≡◌, ◌⊎◌, inl, inr, ℕ, Bool, true, false, cond, ◌==◌, refl, arith}
use Rattle.std.proofs.lemmas.Bool.Decides.{nat_tests}
use Rattle.hp_model.specs.declared.labels.Label.{Label}
use Rattle.hp_model.specs.declared.labels.Label.TheVariants.{R1, R2, R3, R4, R5, R6}
use Rattle.hp_model.specs.Handlers.{Seat, next_at}
use Rattle.hp_model.specs.declared.labels.Handler.TheVariants.{Relocated}
use Rattle.hp_model.specs.Labels.{handler_of}
use Rattle.hp_model.specs.Monarch.{Monarch}
use Rattle.hp_model.specs.SharedBytes.{Layout}

by_2 : (b : Bool) (l : Label) → cond b R6 R3 ≡ l → (l ≡ R6) ⊎ (l ≡ R3)
by_2 true l e = inl cc
by_2 false l e = inr cc

-- from R3
was_one : (v : ℕ) (b : Bool) → (v == 1) ≡ b → cond b R4 R1 ≡ R4 → v ≡ 1
was_one v true e g = grind (arith, nat_tests, e)
was_one v false e g = absurd cc

not_R5 : (b : Bool) → cond b R4 R1 ≡ R5 → ⊥
not_R5 true e = absurd cc
not_R5 false e = absurd cc

pub released : (y : Layout) (x : Seat) (r : Monarch) (l : Label) (v : ℕ) → handler_of l ≡ Relocated → (next_at y x r l v).label ≡ R4 → (l ≡ R3) × (v ≡ 1)
released y x r R2 v m g = elim (by_2 (v == 1) R4 g) [ inl p ↦ absurd cc | inr p ↦ absurd cc ]
released y x r R3 v m g = (refl, was_one v (v == 1) refl g)
released y x r _ v m g = absurd cc

pub gone : (y : Layout) (x : Seat) (r : Monarch) (l : Label) (v : ℕ) → handler_of l ≡ Relocated → (next_at y x r l v).label ≡ R5 → (l ≡ R4) ⊎ (l ≡ R5)
gone y x r R2 v m g = elim (by_2 (v == 1) R5 g) [ inl p ↦ absurd cc | inr p ↦ absurd cc ]
gone y x r R3 v m g = absurd (not_R5 (v == 1) g)
gone y x r R4 v m g = inl refl
gone y x r R5 v m g = inr refl
gone y x r _ v m g = absurd cc

pub ruleset leaves = (released, gone)
