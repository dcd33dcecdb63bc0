-- Putting a processor where it is, and where a processor in SMM lies.
use Rattle.std.proofs.Common.{◌≡◌, ℕ, zero, suc, Bool, true, false, List, [], ◌∷◌, refl, ap, ◌∙◌}
use Rattle.std.specs.Prelude.{slice_set, if◌then◌else◌}
use Rattle.hp_model.specs.declared.processors.Cpu.{Cpu}
use Rattle.hp_model.specs.Cpu.{cpu_at, moved}
use Rattle.hp_model.specs.Access.{stands_in_smm}
use Rattle.hp_platform.specs.Board.{moved_to}

set-own : (cs : List Cpu) (k : ℕ) → slice_set cs k (cpu_at cs k) ≡ cs
set-own [] k = refl
set-own (c ∷ cs) zero = refl
set-own (c ∷ cs) (suc k) = ap (λ (ds : List Cpu). c ∷ ds) (set-own cs k)

pub moved_to-stays : (cs : List Cpu) (k address base : ℕ) → stands_in_smm (cpu_at cs k) ≡ false → slice_set cs k (moved_to address base (cpu_at cs k)) ≡ cs
moved_to-stays cs k address base out = ap (λ (b : Bool). slice_set cs k (if b then moved address base (cpu_at cs k) else cpu_at cs k)) out ∙ set-own cs k

pub moved_to-moves : (cs : List Cpu) (k address base : ℕ) → stands_in_smm (cpu_at cs k) ≡ true → slice_set cs k (moved_to address base (cpu_at cs k)) ≡ slice_set cs k (moved address base (cpu_at cs k))
moved_to-moves cs k address base here = ap (λ (b : Bool). slice_set cs k (if b then moved address base (cpu_at cs k) else cpu_at cs k)) here

pub ruleset setting = (moved_to-stays, moved_to-moves)
