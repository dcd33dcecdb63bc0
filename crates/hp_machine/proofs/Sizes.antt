-- How many processors and slots there are stays; who stands in SMM is one of the processors.
use Rattle.std.proofs.Common.{◌≡◌, ◌≤◌, ◌<◌, ℕ, zero, suc, Bool, true, false, List, [], ◌∷◌, length, Option, Some, None, refl, ◌∙◌, ap, arith}
use Rattle.std.proofs.Math.ListN.{length-set}
use Rattle.std.proofs.lemmas.List.{get_or_past}
use Rattle.hp_model.specs.declared.processors.Cpu.{Cpu}
use Rattle.hp_model.specs.declared.processors.Kind.{Kind}
use Rattle.hp_model.specs.declared.processors.Ipi.{Ipi}
use Rattle.hp_model.specs.declared.processors.Kind.TheVariants.{Smi}
use Rattle.hp_model.specs.Cpu.{absent, cpu_at, hit}
use Rattle.std.specs.Prelude.{slice_set, if◌then◌else◌}
use Rattle.hp_model.specs.Block.{Block, block_write, with_insert, with_removal}
use Rattle.hp_model.specs.Interrupts.{is_target, hit_each, sent, smi_raised}
use Rattle.hp_model.specs.Ports.{without_ejected}
use Rattle.hp_model.specs.Access.{stands_in_smm}
use Rattle.hp_regs.proofs.Ejects.{stays_count, inserted_count, requested_count}
use Rattle.hp_machine.specs.Machine.{IsSized}

pub length-without_ejected : (e : Option ℕ) (cs : List Cpu) → length (without_ejected e cs) ≡ length cs
length-without_ejected None cs = refl
length-without_ejected (Some k) cs = length-set cs k absent

pub length-hit_each : (aims : ℕ → Bool) (kind : Kind) (ids : List ℕ) (cs : List Cpu) → length (hit_each aims kind ids cs) ≡ length cs
unfolding hit_each
length-hit_each aims kind [] cs = refl
length-hit_each aims kind (id ∷ ids) [] = refl
length-hit_each aims kind (id ∷ ids) (c ∷ cs) = ap suc (length-hit_each aims kind ids cs)

pub length-sent : (i : Option Ipi) (sender : ℕ) (ids : List ℕ) (cs : List Cpu) → length (sent i sender ids cs) ≡ length cs
length-sent None sender ids cs = refl
length-sent (Some ipi) sender ids cs = length-hit_each (is_target ipi.to sender) ipi.kind ids cs

pub length-smi_raised : (all : Bool) (k : ℕ) (ids : List ℕ) (cs : List Cpu) → length (smi_raised all k ids cs) ≡ length cs
length-smi_raised true k ids cs = length-hit_each (λ id. true) Smi ids cs
length-smi_raised false k ids cs = length-set cs k (hit Smi (cpu_at cs k))

length-raised : (raises all : Bool) (k : ℕ) (ids : List ℕ) (cs : List Cpu) → length (if raises then smi_raised all k ids cs else cs) ≡ length cs
length-raised true all k ids cs = length-smi_raised all k ids cs
length-raised false all k ids cs = refl

module _ (apic : List ℕ) (cs : List Cpu) (b : Block) (sized : IsSized apic cs b) where
  pub sized_block : (offset width value : ℕ) (e : Option ℕ) (c : Block) (ds : List Cpu) → c ≡ block_write b offset width value → ds ≡ without_ejected e cs → IsSized apic ds c
  sized_block offset width value e c ds block cpus = record {
    same_cpus = ap length cpus ∙ length-without_ejected e cs ∙ sized.same_cpus;
    same_slots = ap (λ (x : Block). length x.slots) block ∙ stays_count b offset width value ∙ sized.same_slots;
    few = sized.few;
  }

  pub sized_raised : (raises all : Bool) (k : ℕ) (ids : List ℕ) (ds : List Cpu) → ds ≡ (if raises then smi_raised all k ids cs else cs) → IsSized apic ds b
  sized_raised raises all k ids ds cpus = record { same_cpus = ap length cpus ∙ length-raised raises all k ids cs ∙ sized.same_cpus; same_slots = sized.same_slots; few = sized.few }

  pub sized_sent : (i : Option Ipi) (sender : ℕ) (ids : List ℕ) (ds : List Cpu) → ds ≡ sent i sender ids cs → IsSized apic ds b
  sized_sent i sender ids ds cpus = record { same_cpus = ap length cpus ∙ length-sent i sender ids cs ∙ sized.same_cpus; same_slots = sized.same_slots; few = sized.few }

  pub sized_set : (k : ℕ) (x : Cpu) (ds : List Cpu) → ds ≡ slice_set cs k x → IsSized apic ds b
  sized_set k x ds cpus = record { same_cpus = ap length cpus ∙ length-set cs k x ∙ sized.same_cpus; same_slots = sized.same_slots; few = sized.few }

  pub sized_insert : (k : ℕ) (x : Cpu) (c : Block) (ds : List Cpu) → c ≡ with_insert b k → ds ≡ slice_set cs k x → IsSized apic ds c
  sized_insert k x c ds block cpus = record {
    same_cpus = ap length cpus ∙ length-set cs k x ∙ sized.same_cpus;
    same_slots = ap (λ (y : Block). length y.slots) block ∙ inserted_count b k ∙ sized.same_slots;
    few = sized.few;
  }

  pub sized_removal : (k : ℕ) (c : Block) → c ≡ with_removal b k → IsSized apic cs c
  sized_removal k c block = record {
    same_cpus = sized.same_cpus;
    same_slots = ap (λ (y : Block). length y.slots) block ∙ requested_count b k ∙ sized.same_slots;
    few = sized.few;
  }

pub cpu_at-past : (cs : List Cpu) (k : ℕ) → length cs ≤ k → cpu_at cs k ≡ absent
cpu_at-past cs k past = get_or_past cs k absent past

pub ruleset past_cpus = (cpu_at-past)

-- absent processors don't stand in SMM
pub standing-within : (cs : List Cpu) (k : ℕ) → stands_in_smm (cpu_at cs k) ≡ true → k < length cs
standing-within [] k stands = cc
standing-within (c ∷ cs) zero stands = omega arith
standing-within (c ∷ cs) (suc k) stands = omega (arith, standing-within cs k stands)

pub ruleset standing = (standing-within)
