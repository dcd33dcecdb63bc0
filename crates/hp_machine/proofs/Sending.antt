-- Hitting one place after another.
use Rattle.std.proofs.Common.{◌≡◌, ℕ, zero, suc, ◌+◌, ◌<◌, ◌≤◌, Bool, true, false, List, [], ◌∷◌, length, get_or, refl, sym, ap, add-one, arith}
use Rattle.std.proofs.Math.ListN.{length-set}
use Rattle.std.specs.Prelude.{slice_set}
use Rattle.hp_model.specs.declared.processors.Cpu.{Cpu}
use Rattle.hp_model.specs.declared.processors.Kind.{Kind}
use Rattle.hp_model.specs.Cpu.{hit, cpu_at}
use Rattle.hp_model.specs.Interrupts.{hit_each}
use Rattle.hp_machine.specs.Machine.{hit_at, hit_from}

module _ (aims : ℕ → Bool) (kind : Kind) where
  hit_suc : (ids : List ℕ) (cs : List Cpu) (k : ℕ) → k < length ids → length cs ≡ length ids → aims (get_or ids k 0) ≡ true →
      hit_from aims kind k ids cs ≡ hit_from aims kind (suc k) ids (slice_set cs k (hit kind (cpu_at cs k)))
  unfolding hit_from hit_each
  hit_suc [] cs k within same aimed = absurd (omega arith)
  hit_suc (id ∷ ids) [] k within same aimed = absurd (omega arith)
  hit_suc (id ∷ ids) (c ∷ cs) zero within same aimed = rw aimed refl
  hit_suc (id ∷ ids) (c ∷ cs) (suc k) within same aimed =
      let less : k < length ids = omega arith in
      let rest : length cs ≡ length ids = omega arith in
      ap (λ (xs : List Cpu). c ∷ xs) (hit_suc ids cs k less rest aimed)

  miss_suc : (ids : List ℕ) (cs : List Cpu) (k : ℕ) → k < length ids → length cs ≡ length ids → aims (get_or ids k 0) ≡ false →
      hit_from aims kind k ids cs ≡ hit_from aims kind (suc k) ids cs
  unfolding hit_from hit_each
  miss_suc [] cs k within same aimed = absurd (omega arith)
  miss_suc (id ∷ ids) [] k within same aimed = absurd (omega arith)
  miss_suc (id ∷ ids) (c ∷ cs) zero within same aimed = rw aimed refl
  miss_suc (id ∷ ids) (c ∷ cs) (suc k) within same aimed =
      let less : k < length ids = omega arith in
      let rest : length cs ≡ length ids = omega arith in
      ap (λ (xs : List Cpu). c ∷ xs) (miss_suc ids cs k less rest aimed)

  -- the next place is hit, or passed over
  pub hit_next : (is_aimed : Bool) (ids : List ℕ) (cs : List Cpu) (k : ℕ) → k < length ids → length cs ≡ length ids → is_aimed ≡ aims (get_or ids k 0) →
      hit_from aims kind (k + 1) ids (hit_at is_aimed kind k cs) ≡ hit_from aims kind k ids cs
  hit_next true ids cs k within same aimed = rw add-one (sym (hit_suc ids cs k within same (sym aimed)))
  hit_next false ids cs k within same aimed = rw add-one (sym (miss_suc ids cs k within same (sym aimed)))

  -- nothing is left
  pub hit_end : (ids : List ℕ) (cs : List Cpu) (k : ℕ) → length ids ≤ k → length cs ≡ length ids → hit_from aims kind k ids cs ≡ cs
  unfolding hit_from hit_each
  hit_end [] [] zero past same = refl
  hit_end [] [] (suc k) past same = refl
  hit_end [] (c ∷ cs) k past same = absurd (omega arith)
  hit_end (id ∷ ids) [] k past same = absurd (omega arith)
  hit_end (id ∷ ids) (c ∷ cs) zero past same = absurd (omega arith)
  hit_end (id ∷ ids) (c ∷ cs) (suc k) past same =
      let less : length ids ≤ k = omega arith in
      let rest : length cs ≡ length ids = omega arith in
      ap (λ (xs : List Cpu). c ∷ xs) (hit_end ids cs k less rest)

  -- all is left
  pub hit_start : (ids : List ℕ) (cs : List Cpu) → hit_from aims kind 0 ids cs ≡ hit_each aims kind ids cs
  unfolding hit_from
  hit_start ids cs = refl

pub length-hit_at : (is_aimed : Bool) (kind : Kind) (k : ℕ) (cs : List Cpu) → length (hit_at is_aimed kind k cs) ≡ length cs
length-hit_at true kind k cs = length-set cs k (hit kind (cpu_at cs k))
length-hit_at false kind k cs = refl

pub ruleset hits = (hit_next, hit_end, hit_start, length-hit_at)
