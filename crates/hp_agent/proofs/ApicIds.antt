-- The APIC ID in a place is a possible one.
use Rattle.std.proofs.Common.{◌≡◌, ◌<◌, ℕ, true, List, length, subst}
use Rattle.std.specs.Prelude.{slice_index_or}
use Rattle.hp_model.proofs.Counts.{in_at}
use Rattle.hp_model.specs.Block.{is_in}

pub is_possible : (ids xs : List ℕ) (k d : ℕ) → ids ≡ xs → k < length ids → is_in (slice_index_or ids k d) xs ≡ true
is_possible ids xs k d same within = subst (λ (ys : List ℕ). is_in (slice_index_or ids k d) ys ≡ true) same (in_at ids k d within)
